-- The theorem holds. The promise is proved once, for any sequence that goes by rows (crates matching and sequence); what is shown here is
-- the AVR's own: its result, written out.
-- Assumes nothing.
use Prim.Native.Nat.{ℕ, ◌-◌, ◌≤◌, ◌<◌}
use mathlib.Core.Path.{◌≡◌, refl, subst⁻¹}
use mathlib.Core.Logic.{◌↔◌}
use mathlib.Core.Bool.{Bool, true, false}
use mathlib.Core.List.{List, [], ◌∷◌, map}
use native.Mathlib.Omega.{arith}
use lib.ListN.{length, get_or, length-map}
use Rattle.std.specs.Prelude.{Option, None, Ok, Err}
use Rattle.protocol.specs.declared.Refusal.{Refusal}
use Rattle.device.specs.declared.model.DeviceModel.{DeviceModel}
use Rattle.device.specs.Model.{has_factory_cal}
use Rattle.matching.specs.Promise.{Each, Keeps}
use Rattle.matching.proofs.Machine.{Antitone}
use Rattle.matching.proofs.Spelled.{spelled}
use Rattle.matching.proofs.Promised as promised
use Rattle.matching.proofs.Kept.{keeps, answers_so_far}
use Rattle.sequence.specs.Events.{checked, reading}
use Rattle.sequence.specs.Calls.{ask}
use Rattle.sequence.proofs.Standing as rows
use Rattle.sheet.specs.declared.StartUp.{StartUp}
use Rattle.sheet.specs.Sheet as text
use Rattle.sheet.specs.Sheet.{given}
use Rattle.sheet.specs.Ticks.{kept}
use Rattle.sheet.proofs.Stored.{kept_stored}
use Rattle.avr_table.specs.declared.AvrStep.{AvrStep}
use Rattle.avr_table.specs.Table.{row, next, steps_for, table}
use Rattle.avr.specs.Answers.{begun, finished, is_done}
use Rattle.avr.specs.Calls.{AvrCall, into_result, sheet, after, event}
use Rattle.avr_runs.specs.Theorem.{result_of, Theorem}
use Rattle.avr_runs.proofs.States.{E, ticks, state_of, sequencer, others}

module _ (m : DeviceModel) where
  abbrev nil : E
  nil = checked 0

  pub anti : Each Antitone (table m)
  anti = rows.table_antitone (row m) (next m) AvrStep.Done (steps_for m)

  done_iff : (k : ℕ) → k ≤ length (table m) → (get_or (steps_for m) k AvrStep.Done ≡ AvrStep.Done) ↔ (k ≡ length (table m))
  done_iff = rows.done_iff (row m) (next m) AvrStep.Done (steps_for m) is_done refl (others m)

  few_rows : length (table m) ≤ 12
  few_rows = go (has_factory_cal m) refl
    where
      go : (b : Bool) → has_factory_cal m ≡ b → length (table m) ≤ 12
      go true p = rw p (omega arith)
      go false p = rw p (omega arith)

  abbrev Is : List E → ℕ → Option ℕ → Type 0
  Is l t x = finished (state_of m l t x) ≡ Ok (result_of (has_factory_cal m) (λ k. get_or l (k - 1) nil))

  with_cal : (a b c d e f g h i j k l : E) (t : ℕ) (x : Option ℕ) → has_factory_cal m ≡ true → Is (a ∷ b ∷ c ∷ d ∷ e ∷ f ∷ g ∷ h ∷ i ∷ j ∷ k ∷ l ∷ []) t x
  with_cal a b c d e f g h i j k l t x p = rw p

  without : (a b c d e f g h : E) (t : ℕ) (x : Option ℕ) → has_factory_cal m ≡ false → Is (a ∷ b ∷ c ∷ d ∷ e ∷ f ∷ g ∷ h ∷ []) t x
  without a b c d e f g h t x p = rw p

  written : (es : List E) (t : ℕ) (x : Option ℕ) → length es ≡ length (table m) → Is es t x
  written es t x h = go (has_factory_cal m) refl
    where
      at : ℕ → E
      at k = get_or es k nil

      go : (b : Bool) → has_factory_cal m ≡ b → Is es t x
      go true p =
          subst⁻¹ (λ (l : List E). Is l t x) (spelled nil es 12 (rw p at h))
          (with_cal (at 0) (at 1) (at 2) (at 3) (at 4) (at 5) (at 6) (at 7) (at 8) (at 9) (at 10) (at 11) t x p)
      go false p =
          subst⁻¹ (λ (l : List E). Is l t x) (spelled nil es 8 (rw p at h)) (without (at 0) (at 1) (at 2) (at 3) (at 4) (at 5) (at 6) (at 7) t x p)

  too_early : (es : List E) (t : ℕ) (x : Option ℕ) → length es < length (table m)
      → finished (state_of m es t x) ≡ Err Refusal.NotDone
  too_early es t x h = rw (rows.before_done (row m) (next m) AvrStep.Done (steps_for m) is_done refl (others m) (length es) h)

  -- the ticks so far
  keeping : (cs : List AvrCall) → Keeps reading nil event (begun m).seq after (table m) (λ s. kept s.ticks) (ticks m) cs
  keeping cs =
      keeps nil anti (sequencer m) None cs (λ s. kept s.ticks) (ticks m) (λ es t x h. kept_stored (map (ticks m) es) (rw length-map (omega (arith, few_rows))))

pub right : Theorem
right m cs =
    record {
      ends = promised.ends (nil m) (anti m) (sequencer m) None (λ s. s.state.step ≡ AvrStep.Done) (λ es t y h. done_iff m (length es) h) cs;
      asked = promised.answers (nil m) (anti m) (sequencer m) None (ask into_result) finished (Err Refusal.NotDone)
          (λ f. Ok (result_of (has_factory_cal m) f)) (too_early m) (written m) cs;
      ticks = keeping m cs;
      sheets = λ buf at. answers_so_far (ask (sheet buf at)) _ _ (ticks m) (λ ts. given (text.sheet StartUp.Avr ts) at buf) (λ s. refl) (λ pre post e. keeping m pre);
    }
