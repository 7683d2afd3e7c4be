-- Each sheet is that of the sequence over its part.
-- Assumes nothing.
use Prim.Native.Nat.{ℕ, ◌+◌, ◌≤◌, ◌<◌}
use native.Mathlib.Nat.{add-zero}
use mathlib.Core.Path.{◌≡◌, refl, ap, subst⁻¹, ◌∙◌}
use mathlib.Core.Logic.{◌≢◌}
use mathlib.Core.Bool.{Bool, true, false}
use mathlib.Core.List.{List, [], ◌∷◌, ◌++◌, map, append-nil}
use lib.Dec.{ltb}
use lib.ListN.{length, get_or, take, drop, take-append-drop}
use Rattle.std.specs.Prelude.{Option, None, Result, Ok, Err}
use Rattle.std.proofs.lemmas.Bool.{lt-ltb}
use borrow.Author.Tests.{le-ltb}
use Rattle.device.specs.declared.model.DeviceModel.{DeviceModel}
use Rattle.device.specs.Model.{has_camera}
use Rattle.protocol.specs.Refusals.{lowest}
use Rattle.sequence.specs.Accepted.{applies}
use Rattle.sequence.specs.Events.{Envelope, Event, checked, reading}
use Rattle.sequence.specs.Calls.{ask}
use Rattle.sheet.specs.declared.StartUp.{StartUp}
use Rattle.sheet.specs.declared.StartUp.TheVariants as K
use Rattle.sheet.specs.declared.SheetRefusal.{SheetRefusal}
use Rattle.sheet.specs.Sheet as text
use Rattle.sheet.specs.Sheet.{given, outcome, sheet_outcome, counted, buffer_by, placed}
use Rattle.sheet.specs.Ticks.{tick_of}
use Rattle.dsp_table.specs.Table as dsp_table
use Rattle.dsp.specs.Answers as dsps
use Rattle.dsp.specs.Calls as dsp
use Rattle.dsp_runs.proofs.Whole as dsp_runs
use Rattle.avr_table.specs.Stores.{Dated, env}
use Rattle.avr.specs.declared.AvrSequencer.{AvrSequencer}
use Rattle.avr.specs.Answers as avr
use Rattle.avr_runs.proofs.Whole as avr_runs
use Rattle.pi.specs.declared.PiSequencer.{PiSequencer}
use Rattle.pi.specs.Answers as pi
use Rattle.pi_runs.proofs.Whole as pi_runs
use Rattle.session.specs.Answers as answers
use Rattle.session.specs.Answers.{sheet_of, sheet_by}
use Rattle.session_runs.specs.Calls.{SessionCall, sheet, state, after, dsp_call, avr_call, pi_calls}
use Rattle.session_promise.specs.Places.{Names, DspTicked, DspFirst, part}
use Rattle.session_promise.specs.Sheets.{Empty, asked, AvrSheet, PiSheet, Theorem}
use Rattle.session_promise.proofs.Start.{follows, names_beginning}
use Rattle.session_promise.proofs.Ticking.{no_avr, no_pi, no_camera, is_avr, is_pi, avr_run, pi_run}
use Rattle.session_promise.proofs.Through as through

-- ---- an empty sheet

abbrev outcome_by : Bool → Result (Unit {0}) SheetRefusal
outcome_by b = outcome (lowest (applies 5 b ∷ []))

empty : (at : ℕ) (buf : List ℕ) → Empty (given [] at buf) at buf
empty at buf = record { fits = fits; past = past; buffer = buffer (ltb (length buf) (at + 0)) }
  where
    fits : at ≤ length buf → (given [] at buf).0 ≡ Ok 0
    fits h = ap (λ (b : Bool). counted (outcome_by b) 0) (ap (ltb (length buf)) (add-zero at) ∙ le-ltb (length buf) at h)

    past : length buf < at → (given [] at buf).0 ≡ Err SheetRefusal.PartTooShort
    past h = ap (λ (b : Bool). counted (outcome_by b) 0) (ap (ltb (length buf)) (add-zero at) ∙ lt-ltb (length buf) at h)

    whole : placed [] at buf ≡ buf
    whole = ap (λ (l : List ℕ). l ++ drop (at + 0) buf) (append-nil (take at buf)) ∙ ap (λ (k : ℕ). take at buf ++ drop k buf) (add-zero at) ∙ take-append-drop at buf

    buffer : (b : Bool) → buffer_by (outcome_by b) (placed [] at buf) buf ≡ buf
    buffer true = refl
    buffer false = whole

nothing : (pre : List SessionCall) (k : StartUp) (buf : List ℕ) (at : ℕ) → sheet_of (state pre) k ≡ [] → Empty (asked pre k buf at) at buf
nothing pre k buf at h = subst⁻¹ (λ (l : List ℕ). Empty (given l at buf) at buf) h (empty at buf)

avr_none : (pre : List SessionCall) → (state pre).avr ≡ None → sheet_of (state pre) K.Avr ≡ []
avr_none pre h = ap (sheet_by avr.sheet_of) h

pi_none : (pre : List SessionCall) → (state pre).pi ≡ None → sheet_of (state pre) K.Pi ≡ []
pi_none pre h = ap (sheet_by pi.sheet_of) h

not_begun : (m : DeviceModel) (pre : List SessionCall) → Names m pre → (buf : List ℕ) (at : ℕ) (k : StartUp) → k ≢ K.Dsp → (DspTicked m pre → ⊥)
    → Empty (asked pre k buf at) at buf
not_begun m pre n buf at K.Dsp h un = absurd (h refl)
not_begun m pre n buf at K.Avr h un = nothing pre K.Avr buf at (avr_none pre (no_avr m pre n un))
not_begun m pre n buf at K.Pi h un = nothing pre K.Pi buf at (pi_none pre (no_pi m pre n un))

-- ---- that of a sequence which has begun

module _ (m : DeviceModel) (pre : List SessionCall) (n : Names m pre) (buf : List ℕ) (at : ℕ) (ps : List ℕ) (f : DspFirst m pre ps) where
  avr_sheet : AvrSheet m pre buf at ps
  avr_sheet =
      let w = (avr_runs.right m (map avr_call (part m pre ps))).ticks in
      record {
        some = w.some;
        each = λ k qs s.
            ap (λ (o : Option AvrSequencer). given (sheet_by avr.sheet_of o) at buf) (is_avr m pre n ps f)
            ∙ ap (λ ts. given (text.sheet K.Avr ts) at buf) (w.each k qs s)
            ∙ ap (λ (r : List (Event Dated)). given (text.sheet K.Avr (map (λ p. tick_of env (get_or r p (checked 0))) qs)) at buf) (avr_run m pre n ps f);
      }

  pi_sheet : has_camera m ≡ true → PiSheet m pre buf at ps
  pi_sheet camera =
      let w = (pi_runs.right (pi_calls (part m pre ps))).ticks in
      record {
        some = w.some;
        each = λ k rs s.
            ap (λ (o : Option PiSequencer). given (sheet_by pi.sheet_of o) at buf) (is_pi m pre n ps f camera)
            ∙ ap (λ ts. given (text.sheet K.Pi ts) at buf) (w.each k rs s)
            ∙ ap (λ (r : List (Event Envelope)). given (text.sheet K.Pi (map (λ p. tick_of (λ v. v) (get_or r p (checked 0))) rs)) at buf) (pi_run m pre n ps f);
      }

pub sheets : Theorem
sheets m cs n buf at =
    record {
      dsp = through.answers_so_far reading (checked 0) dsp.event answers.begun.session after dsps.begun.seq dsp.after (dsp_table.table m) dsp_call (λ s. s.dsp) follows
          (ask (sheet K.Dsp buf at)) (λ v. given (dsps.sheet_of v) at buf) (tick_of (λ v. v)) (λ ts. given (text.sheet K.Dsp ts) at buf) cs
          ((dsp_runs.right.right m (map dsp_call cs) n).sheets buf at);
      not_begun = λ k h pre post e un. not_begun m pre (names_beginning pre (ask (sheet k buf at) ∷ post) e n) buf at k h un;
      avr = λ pre post e ps f. avr_sheet m pre (names_beginning pre (ask (sheet K.Avr buf at) ∷ post) e n) buf at ps f;
      pi = λ pre post e camera ps f. pi_sheet m pre (names_beginning pre (ask (sheet K.Pi buf at) ∷ post) e n) buf at ps f camera;
      no_camera = λ pre post e h.
          nothing pre K.Pi buf at (pi_none pre (no_camera m pre (names_beginning pre (ask (sheet K.Pi buf at) ∷ post) e n) h));
    }
