-- The theorem holds. The promise is proved once, for any sequence that goes by rows (crates matching and sequence); what is shown here is
-- the Pi's own: its steps follow one another, and its result, written out.
-- Assumes nothing.
use Prim.Native.Nat.{ℕ, ◌-◌, ◌<◌}
use mathlib.Core.Path.{◌≡◌, refl, ap, subst⁻¹}
use mathlib.Core.Bool.{false}
use mathlib.Core.List.{List, [], ◌∷◌, map}
use lib.ListN.{length, get_or, length-map}
use Rattle.std.specs.Prelude.{Ok, Err}
use Rattle.protocol.specs.declared.Refusal.{Refusal}
use Rattle.matching.specs.Promise.{Each, Keeps}
use Rattle.matching.proofs.Machine.{Antitone}
use Rattle.matching.proofs.Called.{Called}
use Rattle.matching.proofs.Spelled.{spelled}
use Rattle.matching.proofs.Promised as promised
use Rattle.matching.proofs.Kept.{keeps, answers_so_far}
use Rattle.sequence.specs.Events.{Envelope, Event, checked, reading, forever}
use Rattle.sequence.specs.declared.Answer.{Answer}
use Rattle.sequence.specs.Rows.{State, heard, refused}
use Rattle.sequence.specs.Calls.{Untimed}
use Rattle.sequence.proofs.Standing as rows
use Rattle.sequence.proofs.Fed as fed
use Rattle.sheet.specs.declared.Tick.{Tick}
use Rattle.sheet.specs.declared.Ticks.{Ticks}
use Rattle.sheet.specs.declared.StartUp.{StartUp}
use Rattle.sheet.specs.Sheet as text
use Rattle.sheet.specs.Sheet.{given}
use Rattle.sheet.specs.Ticks.{tick_of, stored, kept}
use Rattle.sheet.proofs.Stored.{kept_stored, next as kept_next}
use Rattle.pi_table.specs.declared.PiStep.{PiStep}
use Rattle.pi_table.specs.declared.PiStep.TheVariants.{WaitStatus, WaitDevInfo, WaitParam0A, WaitCamConfig1, WaitCamConfig2, WaitNetConfig, WaitNetConfigPw, WaitParams, Done}
use Rattle.pi_table.specs.declared.PiReplies.{PiReplies}
use Rattle.pi.specs.declared.PiSequencer.{PiSequencer}
use Rattle.pi_table.specs.Stores.{no_replies}
use Rattle.pi_table.specs.Table.{row, next, steps, table}
use Rattle.pi.specs.Answers.{begun, view, advance, finished, is_done}
use Rattle.pi.specs.Calls.{PiCall, Asked, into_result, sheet, after, event}
use Rattle.pi_runs.specs.Theorem.{result_of, Theorem}

abbrev E : Type 0
E = Event Envelope

abbrev nil : E
nil = checked 0

-- ---- it goes by rows, and holds nothing else

-- no row waits
waitless : (k : PiStep) → (row k).wait ≡ forever
waitless WaitStatus = refl
waitless WaitDevInfo = refl
waitless WaitParam0A = refl
waitless WaitCamConfig1 = refl
waitless WaitCamConfig2 = refl
waitless WaitNetConfig = refl
waitless WaitNetConfigPw = refl
waitless (WaitParams i) = refl
waitless Done = refl

abbrev ticks : E → Tick
ticks = tick_of (λ v. v)

abbrev unview : List E → State PiStep PiReplies → PiSequencer
unview es s = record { step = s.step; replies = s.replies; ticks = stored (map ticks es) }

abbrev seq : Answer PiSequencer → PiSequencer
seq f = f.seq

-- no other call than a feed changes it
asks : (s : PiSequencer) (q : Asked) → after s (Untimed.ask q) ≡ s
asks s into_result = refl
asks s (sheet buf at) = refl

feeds : fed.Feeds row next Done steps no_replies view unview seq advance refused after
feeds = record {
  chained = (refl, (refl, (refl, (refl, (refl, (refl, (refl, (refl, (refl, (refl, (refl, (refl, (refl, (refl, (refl, (refl, tt))))))))))))))));
  ended = refl;
  waitless = waitless;
  seen = λ es k y. refl;
  moves = λ es s e.
      let w = heard row next (view (unview es s)) e in
      ap (λ (t : Ticks). record { step = w.state.step; replies = w.state.replies; ticks = t }) (kept_next ticks es e w.ticked);
  stays = λ s o. refl;
  feeds = λ s e. refl;
  asks = asks;
}

abbrev state_of : List E → ℕ → Unit {0} → PiSequencer
state_of es t x = fed.state_of row next Done steps no_replies view unview seq advance refused after es t x

pub sequencer : Called reading table after event state_of (λ es t x c. tt)
sequencer = fed.sequencer row next Done steps no_replies view unview seq advance refused after feeds

-- ---- Done, and the result

others : Each (λ k. is_done k ≡ false) steps
others = (refl, (refl, (refl, (refl, (refl, (refl, (refl, (refl, (refl, (refl, (refl, (refl, (refl, (refl, (refl, (refl, tt))))))))))))))))

pub anti : Each Antitone table
anti = rows.table_antitone row next Done steps

abbrev Is : List E → Type 0
Is l = finished (state_of l 0 tt) ≡ Ok (result_of (λ k. get_or l (k - 1) nil))

sixteen : (a b c d e f g h i j k l m n o p : E) → Is (a ∷ b ∷ c ∷ d ∷ e ∷ f ∷ g ∷ h ∷ i ∷ j ∷ k ∷ l ∷ m ∷ n ∷ o ∷ p ∷ [])
sixteen a b c d e f g h i j k l m n o p = refl

written : (es : List E) (t : ℕ) (x : Unit {0}) → length es ≡ length table → Is es
written es t x h =
    let at : ℕ → E = λ k. get_or es k nil in
    subst⁻¹ Is (spelled nil es 16 h)
    (sixteen (at 0) (at 1) (at 2) (at 3) (at 4) (at 5) (at 6) (at 7) (at 8) (at 9) (at 10) (at 11) (at 12) (at 13) (at 14) (at 15))

too_early : (es : List E) (t : ℕ) (x : Unit {0}) → length es < length table → finished (state_of es t x) ≡ Err Refusal.NotDone
too_early es t x h = rw (rows.before_done row next Done steps is_done refl others (length es) h)

-- the ticks so far
keeping : (cs : List PiCall) → Keeps reading nil event begun.seq after table (λ s. kept s.ticks) ticks cs
keeping cs = keeps nil anti sequencer tt cs (λ s. kept s.ticks) ticks (λ es t x h. kept_stored (map ticks es) (rw length-map h))

pub right : Theorem
right cs =
    record {
      ends = fed.ends row next Done steps no_replies view unview seq advance refused after feeds is_done refl others (λ s. s.step) (λ es s. refl) cs;
      asked = promised.answers nil anti sequencer tt (Untimed.ask into_result) finished (Err Refusal.NotDone)
          (λ f. Ok (result_of f)) too_early written cs;
      ticks = keeping cs;
      sheets = λ buf at. answers_so_far (Untimed.ask (sheet buf at)) _ _ ticks (λ ts. given (text.sheet StartUp.Pi ts) at buf) (λ s. refl) (λ pre post e. keeping pre);
    }
