-- The theorem holds. It is proved once for any sequence that is only fed (crate sequence, Fed.antt); what is shown here is the disarm's own:
-- its steps follow one another.
-- Assumes nothing.
use mathlib.Core.Path.{◌≡◌, refl}
use mathlib.Core.Bool.{Bool, true, false}
use mathlib.Core.List.{List}
use Rattle.matching.specs.Promise.{Each}
use Rattle.matching.proofs.Machine.{Antitone}
use Rattle.matching.proofs.Called.{Called}
use Rattle.sequence.specs.Events.{Envelope, Event, reading, forever}
use Rattle.sequence.specs.declared.Answer.{Answer}
use Rattle.sequence.specs.Rows.{State, refused}
use Rattle.sequence.specs.Calls.{fed_event}
use Rattle.sequence.proofs.Fed as fed
use Rattle.sequence.proofs.Standing as rows
use Rattle.disarm.specs.declared.DisarmStep.{DisarmStep}
use Rattle.disarm.specs.declared.DisarmStep.TheVariants.{WaitAck, WaitModeReset, WaitStateIdle, Done}
use Rattle.disarm.specs.declared.DisarmSequencer.{DisarmSequencer}
use Rattle.disarm.specs.Table.{row, next, steps, table}
use Rattle.disarm.specs.Answers.{view, advance}
use Rattle.disarm.specs.Calls.{after}
use Rattle.disarm_runs.specs.Theorem.{Theorem}

abbrev unview : List (Event Envelope) → State DisarmStep (Unit {0}) → DisarmSequencer
unview es s = record { step = s.step }

abbrev seq : Answer DisarmSequencer → DisarmSequencer
seq f = f.seq

waitless : (k : DisarmStep) → (row k).wait ≡ forever
waitless WaitAck = refl
waitless WaitModeReset = refl
waitless WaitStateIdle = refl
waitless Done = refl

pub feeds : fed.Feeds row next Done steps tt view unview seq advance refused after
feeds = record {
  chained = (refl, (refl, (refl, tt)));
  ended = refl;
  waitless = waitless;
  seen = λ es k y. refl;
  moves = λ es s e. refl;
  stays = λ s o. refl;
  feeds = λ s e. refl;
  asks = λ s q. refl;
}

abbrev pub is_done : DisarmStep → Bool
is_done WaitAck = false
is_done WaitModeReset = false
is_done WaitStateIdle = false
is_done Done = true

pub anti : Each Antitone table
anti = rows.table_antitone row next Done steps

pub sequencer : Called reading table after fed_event (fed.state_of row next Done steps tt view unview seq advance refused after) (λ es t x c. tt)
sequencer = fed.sequencer row next Done steps tt view unview seq advance refused after feeds

pub right : Theorem
right = fed.ends row next Done steps tt view unview seq advance refused after feeds is_done refl (refl, (refl, (refl, tt))) (λ s. s.step) (λ es s. refl)
