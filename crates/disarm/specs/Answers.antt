-- What the calls of a disarm answer: refused with the lowest number that applies, or by the row at the step. There is no clock.
-- Definitions only.
-- Assumes nothing.
use Rattle.std.specs.Prelude.{false, Some, None, Ok}
use Rattle.requests.specs.Requests.{avr_config_cmd}
use Rattle.sequence.specs.declared.Moved.{Moved}
use Rattle.sequence.specs.declared.Answer.{Answer}
use Rattle.sequence.specs.Accepted.{bytes_outcome}
use Rattle.sequence.specs.Events.{Envelope, Event, fed}
use Rattle.sequence.specs.Rows.{State, heard_at, heard, judged, refused}
use Rattle.disarm.specs.declared.DisarmStep.{DisarmStep}
use Rattle.disarm.specs.declared.DisarmStep.TheVariants.{WaitAck}
use Rattle.disarm.specs.declared.DisarmSequencer.{DisarmSequencer}
use Rattle.disarm.specs.Table.{DisarmRow, row, next}

-- new sends a commit
abbrev pub begun : Answer DisarmSequencer
begun = record { outcome = Ok (Some (avr_config_cmd false)); seq = record { step = WaitAck } }

-- the sequencer as the common rows have it, and back
abbrev pub view : DisarmSequencer → State DisarmStep (Unit {0})
view s = record { step = s.step; replies = tt; deadline = None }

abbrev pub made : Moved (State DisarmStep (Unit {0})) → Answer DisarmSequencer
made w = record { outcome = Ok w.action; seq = record { step = w.state.step } }

abbrev pub advance : DisarmSequencer → Event Envelope → Answer DisarmSequencer
advance s e = made (heard row next (view s) e)

abbrev pub fed_to : DisarmSequencer → Envelope → Answer DisarmSequencer
fed_to s e = judged (bytes_outcome e.text e.payload) (advance s (fed e 0)) (refused s)

-- one step's part of it: the row r, after which the step is k
abbrev pub arm_at : DisarmRow → DisarmStep → DisarmSequencer → Event Envelope → Answer DisarmSequencer
arm_at r k s e = made (heard_at r k (row k) (view s) e)
