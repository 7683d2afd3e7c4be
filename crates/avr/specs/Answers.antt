-- What the calls of an AVR start-up answer: refused with the lowest number that applies, or by the row at the step. Definitions only.
-- Assumes nothing.
use Rattle.std.specs.Prelude.{ℕ, Bool, false, eqb, List, [], Some, Result, Ok, Err}
use Rattle.std.specs.Option.{unwrap_or}
use Rattle.protocol.specs.declared.BusAddr.{BusAddr}
use Rattle.protocol.specs.declared.Refusal.{Refusal}
use Rattle.protocol.specs.Carried.{no_avr_status, no_dev_info, no_config}
use Rattle.protocol.specs.Refusals.{outcome, lowest}
use Rattle.device.specs.declared.model.DeviceModel.{DeviceModel}
use Rattle.requests.specs.Requests.{status_poll}
use Rattle.sequence.specs.declared.Answer.{Answer}
use Rattle.sequence.specs.declared.Moved.{Moved}
use Rattle.sequence.specs.Accepted.{feed_outcome, check_outcome, result_refusals}
use Rattle.sequence.specs.Events.{Event, fed, checked}
use Rattle.sequence.specs.Rows.{judged, refused}
use Rattle.sheet.specs.declared.Tick.{Tick}
use Rattle.sheet.specs.declared.StartUp.{StartUp}
use Rattle.sheet.specs.declared.Ticks.{Ticks}
use Rattle.sheet.specs.Sheet.{sheet}
use Rattle.sheet.specs.Ticks.{tick_of, stored, then_tick, kept}
use Rattle.avr_table.specs.declared.AvrStep.{AvrStep}
use Rattle.avr_table.specs.declared.AvrReplies.{AvrReplies}
use Rattle.avr_table.specs.Stores.{Dated, env}
use Rattle.avr_steps.specs.declared.AvrState.{AvrState}
use Rattle.avr_steps.specs.Answers as steps
use Rattle.avr.specs.declared.AvrSync.{AvrSync}
use Rattle.avr.specs.declared.AvrSequencer.{AvrSequencer}

-- new polls the Avr; no reading has been accepted, and no entry ticked
abbrev pub begun : DeviceModel → Answer AvrSequencer
begun m = record { outcome = Ok (Some (status_poll false BusAddr.Avr)); seq = record { state = steps.begun m; last = 0; ticks = stored [] } }

-- ---- a feed, a check

-- the ticks before; what the event does; its reading, and how it ticks an entry if it ticks one
abbrev pub accepted : Ticks → Moved AvrState → Tick → Answer AvrSequencer
accepted ts w k = record { outcome = Ok w.action; seq = record { state = w.state; last = k.reading; ticks = then_tick ts w.ticked k } }

-- an event, if the outcome is that it is accepted
abbrev pub answered : Result (Unit {0}) Refusal → AvrSequencer → Event Dated → Answer AvrSequencer
answered o s e = judged o (accepted s.ticks (steps.answered s.state e) (tick_of env e)) (refused s)

abbrev pub fed_to : AvrSequencer → Dated → ℕ → Answer AvrSequencer
fed_to s d t = answered (feed_outcome d.envelope.text d.envelope.payload s.last t) s (fed d t)

abbrev pub polled : AvrSequencer → ℕ → Answer AvrSequencer
polled s t = answered (check_outcome s.last t) s (checked t)

-- ---- the result

-- for a status, a device info or a configuration that has not come, which no list of calls makes at Done, its zero record
abbrev pub sync_of : AvrReplies → AvrSync
sync_of y = record {
  status = unwrap_or y.status no_avr_status;
  dev_info = unwrap_or y.dev_info no_dev_info;
  config = unwrap_or y.config no_config;
  factory_cal = y.factory_cal;
  if_cal = y.if_cal;
  avr_config = y.avr_config;
}

abbrev pub is_done : AvrStep → Bool
is_done k = eqb (steps.order k) 13

abbrev pub finished : AvrSequencer → Result AvrSync Refusal
finished s = judged (outcome (lowest (result_refusals (is_done s.state.step)))) (Ok (sync_of s.state.replies)) Err

-- ---- the text of its sheet

abbrev pub sheet_of : AvrSequencer → List ℕ
sheet_of s = sheet StartUp.Avr (kept s.ticks)
