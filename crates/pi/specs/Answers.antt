-- What the calls of a Pi start-up answer: refused with the lowest number that applies, or by the row at the step. There is no clock.
-- Definitions only.
-- Assumes nothing.
use Rattle.std.specs.Prelude.{ℕ, Bool, true, false, List, [], Some, None, Result, Ok, Err, unwrap_or}
use Rattle.protocol.specs.declared.BusAddr.{BusAddr}
use Rattle.protocol.specs.declared.Message.{Message}
use Rattle.protocol.specs.declared.Refusal.{Refusal}
use Rattle.protocol.specs.Carried.{no_dev_info, no_cam_config}
use Rattle.protocol.specs.Refusals.{outcome, lowest}
use Rattle.requests.specs.Requests.{status_poll}
use Rattle.sequence.specs.Accepted.{bytes_outcome, result_refusals}
use Rattle.sequence.specs.Events.{Envelope, Event, fed}
use Rattle.sequence.specs.declared.Moved.{Moved}
use Rattle.sequence.specs.declared.Answer.{Answer}
use Rattle.sequence.specs.Rows.{State, heard_at, heard, judged, refused}
use Rattle.sheet.specs.declared.StartUp.{StartUp}
use Rattle.sheet.specs.declared.Ticks.{Ticks}
use Rattle.sheet.specs.Sheet.{sheet}
use Rattle.sheet.specs.Ticks.{tick_of, stored, then_tick, kept}
use Rattle.pi_table.specs.declared.PiStep.{PiStep}
use Rattle.pi_table.specs.declared.PiStep.TheVariants.{WaitStatus, WaitDevInfo, WaitParam0A, WaitCamConfig1, WaitCamConfig2, WaitNetConfig, WaitNetConfigPw, WaitParams, Done}
use Rattle.pi_table.specs.declared.PiReplies.{PiReplies}
use Rattle.pi.specs.declared.PiSequencer.{PiSequencer}
use Rattle.pi.specs.declared.PiSync.{PiSync}
use Rattle.pi_table.specs.Stores.{no_replies}
use Rattle.pi_table.specs.Table.{PiRow, row, next}

-- new polls the Pi; no entry is ticked
abbrev pub begun : Answer PiSequencer
begun = record { outcome = Ok (Some (status_poll true BusAddr.Pi)); seq = record { step = WaitStatus; replies = no_replies; ticks = stored [] } }

-- the sequencer as the common rows have it, and back
abbrev pub view : PiSequencer → State PiStep PiReplies
view s = record { step = s.step; replies = s.replies; deadline = None }

-- the ticks before; the event, and what it does
abbrev pub made : Ticks → Event Envelope → Moved (State PiStep PiReplies) → Answer PiSequencer
made ts e w = record {
  outcome = Ok w.action;
  seq = record { step = w.state.step; replies = w.state.replies; ticks = then_tick ts w.ticked (tick_of (λ v. v) e) };
}

abbrev pub advance : PiSequencer → Event Envelope → Answer PiSequencer
advance s e = made s.ticks e (heard row next (view s) e)

abbrev pub fed_to : PiSequencer → Envelope → Answer PiSequencer
fed_to s e = judged (bytes_outcome e.text e.payload) (advance s (fed e 0)) (refused s)

-- an envelope from the Pi
abbrev pub sent : ℕ → Message → List ℕ → List ℕ → Event Envelope
sent id m text payload = fed (record { src = BusAddr.Pi; type_id = id; message = m; params = []; text = text; payload = payload }) 0

-- one step's part of it: the row r, which r', awaited at step k, follows
abbrev pub arm_at : PiRow → PiStep → PiRow → PiSequencer → Event Envelope → Answer PiSequencer
arm_at r k r' s e = made s.ticks e (heard_at r k r' (view s) e)

-- ---- the result

-- at Done every reply has come; of one that has not each field is 0, false or its type's first case
abbrev pub sync_of : PiReplies → PiSync
sync_of y = record { dev_info = unwrap_or y.dev_info no_dev_info; cam_config = unwrap_or y.cam_config no_cam_config; ssid = y.ssid; password = y.password }

abbrev pub is_done : PiStep → Bool
is_done WaitStatus = false
is_done WaitDevInfo = false
is_done WaitParam0A = false
is_done WaitCamConfig1 = false
is_done WaitCamConfig2 = false
is_done WaitNetConfig = false
is_done WaitNetConfigPw = false
is_done (WaitParams i) = false
is_done Done = true

abbrev pub finished : PiSequencer → Result PiSync Refusal
finished s = judged (outcome (lowest (result_refusals (is_done s.step)))) (Ok (sync_of s.replies)) (λ r. Err r)

-- ---- the text of its sheet

abbrev pub sheet_of : PiSequencer → List ℕ
sheet_of s = sheet StartUp.Pi (kept s.ticks)
