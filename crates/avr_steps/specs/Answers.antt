-- What the functions here answer: a refused status poll is sent again later; else the row at the step decides. Definitions only.
-- Assumes nothing.
use Rattle.std.specs.Prelude.{ℕ, Bool, true, false, cond, ◌&&◌, List, leb, ℤ, Option, Some, None}
use Rattle.protocol.specs.declared.BusAddr.{BusAddr}
use Rattle.protocol.specs.declared.Action.{Action}
use Rattle.protocol.specs.declared.Message.{Message}
use Rattle.protocol.specs.Kinds.{config_nack}
use Rattle.device.specs.declared.model.DeviceModel.{DeviceModel}
use Rattle.sequence.specs.declared.Moved.{Moved}
use Rattle.sequence.specs.Events.{Event, fed, checked, reading, Wait, forever, nanos, acking}
use Rattle.sequence.specs.Rows.{State, past, or_after, reached, idle, heard_at, heard}
use Rattle.avr_table.specs.declared.AvrStep.{AvrStep}
use Rattle.avr_table.specs.declared.AvrStep.TheVariants.{WaitStatus1, WaitStatus2, WaitDevInfo1, WaitDevInfo2, WaitParam0C, WaitParam0D, WaitConfig, WaitFactoryCal, WaitIfCal, WaitAvrConfig, WaitParam64, WaitTimeSync, Done}
use Rattle.avr_steps.specs.declared.AvrState.{AvrState}
use Rattle.avr_table.specs.Stores.{Dated, Held, no_replies, status_poll}
use Rattle.avr_table.specs.Table.{AvrRow, row, next}

abbrev pub begun : DeviceModel → AvrState
begun m = record { step = WaitStatus1; model = m; replies = no_replies; cal_deadline = None; repoll_at = None }

-- the state as the common rows have it, and back
abbrev pub view : AvrState → State AvrStep Held
view s = record { step = s.step; replies = record { replies = s.replies; repoll = s.repoll_at }; deadline = s.cal_deadline }

abbrev pub unview : DeviceModel → State AvrStep Held → AvrState
unview m s = record { step = s.step; model = m; replies = s.replies.replies; cal_deadline = s.deadline; repoll_at = s.replies.repoll }

abbrev pub made : DeviceModel → Moved (State AvrStep Held) → Moved AvrState
made m w = record { action = w.action; state = unview m w.state; ticked = w.ticked }

-- ---- a refused status poll

-- the number of the entry that is awaited at a step; 13 at Done
abbrev pub order : AvrStep → ℕ
order WaitStatus1 = 1
order WaitStatus2 = 2
order WaitDevInfo1 = 3
order WaitDevInfo2 = 4
order WaitParam0C = 5
order WaitParam0D = 6
order WaitConfig = 7
order WaitFactoryCal = 8
order WaitIfCal = 9
order WaitAvrConfig = 10
order WaitParam64 = 11
order WaitTimeSync = 12
order Done = 13

-- a status is awaited
abbrev pub polling : AvrState → Bool
polling s = leb (order s.step) 2

abbrev pub sends : Action → AvrState → Moved AvrState
sends a s = record { action = Some a; state = s; ticked = false }

-- a nack of 0x2A from the Avr then: the poll is sent again 1 s later, or when it was to be already
abbrev pub is_nack : Event Dated → Bool
is_nack (fed d t) = acking 0x30 config_nack 0x2A d.envelope
is_nack (checked t) = false

abbrev pub with_repoll : AvrState → Option ℕ → AvrState
with_repoll s r = record { step = s.step; model = s.model; replies = s.replies; cal_deadline = s.cal_deadline; repoll_at = r }

abbrev pub later : Option ℕ → ℕ → Option ℕ
later r t = or_after r t 1_000_000_000

abbrev pub will_repoll : AvrState → Event Dated → Moved AvrState
will_repoll s e = idle (with_repoll s (later s.repoll_at (reading e)))

-- a check at that time sends it
abbrev pub repolls : AvrState → Event Dated → Bool
repolls s (fed d t) = false
repolls s (checked t) = reached s.repoll_at t

-- ---- a deadline at a step that waits for none, which no list of calls makes: a check that reaches it clears it

abbrev pub waits : Wait → Bool
waits forever = false
waits (nanos n) = true

abbrev pub stale : DeviceModel → AvrState → Event Dated → Bool
stale m s (fed d t) = false
stale m s (checked t) = cond (waits (row m s.step).wait) false (reached s.cal_deadline t)

abbrev pub with_deadline : AvrState → Option ℕ → AvrState
with_deadline s d = record { step = s.step; model = s.model; replies = s.replies; cal_deadline = d; repoll_at = s.repoll_at }

-- ---- an accepted event

-- but for the repoll
abbrev pub advance : AvrState → Event Dated → Moved AvrState
advance s e =
    cond (stale s.model s e) (idle (with_deadline s None)) (made s.model (heard (row s.model) (next s.model) (view s) e))

abbrev pub answered : AvrState → Event Dated → Moved AvrState
answered s e =
    cond (repolls s e) (sends status_poll (with_repoll s None)) (cond (is_nack e && polling s) (will_repoll s e) (advance s e))

-- an envelope from the Avr
abbrev pub sent : ℕ → Message → List ℤ → List ℕ → List ℕ → ℕ → ℕ → Event Dated
sent id m ps text payload t wall =
    fed (record { envelope = record { src = BusAddr.Avr; type_id = id; message = m; params = ps; text = text; payload = payload }; wall = wall }) t

-- one step's part of it: the row r, which r', awaited at step k, follows
abbrev pub arm_at : AvrRow → AvrStep → AvrRow → AvrState → Event Dated → Moved AvrState
arm_at r k r' s e = made s.model (heard_at r k r' (view s) e)

-- the same where a status is awaited
abbrev pub poll_at : AvrRow → AvrStep → AvrState → Event Dated → Moved AvrState
poll_at r k s e = cond (is_nack e) (will_repoll s e) (arm_at r k past s e)
