-- What the functions here answer: the row at the step decides, by the model that the stored device info names. Definitions only.
-- Assumes nothing.
use Rattle.std.specs.Prelude.{ℕ, List, ℤ, None}
use Rattle.protocol.specs.declared.BusAddr.{BusAddr}
use Rattle.protocol.specs.declared.Message.{Message}
use Rattle.device.specs.declared.model.DeviceModel.{DeviceModel}
use Rattle.device.specs.Model.{model_in}
use Rattle.sequence.specs.Events.{Envelope, Event, fed}
use Rattle.sequence.specs.declared.Moved.{Moved}
use Rattle.sequence.specs.Rows.{State, heard_at, heard}
use Rattle.dsp_table.specs.declared.DspStep.{DspStep}
use Rattle.dsp_table.specs.declared.DspReplies.{DspReplies}
use Rattle.dsp_steps.specs.declared.DspState.{DspState}
use Rattle.dsp_table.specs.Stores.{no_replies}
use Rattle.dsp_table.specs.Table.{DspRow, row, next}

abbrev pub begun : DspState
begun = record { step = DspStep.WaitStatus; replies = no_replies; deadline = None }

-- the state as the common rows have it, and back
abbrev pub view : DspState → State DspStep DspReplies
view s = record { step = s.step; replies = s.replies; deadline = s.deadline }

abbrev pub unview : State DspStep DspReplies → DspState
unview s = record { step = s.step; replies = s.replies; deadline = s.deadline }

abbrev pub made : Moved (State DspStep DspReplies) → Moved DspState
made w = record { action = w.action; state = unview w.state; ticked = w.ticked }

-- an accepted event, with the table of a model
abbrev pub advance : DeviceModel → DspState → Event Envelope → Moved DspState
advance m s e = made (heard (row m) (next m) (view s) e)

abbrev pub answered : DspState → Event Envelope → Moved DspState
answered s e = advance (model_in s.replies.dev_info) s e

-- an envelope from the Dsp
abbrev pub sent : ℕ → Message → List ℤ → List ℕ → List ℕ → ℕ → Event Envelope
sent id m ps text payload t = fed (record { src = BusAddr.Dsp; type_id = id; message = m; params = ps; text = text; payload = payload }) t

-- one step's part of it: the row r, which r', awaited at step k, follows
abbrev pub arm_at : DspRow → DspStep → DspRow → DspState → Event Envelope → Moved DspState
arm_at r k r' s e = made (heard_at r k r' (view s) e)
