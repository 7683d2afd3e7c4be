-- The sends that belong to no sequence (docs/SCOPE.md, "Model and single sends"). Definitions only.
-- Assumes nothing.
use Rattle.std.specs.Prelude.{Bool, true, false, cond, ◌&&◌, ◌||◌, List, [], ◌∷◌, ℕ, eqb, Option, Some, None}
use Rattle.protocol.specs.Addr.{byte_of}
use Rattle.protocol.specs.Ack.{ack_of}
use Rattle.protocol.specs.Action.{send_to}
use Rattle.protocol.specs.declared.BusAddr.{BusAddr}
use Rattle.protocol.specs.declared.Command.{Command}
use Rattle.protocol.specs.declared.Action.{Action}
use Rattle.requests.specs.Requests.{status_poll}
use Rattle.device.specs.Model.{has_camera, is_xi}
use Rattle.device.specs.declared.model.DeviceModel.{DeviceModel}

-- a flight result
abbrev pub is_result : ℕ → Bool
is_result id = eqb id 0xE8 || eqb id 0xD4

-- only the flight results of a unit with a Xi's three facts are acknowledged, and only those from its Avr
abbrev pub result_ack : DeviceModel → BusAddr → ℕ → Option Action
result_ack m src id =
    cond (is_xi m && (eqb (byte_of src) 0x30 && is_result id)) (Some (send_to BusAddr.Avr (Command.ConfigAck (ack_of id)))) None

-- the polls of a keepalive, in the order of sending; the Pi's only where there is a camera
abbrev pub keepalive_for : DeviceModel → List (Option Action)
keepalive_for m =
    Some (status_poll false BusAddr.Dsp) ∷ Some (status_poll false BusAddr.Avr) ∷ cond (has_camera m) (Some (status_poll true BusAddr.Pi)) None ∷ []
