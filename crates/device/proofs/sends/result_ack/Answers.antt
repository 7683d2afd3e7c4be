-- `result_ack` meets its contract where the Avr of a unit with a Xi's facts has sent a result.
-- Assumes nothing.
use Rattle.std.proofs.Common.{◌≡◌, ◌∙◌, sym, ℕ, true, Some}
use Rattle.protocol.specs.Ack.{ack_of}
use Rattle.protocol.specs.Action.{send_to}
use Rattle.protocol.specs.declared.BusAddr.{BusAddr}
use Rattle.protocol.specs.declared.Command.{Command}
use Rattle.device.specs.Model.{is_xi}
use Rattle.device.specs.Sends.{is_result, result_ack}
use Rattle.device.specs.declared.model.DeviceModel.{DeviceModel}
use Rattle.device.proofs.sends.result_ack.Goals as goal

acked : (m : DeviceModel) (a : BusAddr) (id : ℕ) → is_xi m ≡ true → a ≡ BusAddr.Avr → is_result id ≡ true
    → Some (send_to BusAddr.Avr (Command.ConfigAck (ack_of id))) ≡ result_ack m a id
acked m a id x v h = rw (x, v, h)

pub returns : goal.returns
returns c =
    rw (c.send.ensures, c.for_result.ensures) (acked c.args.model c.args.src c.args.type_id (sym c.is_xi.ensures ∙ c.if-not-is_xi.false) c.in-Avr.is (sym c.is_result.ensures ∙ c.if-not-is_result.false))
