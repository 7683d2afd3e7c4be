-- An envelope comes in with its source and its message.
-- Assumes nothing.
use Rattle.std.proofs.Common.{◌≡◌, ◌∙◌, sym, Ok}
use Rattle.protocol.specs.declared.BusAddr.{BusAddr}
use Rattle.protocol.specs.declared.Message.{Message}
use Rattle.abi_values.specs.Numbers.{addr_in}
use Rattle.abi_messages.specs.declared.CEnvelope.{CEnvelope}
use Rattle.abi_messages.specs.Messages.{message_in, envelope_in}
use Rattle.abi_messages.proofs.EnvelopeTryFromCEnvelope.try_from.Goals as goal

whole : (e : CEnvelope) (a : BusAddr) (m : Message) → addr_in e.src ≡ Ok a → message_in e.message ≡ Ok m
    → Ok (record { src = a; type_id = e.type_id; message = m; params = e.params }) ≡ envelope_in e
whole e a m h k = rw (h, k)

pub returns : goal.returns
returns c =
    let source = sym c.addr_in.ensures ∙ c.in_ok-addr_in.was in
    let message = sym c.try_into.ensures ∙ c.in_ok-try_into.was in
    whole c.args.envelope c.in_ok-addr_in.field-0 c.in_ok-try_into.field-0 source message
