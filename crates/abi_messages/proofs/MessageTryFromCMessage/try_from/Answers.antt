-- A message comes in by its kind: a kind without a record, and one with one.
-- Assumes nothing.
use Rattle.std.proofs.Common.{refl}
use Rattle.abi_messages.proofs.MessageTryFromCMessage.try_from.Goals as goal

pub returns-in-2 : goal.returns-in-2
returns-in-2 c = rw c.in-2.is refl

pub returns-in-4 : goal.returns-in-4
returns-in-4 c = rw c.in-4.is refl
