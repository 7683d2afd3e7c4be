-- What a Pi start-up has stored comes in, field by field.
-- Assumes nothing.
use Rattle.std.proofs.Common.{refl}
use Rattle.abi_pi.proofs.PiRepliesFromCPiReplies.from.Goals as goal

pub returns : goal.returns
returns c = rw (c.into.ensures, c.then_some.ensures) refl
