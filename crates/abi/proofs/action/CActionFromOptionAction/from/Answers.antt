-- A send goes out with its destination, and none as nothing.
-- Assumes nothing.
use Rattle.std.proofs.Common.{refl}
use Rattle.abi.proofs.action.CActionFromOptionAction.from.Goals as goal

pub returns-in_default : goal.returns-in_default
returns-in_default c = rw (c.in_default.is, c.none.ensures) refl

pub returns : goal.returns
returns c = rw (c.in-Some.is, c.into.ensures, c.as_byte.ensures) refl
