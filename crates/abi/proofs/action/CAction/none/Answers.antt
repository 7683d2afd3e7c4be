-- `CAction::none` meets its contract.
-- Assumes nothing.
use Rattle.std.proofs.Common.{refl}
use Rattle.abi.proofs.action.CAction.none.Goals as goal

pub returns : goal.returns
returns c = rw (c.numbers.ensures, c.as_byte.ensures) refl
