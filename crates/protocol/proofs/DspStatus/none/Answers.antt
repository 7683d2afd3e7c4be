-- `DspStatus::none` meets its contract.
-- Assumes nothing.
use Rattle.std.proofs.Common.{refl}
use Rattle.protocol.proofs.DspStatus.none.Goals as goal

pub returns : goal.returns
returns c = rw c.none.ensures refl
