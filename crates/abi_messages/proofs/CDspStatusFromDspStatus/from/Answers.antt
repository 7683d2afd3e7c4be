-- A DSP status goes out in its layout, beside an empty record of the other.
-- Assumes nothing.
use Rattle.std.proofs.Common.{refl}
use Rattle.abi_messages.proofs.CDspStatusFromDspStatus.from.Goals as goal

pub returns-in-V80 : goal.returns-in-V80
returns-in-V80 c = rw c.in-V80.is refl

pub returns-in-V46 : goal.returns-in-V46
returns-in-V46 c = rw (c.in-V46.is, c.none.ensures) refl
