-- The law holds: proofs/Law.antt.
-- Assumes nothing.
use Rattle.host.proofs.Law.{nothing_beside}
use Rattle.host.proofs.nothing_beside.Goals as goal

pub returns : goal.returns
returns c = nothing_beside
