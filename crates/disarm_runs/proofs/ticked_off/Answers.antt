-- The theorem holds: proofs/Whole.antt.
-- Assumes nothing.
use Rattle.disarm_runs.proofs.Whole.{right}
use Rattle.disarm_runs.proofs.ticked_off.Goals as goal

pub returns : goal.returns
returns c = right
