-- The theorem holds: proofs/Whole.antt.
-- Assumes nothing.
use Rattle.arm_runs.proofs.Whole.{right}
use Rattle.arm_runs.proofs.armed.Goals as goal

pub returns : goal.returns
returns c = right
