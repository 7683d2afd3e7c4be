-- The theorem holds: proofs/Whole.antt.
-- Assumes nothing.
use Rattle.pi_runs.proofs.Whole.{right}
use Rattle.pi_runs.proofs.ticked_off.Goals as goal

pub returns : goal.returns
returns c = right
