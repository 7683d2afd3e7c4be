-- The theorem is proved in Whole.antt.
-- Assumes nothing.
use Rattle.report_runs.proofs.Whole.{right}
use Rattle.report_runs.proofs.right_figures.Goals as goal

pub returns : goal.returns
returns c = right
