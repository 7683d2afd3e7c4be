-- Proved in proofs/Matched.antt.
-- Assumes nothing.
use Rattle.arm_runs.proofs.Matched.{in_order_iff}
use Rattle.arm_runs.proofs.in_order_is_a_matching.Goals as goal

pub returns : goal.returns
returns c = in_order_iff
