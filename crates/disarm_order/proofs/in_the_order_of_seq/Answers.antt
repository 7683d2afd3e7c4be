-- The theorem holds: proofs/Whole.antt.
-- Assumes nothing.
use Rattle.disarm_order.proofs.Whole.{right}
use Rattle.disarm_order.proofs.in_the_order_of_seq.Goals as goal

pub returns : goal.returns
returns c = right
