-- The theorem is proved in Swapped.antt.
-- Assumes nothing.
use Rattle.session_swap.proofs.Swapped.{swaps}
use Rattle.session_swap.proofs.feeds_swap.Goals as goal

pub returns : goal.returns
returns c = swaps
