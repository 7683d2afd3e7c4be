-- The theorem, from proofs/Steps.antt: the numbers rise.
-- Assumes nothing.
use Rattle.arm.proofs.Steps.{lowest_given}
use Rattle.arm.proofs.lowest_number.Goals as goal

pub returns : goal.returns
returns c = lowest_given
