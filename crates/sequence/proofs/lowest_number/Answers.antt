-- The theorem, from proofs/Acceptance.antt: the lists rise.
-- Assumes nothing.
use Rattle.sequence.proofs.Acceptance.{lowest_given}
use Rattle.sequence.proofs.lowest_number.Goals as goal

pub returns : goal.returns
returns c = lowest_given
