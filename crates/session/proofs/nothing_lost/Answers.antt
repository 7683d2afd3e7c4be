-- The law holds: proofs/Last.antt.
-- Assumes nothing.
use Rattle.session.proofs.Last.{last}
use Rattle.session.proofs.nothing_lost.Goals as goal

pub returns : goal.returns
returns c = last
