-- From proofs/Twice.antt.
-- Assumes nothing.
use Rattle.settings.proofs.Twice.{found}
use Rattle.settings.proofs.repeats.repeats_found.Goals as goal

pub returns : goal.returns
returns c = found
