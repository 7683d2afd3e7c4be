-- The theorem holds: proofs/Inverse.antt.
-- Assumes nothing.
use Rattle.settings_sends.proofs.Inverse.{right}
use Rattle.settings_sends.proofs.reading_is_the_inverse.Goals as goal

pub returns : goal.returns
returns c = right
