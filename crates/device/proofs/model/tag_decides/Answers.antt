-- The theorem holds: proofs/Tags.antt.
-- Assumes nothing.
use Rattle.device.proofs.Tags.{decides}
use Rattle.device.proofs.model.tag_decides.Goals as goal

pub returns : goal.returns
returns c = decides
