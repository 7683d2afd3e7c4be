-- The theorem holds: proofs/Whole.antt.
-- Assumes nothing.
use Rattle.session_promise.proofs.Whole.{whole}
use Rattle.session_promise.proofs.done_together.Goals as goal

pub returns : goal.returns
returns c = whole
