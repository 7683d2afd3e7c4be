-- The theorem holds: proofs/Taking.antt.
-- Assumes nothing.
use Rattle.session_promise.proofs.Taking.{taking}
use Rattle.session_promise.proofs.nack_taken.Goals as goal

pub returns : goal.returns
returns c = taking
