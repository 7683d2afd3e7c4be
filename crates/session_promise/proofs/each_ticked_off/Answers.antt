-- The theorem holds: proofs/Ticking.antt.
-- Assumes nothing.
use Rattle.session_promise.proofs.Ticking.{ticking}
use Rattle.session_promise.proofs.each_ticked_off.Goals as goal

pub returns : goal.returns
returns c = ticking
