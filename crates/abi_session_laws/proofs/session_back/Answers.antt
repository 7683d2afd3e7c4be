-- The theorem holds: proofs/Back.antt.
-- Assumes nothing.
use Rattle.abi_session_laws.proofs.Back.{back}
use Rattle.abi_session_laws.proofs.session_back.Goals as goal

pub returns : goal.returns
returns c = back
