-- The theorem holds: proofs/Back.antt.
-- Assumes nothing.
use Rattle.abi_laws.proofs.Back.{back}
use Rattle.abi_laws.proofs.there_and_back.Goals as goal

pub returns : goal.returns
returns c = back
