-- The theorem holds: proofs/Ran.antt.
-- Assumes nothing.
use Rattle.settings_sends.proofs.Ran.{right}
use Rattle.settings_sends.proofs.a_finished_run_sent.Goals as goal

pub returns : goal.returns
returns c = right
