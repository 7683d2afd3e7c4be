-- The theorem holds: proofs/Whole.antt.
-- Assumes nothing.
use Rattle.avr_config_runs.proofs.Whole.{going}
use Rattle.avr_config_runs.proofs.goes_on.Goals as goal

pub returns : goal.returns
returns c = going
