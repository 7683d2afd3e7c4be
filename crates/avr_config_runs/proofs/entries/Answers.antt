-- The number of entries: proofs/Whole.antt.
-- Assumes nothing.
use Rattle.avr_config_runs.proofs.Whole.{entries}
use Rattle.avr_config_runs.proofs.entries.Goals as goal

pub returns : goal.returns
returns c = entries
