-- The settings of a Mevo, each field as it is given.
-- Assumes nothing.
use Rattle.std.proofs.Common.{refl}
use Rattle.settings.proofs.MevoSettings.new.Goals as goal

pub returns : goal.returns
returns c = refl
