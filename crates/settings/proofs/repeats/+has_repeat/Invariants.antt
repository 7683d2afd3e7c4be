-- The list behind the first parameter is shorter.
-- Assumes nothing.
use Rattle.std.proofs.Common.{length}
use Rattle.settings.proofs.repeats.+has_repeat.Given as goal

abbrev pub decreases-has_repeat : goal.decreases-has_repeat
decreases-has_repeat l = length l.params.now
