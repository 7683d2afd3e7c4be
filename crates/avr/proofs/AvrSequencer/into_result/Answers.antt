-- `into_result` meets its contract: the step alone decides.
-- Assumes nothing.
use Rattle.std.proofs.Common.{rules}
use Rattle.avr.proofs.Result.{handed, too_early}
use Rattle.avr.proofs.AvrSequencer.into_result.Goals as goal

pub returns-in-Done : goal.returns-in-Done
returns-in-Done c = rw c.from.ensures (handed c.args.self c.in-Done.is)

pub returns-in_default : goal.returns-in_default
returns-in_default c = too_early c.args.self (search rules)
