-- The theorem holds: proofs/Rules.antt.
-- Assumes nothing.
use Rattle.arm_steps.proofs.Rules.{rules}
use Rattle.arm_steps.proofs.armed.rules_agree.Goals as goal

pub returns : goal.returns
returns c = rules
