-- Of the numbers that apply to a feed of an arm the lowest is given. Definitions only.
-- Assumes nothing.
use Rattle.protocol.specs.Lowest.{GivesLowest}
use Rattle.sequence.specs.Events.{Envelope}
use Rattle.arm.specs.declared.ArmSequencer.{ArmSequencer}
use Rattle.arm.specs.Answers.{arm_refusals}

abbrev pub Theorem : Type 0
Theorem = (s : ArmSequencer) (e : Envelope) → GivesLowest (arm_refusals s e)
