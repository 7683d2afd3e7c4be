-- The calls of an arm, as lists of them are made: feeds. Definitions only.
-- Assumes nothing.
use Rattle.sequence.specs.Events.{Envelope}
use Rattle.arm.specs.declared.ArmSequencer.{ArmSequencer}
use Rattle.arm.specs.Answers.{fed_to}

-- the sequencer after a feed, by what its contract says
abbrev pub after : ArmSequencer → Envelope → ArmSequencer
after s e = (fed_to s e).seq
