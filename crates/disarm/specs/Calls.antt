-- The calls of a disarm, as lists of them are made: it is only fed. Definitions only.
-- Assumes nothing.
use Rattle.sequence.specs.Calls.{Fed, Untimed}
use Rattle.disarm.specs.declared.DisarmSequencer.{DisarmSequencer}
use Rattle.disarm.specs.Answers.{fed_to}

-- the sequencer after a call, by what the contract of `feed` says
abbrev pub after : DisarmSequencer → Fed → DisarmSequencer
after s (Untimed.feed e) = (fed_to s e).seq
after s (Untimed.ask q) = s
