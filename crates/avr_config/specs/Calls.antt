-- The calls of a settings run, as lists of them are made: it is only fed. Definitions only.
-- Assumes nothing.
use Rattle.sequence.specs.Calls.{Fed, Untimed}
use Rattle.avr_config.specs.declared.AvrConfigSequencer.{AvrConfigSequencer}
use Rattle.avr_config.specs.Answers.{fed_to}

-- the sequencer after a call, by what the contract of `feed` says
abbrev pub after : AvrConfigSequencer → Fed → AvrConfigSequencer
after s (Untimed.feed e) = (fed_to s e).seq
after s (Untimed.ask q) = s
