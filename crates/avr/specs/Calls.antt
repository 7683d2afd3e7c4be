-- The calls of an AVR start-up, as lists of them are made. Definitions only.
-- Assumes nothing.
use Rattle.std.specs.Prelude.{ℕ, List}
use Rattle.sequence.specs.Events.{Event}
use Rattle.sequence.specs.Calls as calls
use Rattle.avr_table.specs.Stores.{Dated, env}
use Rattle.avr.specs.declared.AvrSequencer.{AvrSequencer}
use Rattle.avr.specs.Answers.{fed_to, polled}

-- beside feeds and checks: into_result, and the sheet, with the lent buffer and the place
pub data Asked : Type 0 where
  into_result : Asked
  sheet : List ℕ → ℕ → Asked

abbrev pub AvrCall : Type 0
AvrCall = calls.Call Dated Asked

-- the sequencer after a call, by what the contracts say; asking for the result or the sheet leaves it
abbrev pub after : AvrSequencer → AvrCall → AvrSequencer
after s (calls.feed d t) = (fed_to s d t).seq
after s (calls.check t) = (polled s t).seq
after s (calls.ask into_result) = s
after s (calls.ask (sheet buf at)) = s

abbrev pub event : ℕ → AvrCall → List (Event Dated)
event last c = calls.event env last c
