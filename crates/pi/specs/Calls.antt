-- The calls of a Pi start-up, as lists of them are made. Definitions only.
-- Assumes nothing.
use Rattle.std.specs.Prelude.{ℕ, List}
use Rattle.sequence.specs.Events.{Envelope, Event}
use Rattle.sequence.specs.Calls as calls
use Rattle.pi.specs.declared.PiSequencer.{PiSequencer}
use Rattle.pi.specs.Answers.{fed_to}

-- beside feeds: into_result, and the sheet, with the lent buffer and the place
pub data Asked : Type 0 where
  into_result : Asked
  sheet : List ℕ → ℕ → Asked

abbrev pub PiCall : Type 0
PiCall = calls.Untimed Envelope Asked

-- the sequencer after a call, by what the contracts say; asking for the result or the sheet leaves it
abbrev pub after : PiSequencer → PiCall → PiSequencer
after s (calls.feed e) = (fed_to s e).seq
after s (calls.ask into_result) = s
after s (calls.ask (sheet buf at)) = s

abbrev pub event : ℕ → PiCall → List (Event Envelope)
event last c = calls.untimed (λ e. e) last c
