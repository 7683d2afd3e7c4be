-- The calls of a DSP start-up, as lists of them are made. Definitions only.
-- Assumes nothing.
use Rattle.std.specs.Prelude.{ℕ, Bool, true, false, List, [], ◌∷◌}
use Rattle.sequence.specs.Events.{Envelope, Event}
use Rattle.sequence.specs.Calls as calls
use Rattle.dsp.specs.declared.DspSequencer.{DspSequencer}
use Rattle.dsp.specs.Answers.{fed_to, polled, taken}

-- beside feeds and checks: into_result, take_refused, and the sheet, with the lent buffer and the place
pub data Asked : Type 0 where
  into_result : Asked
  take_refused : Asked
  sheet : List ℕ → ℕ → Asked

abbrev pub DspCall : Type 0
DspCall = calls.Call Envelope Asked

-- the sequencer after a call, by what the contracts say; asking for the result or the sheet leaves it
abbrev pub after : DspSequencer → DspCall → DspSequencer
after s (calls.feed e t) = (fed_to s e t).seq
after s (calls.check t) = (polled s t).seq
after s (calls.ask into_result) = s
after s (calls.ask take_refused) = (taken s).seq
after s (calls.ask (sheet buf at)) = s

abbrev pub event : ℕ → DspCall → List (Event Envelope)
event last c = calls.event (λ e. e) last c

-- is there a taking among these calls?
abbrev pub takes : List DspCall → Bool
takes [] = false
takes (calls.feed e t ∷ cs) = takes cs
takes (calls.check t ∷ cs) = takes cs
takes (calls.ask into_result ∷ cs) = takes cs
takes (calls.ask take_refused ∷ cs) = true
takes (calls.ask (sheet buf at) ∷ cs) = takes cs
