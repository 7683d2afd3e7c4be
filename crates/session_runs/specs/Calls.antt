-- The calls of a session, as lists of them are made, and what of them each sequence is called. Definitions only.
-- Assumes nothing.
use Rattle.std.specs.Prelude.{ℕ, List, [], ◌∷◌}
use Rattle.matching.specs.Promise.{after_all, events}
use Rattle.sequence.specs.Events.{Envelope, Event, fed, checked, reading}
use Rattle.sequence.specs.Calls as calls
use Rattle.sheet.specs.declared.StartUp.{StartUp}
use Rattle.dsp.specs.Calls as dsp
use Rattle.avr_table.specs.Stores.{Dated, env}
use Rattle.avr.specs.Calls as avr
use Rattle.pi.specs.Calls as pi
use Rattle.session.specs.declared.Session.{Session}
use Rattle.session.specs.Answers.{begun, fed_to, polled, taken, bare}

-- beside feeds and checks: into_result, take_refused, and the sheet of one of the three, with the lent buffer and the place
pub data Asked : Type 0 where
  into_result : Asked
  take_refused : Asked
  sheet : StartUp → List ℕ → ℕ → Asked

abbrev pub SessionCall : Type 0
SessionCall = calls.Call Dated Asked

-- the session after a call, by what the contracts say; asking for the result or a sheet leaves it
abbrev pub after : Session → SessionCall → Session
after s (calls.feed d t) = (fed_to s d t).session
after s (calls.check t) = (polled s t).session
after s (calls.ask into_result) = s
after s (calls.ask take_refused) = (taken s).session
after s (calls.ask (sheet k buf at)) = s

abbrev pub event : ℕ → SessionCall → List (Event Dated)
event last c = calls.event env last c

abbrev pub state : List SessionCall → Session
state cs = after_all after begun.session cs

-- the session's run: its accepted feeds and checks
abbrev pub run : List SessionCall → List (Event Dated)
run cs = events reading event 0 cs

-- ---- the DSP is called whatever the session is; to be asked for a sheet leaves it, whosever that is

abbrev pub dsp_call : SessionCall → dsp.DspCall
dsp_call (calls.feed d t) = calls.feed d.envelope t
dsp_call (calls.check t) = calls.check t
dsp_call (calls.ask into_result) = calls.ask dsp.into_result
dsp_call (calls.ask take_refused) = calls.ask dsp.take_refused
dsp_call (calls.ask (sheet k buf at)) = calls.ask (dsp.sheet buf at)

-- ---- the AVR and the Pi are called the places of a part of the run; of the checks the Pi hears nothing

abbrev pub avr_call : Event Dated → avr.AvrCall
avr_call (fed d t) = calls.feed d t
avr_call (checked t) = calls.check t

abbrev pub pi_calls : List (Event Dated) → List pi.PiCall
pi_calls [] = []
pi_calls (fed d t ∷ r) = calls.Untimed.feed (bare d.envelope) ∷ pi_calls r
pi_calls (checked t ∷ r) = pi_calls r

-- what the Pi hears of a part: its feeds, without readings and numbers
abbrev pub pi_events : List (Event Dated) → List (Event Envelope)
pi_events [] = []
pi_events (fed d t ∷ r) = fed (bare d.envelope) 0 ∷ pi_events r
pi_events (checked t ∷ r) = pi_events r
