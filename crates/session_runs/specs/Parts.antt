-- WHAT A SESSION IS, over every list of its calls: its DSP is a start-up of all of them; from the call that ends the DSP on, its AVR and its Pi
-- are start-ups of the places of the run since. Definitions only; the proof is proofs/Whole.antt.
-- Assumes nothing.
use Rattle.std.specs.Prelude.{◌≡◌, Bool, true, false, cond, List, [], ◌∷◌, ◌++◌, map, Some, None}
use Rattle.device.specs.declared.model.DeviceModel.{DeviceModel}
use Rattle.device.specs.Model.{model_in, has_camera}
use Rattle.matching.specs.Promise.{after_all, events}
use Rattle.sequence.specs.Events.{Event, reading}
use Rattle.dsp.specs.declared.DspSequencer.{DspSequencer}
use Rattle.dsp.specs.Calls as dsp
use Rattle.dsp.specs.Answers as dsps
use Rattle.avr_table.specs.Stores.{Dated}
use Rattle.avr.specs.Calls as avr
use Rattle.avr.specs.Answers as avrs
use Rattle.pi.specs.Calls as pi
use Rattle.pi.specs.Answers as pis
use Rattle.session_runs.specs.Calls.{SessionCall, event, state, run, dsp_call, avr_call, pi_calls, pi_events}

-- the DSP start-up of these calls
abbrev pub dsp_of : List SessionCall → DspSequencer
dsp_of cs = after_all dsp.after dsps.begun.seq (map dsp_call cs)

abbrev pub done : List SessionCall → Bool
done cs = dsps.is_done (dsp_of cs).state.step

-- the model that it has found
abbrev pub found : List SessionCall → DeviceModel
found cs = model_in (dsp_of cs).state.replies.dev_info

-- the places of the run that the calls `later` are, after the calls `first`: judged by the last reading then, which is the DSP's
abbrev pub places : List SessionCall → List SessionCall → List (Event Dated)
places first later = events reading event (dsp_of first).last later

-- c, after the calls `pre`, is the call that ends the DSP
pub record EndsIt (cs pre : List SessionCall) (c : SessionCall) (post : List SessionCall) : Type 0 where
  pub split : cs ≡ (pre ++ c ∷ []) ++ post
  pub before : done pre ≡ false
  pub from : done (pre ++ c ∷ []) ≡ true

pub record Right (cs : List SessionCall) : Type 0 where
  -- the DSP is called all that the session is
  pub is_dsp : (state cs).dsp ≡ dsp_of cs
  -- before it is done nothing else has begun
  pub no_avr : done cs ≡ false → (state cs).avr ≡ None
  pub no_pi : done cs ≡ false → (state cs).pi ≡ None
  -- once it is done one call has ended it
  pub ended : done cs ≡ true → (pre : List SessionCall) × (c : SessionCall) × (post : List SessionCall) × EndsIt cs pre c post
  -- and the others, of the model that it found then, are called the places since: without c
  pub is_avr : (pre : List SessionCall) (c : SessionCall) (post : List SessionCall) → EndsIt cs pre c post
      → (state cs).avr ≡ Some (after_all avr.after (avrs.begun (found (pre ++ c ∷ []))).seq (map avr_call (places (pre ++ c ∷ []) post)))
  pub is_pi : (pre : List SessionCall) (c : SessionCall) (post : List SessionCall) → EndsIt cs pre c post
      → (state cs).pi
      ≡ cond (has_camera (found (pre ++ c ∷ []))) (Some (after_all pi.after pis.begun.seq (pi_calls (places (pre ++ c ∷ []) post)))) None
  -- the run is its beginning's and then these places
  pub places_since : (first later : List SessionCall) → cs ≡ first ++ later → run cs ≡ run first ++ places first later
  -- the AVR and the Pi accept all that is passed to them, though to a new AVR no reading is below the last: their own runs are that part
  pub avr_run : (first later : List SessionCall) → cs ≡ first ++ later → events reading avr.event 0 (map avr_call (places first later)) ≡ places first later
  pub pi_run : (first later : List SessionCall) → cs ≡ first ++ later → events reading pi.event 0 (pi_calls (places first later)) ≡ pi_events (places first later)

-- for every list of calls
abbrev pub Theorem : Type 0
Theorem = (cs : List SessionCall) → Right cs
