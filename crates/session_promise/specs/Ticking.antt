-- EACH SEQUENCE of a session is ticked off over the part of the run since its start, over every list of the session's calls. Definitions only; the
-- proof is proofs/Ticking.antt.
-- Assumes nothing.
use Rattle.std.specs.Prelude.{ℕ, ◌+◌, ◌≡◌, ◌↔◌, true, false, List, [], ◌∷◌, ◌++◌, map, length, Some, None}
use Rattle.device.specs.declared.model.DeviceModel.{DeviceModel}
use Rattle.device.specs.Model.{has_camera}
use Rattle.matching.specs.Promise.{after_all, events, Ends}
use Rattle.sequence.specs.Events.{checked, reading}
use Rattle.dsp_table.specs.declared.DspStep.{DspStep}
use Rattle.dsp_table.specs.Table as dsp_table
use Rattle.avr_table.specs.declared.AvrStep.{AvrStep}
use Rattle.avr.specs.declared.AvrSequencer.{AvrSequencer}
use Rattle.avr.specs.Answers as avr
use Rattle.avr.specs.Calls as avr_calls
use Rattle.pi_table.specs.declared.PiStep.{PiStep}
use Rattle.pi.specs.declared.PiSequencer.{PiSequencer}
use Rattle.pi.specs.Answers as pi
use Rattle.pi.specs.Calls as pi_asked
use Rattle.session.specs.Answers.{begun, dsp_done}
use Rattle.session_runs.specs.Calls.{SessionCall, state, after, run, avr_call, pi_calls, pi_events}
use Rattle.session_promise.specs.Places.{dsp_event, Names, DspTicked, DspFirst, start, part, AvrTicked, AvrFirst, PiTicked, PiFirst}

-- c, after the calls `pre`, is the call that ends the DSP
pub record EndsDsp (pre : List SessionCall) (c : SessionCall) : Type 0 where
  pub before : dsp_done (state pre) ≡ false
  pub from : dsp_done (state (pre ++ c ∷ [])) ≡ true

module _ (m : DeviceModel) (cs : List SessionCall) where
  -- the start is the place that the call is which ends the DSP; there is such a call, and no other
  pub record Start (ps : List ℕ) : Type 0 where
    pub some : (pre : List SessionCall) × (c : SessionCall) × (post : List SessionCall) × (cs ≡ (pre ++ c ∷ []) ++ post) × EndsDsp pre c
    pub each : (pre : List SessionCall) (c : SessionCall) (post : List SessionCall) → cs ≡ (pre ++ c ∷ []) ++ post → EndsDsp pre c
        → (start m cs ps ≡ length (run pre)) × (length (run (pre ++ c ∷ [])) ≡ length (run pre) + 1)

  -- the AVR start-up of m that is called the places of the part, and takes them all
  pub record AvrPart (ps : List ℕ) : Type 0 where
    pub seq : AvrSequencer
    pub there : (state cs).avr ≡ Some seq
    pub called : seq ≡ after_all avr_calls.after (avr.begun m).seq (map avr_call (part m cs ps))
    pub run : events reading avr_calls.event 0 (map avr_call (part m cs ps)) ≡ part m cs ps
    pub done : (seq.state.step ≡ AvrStep.Done) ↔ AvrTicked m cs ps
    pub first : AvrTicked m cs ps → (qs : List ℕ) × AvrFirst m cs ps qs

  pub record PiPart (ps : List ℕ) : Type 0 where
    pub seq : PiSequencer
    pub there : (state cs).pi ≡ Some seq
    pub called : seq ≡ after_all pi_asked.after pi.begun.seq (pi_calls (part m cs ps))
    pub run : events reading pi_asked.event 0 (pi_calls (part m cs ps)) ≡ pi_events (part m cs ps)
    pub done : (seq.step ≡ PiStep.Done) ↔ PiTicked m cs ps
    pub first : PiTicked m cs ps → (rs : List ℕ) × PiFirst m cs ps rs

  pub record Right : Type 0 where
    -- the DSP, over the whole run
    pub dsp : Ends reading (checked 0) dsp_event begun.session after (dsp_table.table m) (λ s. s.dsp.state.step ≡ DspStep.Done) cs
    -- until its table can be ticked off nothing else has begun
    pub no_avr : (DspTicked m cs → ⊥) → (state cs).avr ≡ None
    pub no_pi : (DspTicked m cs → ⊥) → (state cs).pi ≡ None
    -- from then on, ps being its earliest ticking
    pub starts : (ps : List ℕ) → DspFirst m cs ps → Start ps
    pub avr : (ps : List ℕ) → DspFirst m cs ps → AvrPart ps
    pub pi : (ps : List ℕ) → DspFirst m cs ps → has_camera m ≡ true → PiPart ps
    -- and without a camera never
    pub no_camera : has_camera m ≡ false → (state cs).pi ≡ None

pub record Theorem : Type 0 where
  -- every list of calls names a model
  pub named : (cs : List SessionCall) → (m : DeviceModel) × Names m cs
  pub right : (m : DeviceModel) (cs : List SessionCall) → Names m cs → Right m cs
