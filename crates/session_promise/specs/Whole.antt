-- A SESSION'S DONE AND RESULT, over every list of its calls: done when all the tables that its model has are ticked off over their parts; the result
-- is refused with 12 before, and is theirs from then on, by the earliest tickings. Definitions only; the proof is proofs/Whole.antt.
-- Assumes nothing.
use Rattle.std.specs.Prelude.{ℕ, ◌-◌, ◌≡◌, ◌↔◌, true, cond, List, ◌∷◌, ◌++◌, map, get_or, Some, None, Ok, Err}
use Rattle.protocol.specs.declared.Refusal.{Refusal}
use Rattle.device.specs.declared.model.DeviceModel.{DeviceModel}
use Rattle.device.specs.Model.{has_camera, has_factory_cal}
use Rattle.matching.specs.Promise.{tick}
use Rattle.sequence.specs.Events.{Event, checked, reading}
use Rattle.sequence.specs.Calls.{ask}
use Rattle.dsp_runs.specs.Theorem as dsp_runs
use Rattle.avr_runs.specs.Theorem as avr_runs
use Rattle.pi_runs.specs.Theorem as pi_runs
use Rattle.session.specs.declared.SessionSync.{SessionSync}
use Rattle.session.specs.Answers.{begun, is_done, finished}
use Rattle.session_runs.specs.Calls.{SessionCall, into_result, state, after, pi_events}
use Rattle.session_promise.specs.Places.{dsp_event, Names, DspFirst, part, AvrTicked, AvrFirst, PiTicked, PiFirst}

-- the event at the place of the entry number k, counted from 1, among the places qs of a part
abbrev pub at : {A : Type 0} → List (Event A) → List ℕ → ℕ → Event A
at r qs k = get_or (map (λ p. get_or r p (checked 0)) qs) (k - 1) (checked 0)

module _ (m : DeviceModel) (cs : List SessionCall) where
  -- each table that m has is ticked off: the DSP's over the run, the others' over the part since
  abbrev pub AllTicked : Type 0
  AllTicked = (ps : List ℕ) × DspFirst m cs ps × AvrTicked m cs ps × (has_camera m ≡ true → PiTicked m cs ps)

  -- and their earliest tickings are at these places
  pub record AllFirst (ps qs rs : List ℕ) : Type 0 where
    pub dsp : DspFirst m cs ps
    pub avr : AvrFirst m cs ps qs
    pub pi : has_camera m ≡ true → PiFirst m cs ps rs

  -- the results that the three theorems give by these tickings
  abbrev pub result_of : List ℕ → List ℕ → List ℕ → SessionSync
  result_of ps qs rs = record {
    dsp = dsp_runs.result_of m (tick reading (checked 0) dsp_event begun.session after cs ps);
    avr = avr_runs.result_of (has_factory_cal m) (at (part m cs ps) qs);
    pi = cond (has_camera m) (Some (pi_runs.result_of (at (pi_events (part m cs ps)) rs))) None;
  }

module _ (m : DeviceModel) (cs : List SessionCall) where
  pub record Right : Type 0 where
    pub done : is_done (state cs) ≡ true ↔ AllTicked m cs
    pub first : AllTicked m cs → (ps : List ℕ) × (qs : List ℕ) × (rs : List ℕ) × AllFirst m cs ps qs rs
    -- each result that is asked for: by the calls before it whether there is one, and by the whole list which
    pub before : (pre post : List SessionCall) → cs ≡ pre ++ ask into_result ∷ post → (AllTicked m pre → ⊥) → finished (state pre) ≡ Err Refusal.NotDone
    pub from : (pre post : List SessionCall) → cs ≡ pre ++ ask into_result ∷ post → AllTicked m pre
        → (ps qs rs : List ℕ) → AllFirst m cs ps qs rs → finished (state pre) ≡ Ok (result_of m cs ps qs rs)

-- for every list of calls, and the model that it names
abbrev pub Theorem : Type 0
Theorem = (m : DeviceModel) (cs : List SessionCall) → Names m cs → Right m cs
