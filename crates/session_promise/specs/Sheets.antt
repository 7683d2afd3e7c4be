-- THE SHEETS of a session's sequences, over every list of the session's calls: each that is asked for is that of the earliest ticking so far, over the
-- part of the run since its sequence's start, and is empty before. Definitions only; the proof is proofs/Sheets.antt.
-- Assumes nothing.
use Rattle.std.specs.Prelude.{ℕ, ◌≡◌, ◌≢◌, ◌≤◌, ◌<◌, false, true, List, ◌∷◌, ◌++◌, map, length, get_or, Result, Ok, Err}
use Rattle.device.specs.declared.model.DeviceModel.{DeviceModel}
use Rattle.device.specs.Model.{has_camera}
use Rattle.matching.specs.Promise.{SoFar, AnswersSoFar}
use Rattle.sequence.specs.Events.{checked, reading}
use Rattle.sequence.specs.Calls.{ask}
use Rattle.sheet.specs.declared.StartUp.{StartUp}
use Rattle.sheet.specs.declared.SheetRefusal.{SheetRefusal}
use Rattle.sheet.specs.Sheet as text
use Rattle.sheet.specs.Sheet.{given}
use Rattle.sheet.specs.Ticks.{tick_of}
use Rattle.dsp_table.specs.Table as dsp_table
use Rattle.avr_table.specs.Stores.{env}
use Rattle.avr_table.specs.Table as avr_table
use Rattle.avr.specs.Answers as avr
use Rattle.avr.specs.Calls as avr_calls
use Rattle.pi_table.specs.Table as pi_table
use Rattle.pi.specs.Answers as pi
use Rattle.pi.specs.Calls as pi_asked
use Rattle.session.specs.Answers.{begun, sheet_of}
use Rattle.session_runs.specs.Calls.{SessionCall, sheet, state, after, avr_call, pi_calls, pi_events}
use Rattle.session_promise.specs.Places.{dsp_event, Names, DspTicked, DspFirst, part}

-- an empty sheet: nothing is written, and it fits up to the buffer's end and no further
pub record Empty (given : Result ℕ SheetRefusal × List ℕ) (at : ℕ) (buf : List ℕ) : Type 0 where
  pub fits : at ≤ length buf → given.0 ≡ Ok 0
  pub past : length buf < at → given.0 ≡ Err SheetRefusal.PartTooShort
  pub buffer : given.1 ≡ buf

-- what is given for a sheet that is asked for after the calls `pre`
abbrev pub asked : List SessionCall → StartUp → List ℕ → ℕ → Result ℕ SheetRefusal × List ℕ
asked pre k buf at = given (sheet_of (state pre) k) at buf

module _ (m : DeviceModel) (pre : List SessionCall) where
  -- the DSP's earliest ticking is at the places ps: of the AVR's entries the first n can be ticked off over the part since, and no more, the earliest
  -- so at the places qs of it
  abbrev pub AvrSoFar : List ℕ → ℕ → List ℕ → Type 0
  AvrSoFar ps n qs = SoFar reading (checked 0) avr_calls.event (avr.begun m).seq avr_calls.after (avr_table.table m) (map avr_call (part m pre ps)) n qs

  abbrev pub PiSoFar : List ℕ → ℕ → List ℕ → Type 0
  PiSoFar ps n rs = SoFar reading (checked 0) pi_asked.event pi.begun.seq pi_asked.after pi_table.table (pi_calls (part m pre ps)) n rs

  pub record AvrSheet (buf : List ℕ) (at : ℕ) (ps : List ℕ) : Type 0 where
    pub some : (n : ℕ) × (qs : List ℕ) × AvrSoFar ps n qs
    pub each : (n : ℕ) (qs : List ℕ) → AvrSoFar ps n qs
        → asked pre StartUp.Avr buf at ≡ given (text.sheet StartUp.Avr (map (λ p. tick_of env (get_or (part m pre ps) p (checked 0))) qs)) at buf

  pub record PiSheet (buf : List ℕ) (at : ℕ) (ps : List ℕ) : Type 0 where
    pub some : (n : ℕ) × (rs : List ℕ) × PiSoFar ps n rs
    pub each : (n : ℕ) (rs : List ℕ) → PiSoFar ps n rs
        → asked pre StartUp.Pi buf at ≡ given (text.sheet StartUp.Pi (map (λ p. tick_of (λ v. v) (get_or (pi_events (part m pre ps)) p (checked 0))) rs)) at buf

-- each sheet that is asked for, into this buffer at this place, is by the calls `pre` before it
module _ (m : DeviceModel) (cs : List SessionCall) (buf : List ℕ) (at : ℕ) where
  pub record Right : Type 0 where
    pub dsp : AnswersSoFar reading (checked 0) dsp_event begun.session after (dsp_table.table m) (ask (sheet StartUp.Dsp buf at))
        (λ s. given (sheet_of s StartUp.Dsp) at buf) (tick_of (λ v. v)) (λ ts. given (text.sheet StartUp.Dsp ts) at buf) cs
    pub not_begun : (k : StartUp) → k ≢ StartUp.Dsp → (pre post : List SessionCall) → cs ≡ pre ++ ask (sheet k buf at) ∷ post
        → (DspTicked m pre → ⊥) → Empty (asked pre k buf at) at buf
    pub avr : (pre post : List SessionCall) → cs ≡ pre ++ ask (sheet StartUp.Avr buf at) ∷ post → (ps : List ℕ) → DspFirst m pre ps
        → AvrSheet m pre buf at ps
    pub pi : (pre post : List SessionCall) → cs ≡ pre ++ ask (sheet StartUp.Pi buf at) ∷ post → has_camera m ≡ true
        → (ps : List ℕ) → DspFirst m pre ps → PiSheet m pre buf at ps
    pub no_camera : (pre post : List SessionCall) → cs ≡ pre ++ ask (sheet StartUp.Pi buf at) ∷ post → has_camera m ≡ false
        → Empty (asked pre StartUp.Pi buf at) at buf

-- for every list of calls, and the model that it names; every buffer and place
abbrev pub Theorem : Type 0
Theorem = (m : DeviceModel) (cs : List SessionCall) → Names m cs → (buf : List ℕ) (at : ℕ) → Right m cs buf at
