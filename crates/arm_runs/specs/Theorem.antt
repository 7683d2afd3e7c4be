-- THE THEOREM of the arm, over every list of feeds: how many nacks were counted, and when it is done. Arm goes back, so it has no table;
-- both are said of the list. Definitions only; the proof is proofs/Whole.antt.
-- Assumes nothing.
use Rattle.std.specs.Prelude.{ℕ, suc, ◌≡◌, ◌↔◌, Bool, true, false, not, cond, ◌&&◌, ◌||◌, List, [], ◌∷◌, ◌++◌, map, ltb}
use Rattle.matching.specs.Matching.{Table, Matching}
use Rattle.matching.specs.Promise.{after_all}
use Rattle.device.specs.declared.model.DeviceModel.{DeviceModel}
use Rattle.device.specs.Model.{has_camera}
use Rattle.sequence.specs.Accepted.{none, bytes_refusals}
use Rattle.sequence.specs.Events.{Envelope}
use Rattle.arm_steps.specs.declared.ArmStep.{ArmStep}
use Rattle.arm_steps.specs.Answers.{dsp_status, avr_status, ack, nack, pi_status, armed}
use Rattle.arm.specs.declared.ArmSequencer.{ArmSequencer}
use Rattle.arm.specs.Answers.{begun}
use Rattle.arm.specs.Calls.{after}

-- the feeds to which neither 1 nor 2 applies. A nack to which 13 applies is among them: it is not counted, and leads nowhere.
abbrev pub run : List Envelope → List Envelope
run [] = []
run (e ∷ cs) = cond (none (bytes_refusals e.text e.payload)) (e ∷ run cs) (run cs)

-- does the list have, in order, an envelope that passes each of these tests? (exactly when they can be matched: InOrder, below)
abbrev pub in_order : List (Envelope → Bool) → List Envelope → Bool
in_order [] r = true
in_order (t ∷ ts) [] = false
in_order (t ∷ ts) (e ∷ r) = cond (t e) (in_order ts r) (in_order (t ∷ ts) r)

-- the DSP's status and the AVR's; then the acknowledgement
abbrev pub statuses : List (Envelope → Bool)
statuses = dsp_status ∷ avr_status ∷ []

abbrev pub acknowledged : List (Envelope → Bool)
acknowledged = dsp_status ∷ avr_status ∷ ack ∷ []

-- Is e a counted nack, n being counted before it and a being what came since the last of them? It is if both statuses came, the acknowledgement
-- did not, and fewer than 65,535 are counted.
abbrev pub counted : ℕ → List Envelope → Envelope → Bool
counted n a e = (in_order statuses a && not (in_order acknowledged a)) && (nack e && ltb n 65_535)

-- the number of counted nacks of a run, and what came since the last
pub record Nacks : Type 0 where
  pub number : ℕ
  pub since : List Envelope

-- n being counted before, and a having come since the last of them
abbrev pub nacks_from : ℕ → List Envelope → List Envelope → Nacks
nacks_from n a [] = record { number = n; since = a }
nacks_from n a (e ∷ r) = cond (counted n a e) (nacks_from (suc n) [] r) (nacks_from n (a ++ e ∷ []) r)

abbrev pub nacks : List Envelope → Nacks
nacks r = nacks_from 0 [] r

-- after the acknowledgement the armed text, and with a camera the Pi's status, in either order
abbrev pub armed_since : DeviceModel → List Envelope → Bool
armed_since m a = in_order (acknowledged ++ armed ∷ []) a && (not (has_camera m) || in_order (acknowledged ++ pi_status ∷ []) a)

module _ (m : DeviceModel) (cs : List Envelope) where
  -- an arm begins as `new_for` leaves it
  abbrev pub state : ArmSequencer
  state = after_all after (begun m).seq cs

  pub record Right : Type 0 where
    pub retries : state.retries ≡ (nacks (run cs)).number
    pub done : (state.step ≡ ArmStep.Done) ↔ (armed_since m (nacks (run cs)).since ≡ true)

-- for every model given at new, and every list of feeds
abbrev pub Theorem : Type 0
Theorem = (m : DeviceModel) (cs : List Envelope) → Right m cs

-- ---- "in order" is no second notion

-- the tests as a table, and events without a clock
abbrev pub table_of : List (Envelope → Bool) → Table Envelope
table_of ts = map (λ t n e. t e) ts

abbrev pub at : Envelope → ℕ
at e = 0

-- a list has envelopes that pass these tests in order exactly when the tests can be matched (d stands past its end: nothing here looks there)
abbrev pub InOrder : Type 0
InOrder =
    (d : Envelope) (ts : List (Envelope → Bool)) (r : List Envelope)
    → (in_order ts r ≡ true) ↔ ((ps : List ℕ) × Matching at d (table_of ts) r ps)
