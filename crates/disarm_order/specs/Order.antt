-- THE ORDER OF A DISARM'S TESTS, as src/seq.rs has it (docs/SCOPE.md, "Disarm"): each step's are a list, and the first that applies decides.
-- Definitions only.
-- Assumes nothing.
use Rattle.std.specs.Prelude.{◌≡◌, ℕ, Bool, true, false, not, ◌&&◌, cond, List, [], ◌∷◌, None, Ok, eqb}
use Rattle.protocol.specs.declared.BusAddr.{BusAddr}
use Rattle.protocol.specs.declared.ConfigAck.{ConfigAck}
use Rattle.protocol.specs.declared.Message.{Message}
use Rattle.protocol.specs.Addr.{byte_of}
use Rattle.protocol.specs.Kinds as kinds
use Rattle.device.specs.Search.{contains}
use Rattle.sequence.specs.Accepted.{bytes_refusals, none}
use Rattle.sequence.specs.Events.{Envelope, of_kind}
use Rattle.sequence.specs.declared.Answer.{Answer}
use Rattle.disarm.specs.declared.DisarmStep.{DisarmStep}
use Rattle.disarm.specs.declared.DisarmStep.TheVariants.{WaitAck, WaitModeReset, WaitStateIdle, Done}
use Rattle.disarm.specs.declared.DisarmSequencer.{DisarmSequencer}
use Rattle.disarm.specs.Table.{next, armed_cancelled, system_state}
use Rattle.disarm.specs.Answers.{fed_to}

-- a test, and whether an envelope to which it applies ends the step
pub record Test : Type 0 where
  pub applies : Envelope → Bool
  pub ends : Bool

-- the first that applies decides; where none does, the step goes on
abbrev pub decides : List Test → Envelope → Bool
decides [] e = false
decides (t ∷ l) e = cond (t.applies e) t.ends (decides l e)

-- ---- the tests

-- the source: not the Avr
abbrev pub source : Test
source = record { applies = λ e. not (eqb (byte_of e.src) 0x30); ends = false }

-- the kinds that are ignored: all but ConfigAck
abbrev pub ignored : Test
ignored = record { applies = λ e. not (of_kind kinds.config_ack e); ends = false }

abbrev pub acknowledgement : Test
acknowledgement = record { applies = of_kind kinds.config_ack; ends = true }

abbrev pub mode : Test
mode = record { applies = of_kind kinds.mode_ack; ends = true }

-- a text in which these bytes stand together
abbrev pub text : List ℕ → Test
text w = record { applies = λ e. of_kind kinds.text e && contains w e.text; ends = true }

-- ---- each step's, in order

abbrev pub tests : DisarmStep → List Test
tests WaitAck = source ∷ ignored ∷ acknowledgement ∷ []
tests WaitModeReset = mode ∷ text armed_cancelled ∷ []
tests WaitStateIdle = text system_state ∷ mode ∷ []
tests Done = []

-- mode and text have changed places
abbrev pub swapped : DisarmStep → List Test
swapped WaitAck = source ∷ ignored ∷ acknowledgement ∷ []
swapped WaitModeReset = text armed_cancelled ∷ mode ∷ []
swapped WaitStateIdle = mode ∷ text system_state ∷ []
swapped Done = []

-- the acknowledgement is put first
abbrev pub ack_first : List Test
ack_first = acknowledgement ∷ source ∷ ignored ∷ []

-- nothing is sent; the next step where the tests end this one
abbrev pub answer_by : List Test → DisarmSequencer → Envelope → Answer DisarmSequencer
answer_by l s e = record { outcome = Ok None; seq = record { step = cond (decides l e) (next s.step) s.step } }

abbrev pub Accepted : Envelope → Type 0
Accepted e = none (bytes_refusals e.text e.payload) ≡ true

pub record InOrder : Type 0 where
  -- an accepted feed answers by these lists
  pub by_lists : (s : DisarmSequencer) (e : Envelope) → Accepted e → fed_to s e ≡ answer_by (tests s.step) s e
  -- mode and text can change places
  pub change_places : (s : DisarmSequencer) (e : Envelope) → Accepted e → fed_to s e ≡ answer_by (swapped s.step) s e
  -- the acknowledgement put first would answer each ConfigAck from the Dsp otherwise
  pub not_first : (s : DisarmSequencer) (e : Envelope) (a : ConfigAck) → s.step ≡ WaitAck → Accepted e → e.src ≡ BusAddr.Dsp → e.message ≡ Message.ConfigAck a
      → (fed_to s e ≡ answer_by ack_first s e) → ⊥
