-- What a call of a Pi start-up shows, and when two lists of calls are the same but for the texts of network replies. Definitions only.
-- Assumes nothing.
use Rattle.std.specs.Prelude.{ℕ, ◌≡◌, ◌≤◌, ◌⊎◌, true, List, [], ◌∷◌, length, Option, Result, Ok, Err}
use Rattle.protocol.specs.declared.Action.{Action}
use Rattle.protocol.specs.declared.Refusal.{Refusal}
use Rattle.protocol.specs.Kinds.{net_config_resp}
use Rattle.protocol.specs.Stored.{stored}
use Rattle.sequence.specs.Events.{Envelope, of_kind}
use Rattle.sequence.specs.Calls.{feed, ask}
use Rattle.sheet.specs.declared.SheetRefusal.{SheetRefusal}
use Rattle.sheet.specs.Sheet.{given}
use Rattle.pi_table.specs.declared.PiStep.{PiStep}
use Rattle.pi.specs.declared.PiSequencer.{PiSequencer}
use Rattle.pi.specs.declared.PiSync.{PiSync}
use Rattle.pi.specs.Answers.{fed_to, finished, sheet_of}
use Rattle.pi.specs.Calls.{PiCall, into_result, sheet, after}

-- ---- the same calls, but for network texts

abbrev pub with_text : List ℕ → Envelope → Envelope
with_text text e = record { src = e.src; type_id = e.type_id; message = e.message; params = e.params; text = text; payload = e.payload }

-- b is a with another text: both are network replies, from the Pi or from any other device, and neither text exceeds 256 bytes
pub record OtherText (a b : Envelope) : Type 0 where
  pub network : of_kind net_config_resp a ≡ true
  pub same : b ≡ with_text b.text a
  pub first : length a.text ≤ 256
  pub second : length b.text ≤ 256

-- the same call, or a feed with such another text; the same sheet call has the same buffer and place
abbrev pub Alike : PiCall → PiCall → Type 0
Alike (feed a) (feed b) = (a ≡ b) ⊎ OtherText a b
Alike (feed a) (ask r) = ⊥
Alike (ask q) (feed b) = ⊥
Alike (ask q) (ask r) = q ≡ r

-- call by call
abbrev pub AllAlike : List PiCall → List PiCall → Type 0
AllAlike [] [] = Unit {0}
AllAlike [] (d ∷ ds) = ⊥
AllAlike (c ∷ cs) [] = ⊥
AllAlike (c ∷ cs) (d ∷ ds) = Alike c d × AllAlike cs ds

-- ---- what is shown

-- A result without the name of the network, its password and the lengths of these two. Every field is named, so that one that is added
-- later has its place here, too.
abbrev pub without_network : PiSync → PiSync
without_network r = record { dev_info = r.dev_info; cam_config = r.cam_config; ssid = stored []; password = stored [] }

abbrev pub rest : Result PiSync Refusal → Result PiSync Refusal
rest (Ok r) = Ok (without_network r)
rest (Err p) = Err p

-- what a call answers: a feed its send or none, the call for the result that but for the network, each or its refusal; the call for the
-- sheet how many bytes that is, or its refusal, and the buffer then
pub data Outcome : Type 0 where
  of_feed : Result (Option Action) Refusal → Outcome
  of_result : Result PiSync Refusal → Outcome
  of_sheet : Result ℕ SheetRefusal × List ℕ → Outcome

abbrev pub outcome_of : PiSequencer → PiCall → Outcome
outcome_of s (feed e) = of_feed (fed_to s e).outcome
outcome_of s (ask into_result) = of_result (rest (finished s))
outcome_of s (ask (sheet buf at)) = of_sheet (given (sheet_of s) at buf)

-- What a call answers; then the step that is next, the bytes of the sheet so far, and what the result would be if it were asked for now,
-- but for the network
pub record Shown : Type 0 where
  pub outcome : Outcome
  pub step : PiStep
  pub sheet : List ℕ
  pub result : Result PiSync Refusal

-- beside the answer o, the sequencer s
abbrev pub beside : Outcome → PiSequencer → Shown
beside o s = record { outcome = o; step = s.step; sheet = sheet_of s; result = rest (finished s) }

abbrev pub shown : PiSequencer → PiCall → Shown
shown s c = beside (outcome_of s c) (after s c)

-- of each call in turn
abbrev pub shown_all : PiSequencer → List PiCall → List Shown
shown_all s [] = []
shown_all s (c ∷ cs) = shown s c ∷ shown_all (after s c) cs
