-- THE ROWS of a table, said once for every sequence: what an entry is, when it is ticked, and what an accepted feed or check does at it.
-- A is what a feed is handed, Y what is stored, K the steps. Definitions only.
-- Assumes nothing.
use Rattle.std.specs.Prelude.{ℕ, ◌+◌, Bool, true, false, cond, leb, Option, Some, None, Result, Ok, Err}
use Rattle.protocol.specs.declared.Action.{Action}
use Rattle.protocol.specs.declared.Refusal.{Refusal}
use Rattle.matching.specs.Matching.{Entry}
use Rattle.sequence.specs.declared.Moved.{Moved}
use Rattle.sequence.specs.declared.Answer.{Answer}
use Rattle.sequence.specs.Events.{Event, fed, checked, reading, Wait, forever, nanos, over}

-- An entry: the feeds that tick it, how long after the entry before a check may, what is sent then, and what is stored.
pub record Row (A Y : Type 0) : Type 0 where
  pub reply : A → Bool
  pub wait : Wait
  pub send : Event A → Option Action
  pub store : Event A → Y → Y

-- does this event tick the entry, the entry before being ticked at reading t?
abbrev pub test : {A Y : Type 0} → Row A Y → Entry (Event A)
test r t (fed a u) = r.reply a
test r t (checked u) = over r.wait t u

-- the row at Done: no event ticks it
abbrev pub past : {A Y : Type 0} → Row A Y
past = record { reply = λ a. false; wait = forever; send = λ e. None; store = λ e y. y }

-- ---- what a sequence holds

pub record State (K Y : Type 0) : Type 0 where
  pub step : K
  pub replies : Y
  -- by when the reply that is awaited has to come
  pub deadline : Option ℕ

-- the deadline n after t. One that no clock of 64 bits reaches is none; an accepted reading makes no such.
abbrev pub deadline_at : ℕ → ℕ → Option ℕ
deadline_at t n = cond (leb (t + n) 18_446_744_073_709_551_615) (Some (t + n)) None

-- d, or n after t where there is none
abbrev pub or_after : Option ℕ → ℕ → ℕ → Option ℕ
or_after (Some d) t n = Some d
or_after None t n = deadline_at t n

-- the reading t is at it or past it
abbrev pub reached : Option ℕ → ℕ → Bool
reached (Some d) t = leb d t
reached None t = false

-- ---- an accepted event

-- a check ticks a row with a wait once the deadline is reached
abbrev pub due : Wait → Option ℕ → ℕ → Bool
due forever d t = false
due (nanos n) d t = reached d t

abbrev pub passes : {A Y : Type 0} → Row A Y → Option ℕ → Event A → Bool
passes r d (fed a t) = r.reply a
passes r d (checked t) = due r.wait d t

-- Where the next row has a wait the deadline is set, that much after the reading; where only this one had, it is cleared.
abbrev pub deadline_after : Wait → Wait → Option ℕ → ℕ → Option ℕ
deadline_after forever forever d t = d
deadline_after (nanos n) forever d t = None
deadline_after forever (nanos k) d t = deadline_at t k
deadline_after (nanos n) (nanos k) d t = deadline_at t k

abbrev pub idle : {S : Type 0} → S → Moved S
idle s = record { action = None; state = s; ticked = false }

module _ {A Y K : Type 0} where
  -- the row r is ticked, and r', awaited at step k, is next: its send, its store
  abbrev pub ticked : Row A Y → K → Row A Y → State K Y → Event A → Moved (State K Y)
  ticked r k r' s e = record {
    action = r.send e;
    state = record { step = k; replies = r.store e s.replies; deadline = deadline_after r.wait r'.wait s.deadline (reading e) };
    ticked = true;
  }

  abbrev pub heard_at : Row A Y → K → Row A Y → State K Y → Event A → Moved (State K Y)
  heard_at r k r' s e = cond (passes r s.deadline e) (ticked r k r' s e) (idle s)

  -- the row at the step decides, and `next` says which step comes then
  abbrev pub heard : (K → Row A Y) → (K → K) → State K Y → Event A → Moved (State K Y)
  heard row next s e = heard_at (row s.step) (next s.step) (row (next s.step)) s e

-- ---- a call

-- an accepted call answers as it says; a refused one with its number alone
abbrev pub judged : {F : Type 0} → Result (Unit {0}) Refusal → F → (Refusal → F) → F
judged (Ok u) accepted refused = accepted
judged (Err r) accepted refused = refused r

-- no send, and the sequencer, last reading included, as before
abbrev pub refused : {S : Type 0} → S → Refusal → Answer S
refused s r = record { outcome = Err r; seq = s }
