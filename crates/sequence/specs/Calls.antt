-- The calls of a sequence, and the events (the scope's places) of its run that they are. Definitions only.
-- Assumes nothing.
use Rattle.std.specs.Prelude.{ℕ, cond, List, [], ◌∷◌}
use Rattle.sequence.specs.Accepted.{bytes_refusals, feed_refusals, check_refusals, none}
use Rattle.sequence.specs.Events.{Envelope, Event, fed, checked}

-- Q: the calls that are neither feed nor check, as asking for the result
pub data Call (A Q : Type 0) : Type 0 where
  feed : A → ℕ → Call A Q
  check : ℕ → Call A Q
  ask : Q → Call A Q

-- An accepted feed or check is one event, any other call none. `last` is the reading of the last accepted one before it in the list;
-- `env` finds the envelope in what a feed is handed.
abbrev pub event : {A Q : Type 0} → (A → Envelope) → ℕ → Call A Q → List (Event A)
event env last (feed a t) = cond (none (feed_refusals (env a).text (env a).payload last t)) (fed a t ∷ []) []
event env last (check t) = cond (none (check_refusals last t)) (checked t ∷ []) []
event env last (ask q) = []

-- the calls of a sequence without a clock
pub data Untimed (A Q : Type 0) : Type 0 where
  feed : A → Untimed A Q
  ask : Q → Untimed A Q

abbrev pub untimed : {A Q : Type 0} → (A → Envelope) → ℕ → Untimed A Q → List (Event A)
untimed env last (feed a) = cond (none (bytes_refusals (env a).text (env a).payload)) (fed a 0 ∷ []) []
untimed env last (ask q) = []

-- the calls of a sequence that is only fed: nothing is asked of it
abbrev pub Fed : Type 0
Fed = Untimed Envelope ⊥

abbrev pub fed_event : ℕ → Fed → List (Event Envelope)
fed_event last c = untimed (λ e. e) last c
