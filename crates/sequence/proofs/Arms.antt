-- What a sequence's code tells: an event that its row names or doesn't, the outcome of a call.
-- Assumes nothing.
use mathlib.Core.Path.{◌≡◌}
use mathlib.Core.Bool.{true, false}
use Rattle.protocol.specs.declared.Refusal.{Refusal}
use Rattle.std.specs.Prelude.{Result, Ok, Err}
use Rattle.sequence.specs.Events.{Event}
use Rattle.sequence.specs.Rows.{Row, State, passes, idle, ticked, heard_at, judged}

-- an event that does not pass the row changes nothing
pub at_idles : {A Y K : Type 0} (r : Row A Y) (k : K) (r' : Row A Y) (s : State K Y) (e : Event A) → passes r s.deadline e ≡ false
    → heard_at r k r' s e ≡ idle s
at_idles r k r' s e h = rw h

-- one that passes ticks it
pub at_ticks : {A Y K : Type 0} (r : Row A Y) (k : K) (r' : Row A Y) (s : State K Y) (e : Event A) → passes r s.deadline e ≡ true
    → heard_at r k r' s e ≡ ticked r k r' s e
at_ticks r k r' s e h = rw h

-- ---- the outcome decides

pub judged_accepted : {F : Type 0} (o : Result (Unit {0}) Refusal) (f : F) (g : Refusal → F) → o ≡ Ok tt → f ≡ judged o f g
judged_accepted o f g h = rw h

pub judged_refused : {F : Type 0} (o : Result (Unit {0}) Refusal) (f : F) (g : Refusal → F) (r : Refusal) → o ≡ Err r → g r ≡ judged o f g
judged_refused o f g r h = rw h
