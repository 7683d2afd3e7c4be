-- THE THEOREM of the disarm: the promise (crate matching, Promise.antt) with its table. Definitions only; the proof is proofs/Whole.antt.
-- Assumes nothing.
use Rattle.std.specs.Prelude.{◌≡◌, List}
use Rattle.matching.specs.Promise.{Ends}
use Rattle.sequence.specs.Events.{checked, reading}
use Rattle.sequence.specs.Calls.{Fed, fed_event}
use Rattle.disarm.specs.declared.DisarmStep.{DisarmStep}
use Rattle.disarm.specs.Table.{table}
use Rattle.disarm.specs.Answers.{begun}
use Rattle.disarm.specs.Calls.{after}

-- for every list of calls; a disarm begins as `new` leaves it, and has no result
abbrev pub Theorem : Type 0
Theorem = (cs : List Fed) → Ends reading (checked 0) fed_event begun.seq after table (λ s. s.step ≡ DisarmStep.Done) cs
