-- No place below `from` counts.
-- Assumes nothing.
use Rattle.std.proofs.Common.{ℕ, ◌+◌, ◌-◌, ◌<◌, ◌≤◌, length}
use Rattle.arm_steps.specs.Armed.{CountsAt}
use Rattle.arm_steps.proofs.armed.says_armed.Given as goal

abbrev pub invariant-loop-at : goal.invariant-loop-at
invariant-loop-at l = record {
  inside : l.from ≤ length l.text;
  none : (i : ℕ) → i < l.from → CountsAt l.text i → ⊥;
}

abbrev pub decreases-loop-at : goal.decreases-loop-at
decreases-loop-at l = length l.text + 1 - l.from
