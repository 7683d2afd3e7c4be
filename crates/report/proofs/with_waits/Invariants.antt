-- The places below i are done, and the others are as they were.
-- Assumes nothing.
use Rattle.std.proofs.Common.{◌≡◌, ℕ, ◌+◌, ◌<◌, ◌≤◌, length, get_or}
use Rattle.report.specs.Report.{plus, readings, wait_at}
use Rattle.report.proofs.with_waits.Given as goal

abbrev pub invariant-loop-i : goal.invariant-loop-i
invariant-loop-i l = record {
  long : length l.sums ≡ 11;
  done : (j : ℕ) → j < l.i → get_or l.sums j 0 ≡ plus (get_or l.fn.waits j 0) (wait_at (j + 2) (readings l.ticks));
  rest : (j : ℕ) → l.i ≤ j → get_or l.sums j 0 ≡ get_or l.fn.waits j 0;
}
