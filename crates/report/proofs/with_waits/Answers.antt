-- After the last turn each place is done, so that the sums are those of the eleven tick numbers, one by one.
-- Assumes nothing.
use mathlib.Core.Path.{◌≡◌, refl, ◌∙◌}
use mathlib.Core.List.{◌∷◌}
use Prim.Native.Nat.{ℕ, zero, suc, ◌+◌, ◌<◌, suc-le-suc, zero-le}
use native.Mathlib.Omega.{arith}
use lib.ListN.{get_or}
use Rattle.matching.proofs.Spelled.{tabulate, spelled}
use Rattle.report.specs.Report.{plus, readings, wait_at}
use Rattle.report.proofs.with_waits.Goals as goal

same : (n : ℕ) (f g : ℕ → ℕ) → ((k : ℕ) → k < n → f k ≡ g k) → tabulate f n ≡ tabulate g n
same zero f g h = refl
same (suc n) f g h =
    let tail = same n (λ k. f (suc k)) (λ k. g (suc k)) (λ k l. h (suc k) (suc-le-suc l)) in
    let head = h 0 (suc-le-suc zero-le) in
    λ i. head i ∷ tail i

pub returns : goal.returns
returns c =
    spelled 0 c.loop-i.sums 11 c.loop-i.invariant.long
    ∙ same 11 (λ k. get_or c.loop-i.sums k 0) (λ k. plus (get_or c.args.waits k 0) (wait_at (k + 2) (readings c.args.ticks.now)))
    (λ k l. c.loop-i.invariant.done k (omega (arith, l, c.loop-i-test.false)))
