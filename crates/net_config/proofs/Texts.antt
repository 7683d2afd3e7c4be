-- The first zero byte of a text.
-- Assumes nothing.
use mathlib.Core.Bool.{Bool, true, false, cond}
use mathlib.Core.List.{List, [], ◌∷◌}
use Prim.Native.Nat.{ℕ, suc, ◌≤◌, zero-le, suc-le-suc}
use lib.Dec.{eqb}
use lib.ListN.{length}
use Rattle.net_config.specs.Zero.{first_zero}

pub inside : (s : List ℕ) → first_zero s ≤ length s
inside [] = zero-le
inside (b ∷ s) = go (inside s) (eqb b 0)
  where
    go : first_zero s ≤ length s → (z : Bool) → cond z 0 (suc (first_zero s)) ≤ suc (length s)
    go ih true = zero-le
    go ih false = suc-le-suc ih
