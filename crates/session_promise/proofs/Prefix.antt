-- A matching whose last place is in the beginning of a run is one of that beginning.
-- Assumes nothing.
use Prim.Native.Nat.{ℕ, zero, suc, ◌+◌, ◌-◌, ◌≤◌, ◌<◌}
use native.Mathlib.Nat.{add-zero, add-suc, le_refl}
use native.Mathlib.Omega.{arith}
use mathlib.Core.Path.{◌≡◌, refl, sym, ap, subst}
use mathlib.Core.Bool.{true}
use mathlib.Core.List.{List, ◌++◌}
use lib.ListN.{length, get_or, get_or-append}
use Rattle.matching.specs.Matching.{Table, never, before, Matching}

module _ {E : Type 0} {at : E → ℕ} {d : E} {T : Table E} where
  later : {r : List E} {ps : List ℕ} → Matching at d T r ps → (k j : ℕ) → k + j < length ps → get_or ps k 0 ≤ get_or ps (k + j) 0
  later {ps = ps} m k zero h = rw add-zero (le_refl (get_or ps k 0))
  later {ps = ps} m k (suc j) h = rw add-suc (omega (arith, later m k j (omega arith), m.rise (k + j) (omega arith)))

  pub up_to_last : {r : List E} {ps : List ℕ} → Matching at d T r ps → (k : ℕ) → k < length T → get_or ps k 0 ≤ get_or ps (length T - 1) 0
  up_to_last {ps = ps} m k h =
      let there : k + (length T - 1 - k) ≡ length T - 1 = omega arith in
      subst (λ n. get_or ps k 0 ≤ get_or ps n 0) there (later m k (length T - 1 - k) (omega (arith, m.one)))

  pub restrict : {ps : List ℕ} (a b : List E) → Matching at d T (a ++ b) ps → get_or ps (length T - 1) 0 < length a → Matching at d T a ps
  restrict {ps} a b m h =
      record {
        one = m.one;
        rise = m.rise;
        inside = λ k l. there k (omega (arith, m.one));
        passes = passes;
      }
    where
      there : (k : ℕ) → k < length T → get_or ps k 0 < length a
      there k l = omega (arith, up_to_last m k l)

      same : (k : ℕ) → k < length T → before at d (a ++ b) ps k ≡ before at d a ps k
      same zero l = refl
      same (suc k) l = ap at (get_or-append a b d (get_or ps k 0) (there k (omega arith)))

      passes : (k : ℕ) → k < length T → get_or T k never (before at d a ps k) (get_or a (get_or ps k 0) d) ≡ true
      passes k l = rw (sym (same k l), sym (get_or-append a b d (get_or ps k 0) (there k l))) (m.passes k l)
