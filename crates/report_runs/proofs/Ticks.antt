-- The readings that are kept of a sequencer's ticks rise, since the run's do and the earliest ticking's places do; and there are no more than entries.
-- Assumes nothing.
use Prim.Native.Nat.{ℕ, zero, suc, ◌≤◌, ◌<◌}
use native.Mathlib.Nat.{le_trans, le_of_suc-le-suc, not-suc-le-zero}
use native.Mathlib.Omega.{arith}
use mathlib.Core.Path.{◌≡◌, refl, ap, ◌∙◌, subst⁻¹}
use mathlib.Core.List.{List, [], ◌∷◌, map}
use lib.ListN.{length, get_or, length-map}
use Rattle.std.proofs.lemmas.List.{get_or-map, length-take}
use Rattle.matching.specs.Matching.{Table}
use Rattle.matching.specs.Promise.{after_all, events, SoFar, Keeps}
use Rattle.matching.proofs.Machine.{Rising, end, then}
use Rattle.report_runs.specs.Theorem.{Rises}

map_map : {A B C : Type 0} (f : B → C) (g : A → B) (l : List A) → map f (map g l) ≡ map (λ x. f (g x)) l
map_map f g [] = refl
map_map f g (x ∷ l) = ap (f (g x) ∷◌) (map_map f g l)

-- ---- a run that rises

module _ {E : Type 0} {at : E → ℕ} (d : E) where
  not_before : {t : ℕ} {r : List E} → Rising at t r → (j : ℕ) → j < length r → t ≤ at (get_or r j d)
  not_before (end {t = t}) j h = absurd (not-suc-le-zero h)
  not_before (then i k) zero h = i
  not_before (then i k) (suc j) h = le_trans i (not_before k j (le_of_suc-le-suc h))

  later : {t : ℕ} {r : List E} → Rising at t r → (i j : ℕ) → i < j → j < length r → at (get_or r i d) ≤ at (get_or r j d)
  later (end {t = t}) i j l h = absurd (not-suc-le-zero h)
  later (then a k) zero zero l h = absurd (not-suc-le-zero l)
  later (then a k) zero (suc j) l h = not_before k j (le_of_suc-le-suc h)
  later (then a k) (suc i) zero l h = absurd (not-suc-le-zero l)
  later (then a k) (suc i) (suc j) l h = later k i j (le_of_suc-le-suc l) (le_of_suc-le-suc h)

-- ---- what is kept

module _ {E S C : Type 0} {at : E → ℕ} {nil : E} {event : ℕ → C → List E} {new : S} {after : S → C → S} {T : Table E} {cs : List C} where
  -- of each tick its reading alone
  pub reads : {K : Type 0} (kept : S → List K) (of : E → K) (reading : K → ℕ) → ((e : E) → reading (of e) ≡ at e)
      → Keeps at nil event new after T kept of cs → Keeps at nil event new after T (λ s. map reading (kept s)) at cs
  reads kept of reading is k = record {
    some = k.some;
    each = λ n ps s.
        ap (map reading) (k.each n ps s) ∙ map_map reading (λ p. of (get_or (events at event 0 cs) p nil)) ps
        ∙ (λ i. map (λ p. is (get_or (events at event 0 cs) p nil) i) ps);
  }

  module _ (kept : S → List ℕ) (k : Keeps at nil event new after T kept at cs) where
    abbrev n : ℕ
    n = k.some.0

    abbrev ps : List ℕ
    ps = k.some.1

    s : SoFar at nil event new after T cs n ps
    s = k.some.2

    abbrev read : ℕ → ℕ
    read p = at (get_or (events at event 0 cs) p nil)

    is : kept (after_all after new cs) ≡ map read ps
    is = k.each n ps s

    pub rise : Rising at 0 (events at event 0 cs) → Rises (kept (after_all after new cs))
    rise up = subst⁻¹ Rises is go
      where
        go : Rises (map read ps)
        go j h =
            let inside : suc j < length ps = rw length-map at h in
            let m = s.first.matching in
            rw (get_or-map read ps j 0 0 (omega arith), get_or-map read ps (suc j) 0 0 inside)
            (later nil up (get_or ps j 0) (get_or ps (suc j) 0) (m.rise j inside) (m.inside (suc j) inside))

    pub few : length (kept (after_all after new cs)) ≤ length T
    few =
        let same : length (map read ps) ≡ length ps = rw length-map refl in
        omega (arith, ap length is, same, s.first.matching.one, length-take n T, s.inside)
