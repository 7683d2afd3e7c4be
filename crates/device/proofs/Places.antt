-- The first place: there is at most one, and `first_place` gives it.
-- Assumes nothing.
use Rattle.std.proofs.Common.{◌≡◌, refl, sym, ap, ◌∙◌, ℕ, zero, suc, ◌+◌, ◌<◌, ◌≤◌, Bool, true, false, cond, ◌&&◌, List, [], ◌∷◌, length, take, arith}
use mathlib.Core.Bool.{true≢false, and-eq-true_iff}
use native.Mathlib.Nat.{not-suc-le-zero, le_of_suc-le-suc, zero-add}
use native.Mathlib.Decide.{dec_le, dec_lt}
use Rattle.std.specs.Prelude.{Option, Some, None}
use Rattle.std.specs.Option.{option_map, MatchOption}
use Rattle.std.specs.List.{range_with_len, AllWithin, HoldsAt}
use Rattle.std.proofs.lemmas.List.FromFn.{length-range_with_len, get_or-range_with_len}
use lib.Dec.{eqb}
use lib.ListN.{length-take, length-drop}
use borrow.Author.Tests.{eq-eqb, eqb-true}
use Rattle.device.specs.Search.{StandsAt, IsFirstPlace, begins, first_place}

-- ---- at the beginning

pub begins_stands : (w s : List ℕ) → begins w s ≡ true → StandsAt w s 0
begins_stands [] s h = refl
begins_stands (x ∷ w) [] h = absurd (true≢false (sym h))
begins_stands (x ∷ w) (y ∷ s) h =
    let b = (and-eq-true_iff (eqb x y) (begins w s)).0 h in
    let p = eqb-true x y b.0 in
    let q : take (length w) s ≡ w = begins_stands w s b.1 in
    rw (p, q)

pub stands_begins : (w s : List ℕ) → StandsAt w s 0 → begins w s ≡ true
stands_begins [] s h = refl
stands_begins (x ∷ w) [] h = absurd (cc)
stands_begins (x ∷ w) (y ∷ s) h =
    let p : y ≡ x = cc in
    let q : take (length w) s ≡ w = cc in
    (and-eq-true_iff (eqb x y) (begins w s)).1 (eq-eqb x y (sym p), stands_begins w s q)

-- past the end only the empty needle stands, and that stands at the start
pub past_the_end : (w s : List ℕ) (i : ℕ) → length s < i → StandsAt w s i → StandsAt w s 0
past_the_end [] s i h e = refl
past_the_end (x ∷ w) s i h e = absurd (omega (arith, simp (length-take, length-drop) at (ap length e)))

-- the same behind the last place from which s has room for w
pub past_the_last : (w s : List ℕ) (i last : ℕ) → length s ≡ last + length w → last < i → StandsAt w s i → StandsAt w s 0
past_the_last [] s i last room l e = refl
past_the_last (x ∷ w) s i last room l e = absurd (omega (arith, simp (length-take, length-drop) at (ap length e)))

-- ---- the first place

pub is_first : (w s : List ℕ) → IsFirstPlace w s (first_place w s)
is_first w [] = go (begins w []) refl
  where
    go : (b : Bool) → begins w [] ≡ b → IsFirstPlace w [] (cond b (Some 0) None)
    go true p = (begins_stands w [] p, λ j l e. absurd (not-suc-le-zero l))
    go false p = λ i e. none i e
      where
        none : (i : ℕ) → StandsAt w [] i → ⊥
        none zero e = true≢false (sym (stands_begins w [] e) ∙ p)
        none (suc i) e = true≢false (sym (stands_begins w [] (past_the_end w [] (suc i) (omega arith) e)) ∙ p)
is_first w (b ∷ s) = go (begins w (b ∷ s)) refl (first_place w s) (is_first w s)
  where
    go : (t : Bool) → begins w (b ∷ s) ≡ t → (r : Option ℕ) → IsFirstPlace w s r → IsFirstPlace w (b ∷ s) (cond t (Some 0) (option_map suc r))
    go true p r h = (begins_stands w (b ∷ s) p, λ j l e. absurd (not-suc-le-zero l))
    go false p None h = none
      where
        none : (i : ℕ) → StandsAt w (b ∷ s) i → ⊥
        none zero e = true≢false (sym (stands_begins w (b ∷ s) e) ∙ p)
        none (suc i) e = h i e
    go false p (Some k) h = (h.0, before)
      where
        before : (j : ℕ) → j < suc k → StandsAt w (b ∷ s) j → ⊥
        before zero l e = true≢false (sym (stands_begins w (b ∷ s) e) ∙ p)
        before (suc j) l e = h.1 j (le_of_suc-le-suc l) e

pub only_one : (w s : List ℕ) (a b : Option ℕ) → IsFirstPlace w s a → IsFirstPlace w s b → a ≡ b
only_one w s None None h k = refl
only_one w s None (Some j) h k = absurd (h j k.0)
only_one w s (Some i) None h k = absurd (k i h.0)
only_one w s (Some i) (Some j) h k = go (dec_lt i j) (dec_lt j i)
  where
    go : Dec (i < j) → Dec (j < i) → Some i ≡ Some j
    go (yes l) d = absurd (k.1 i l h.0)
    go (no l) (yes m) = absurd (h.1 j m k.0)
    go (no l) (no m) = ap Some (omega arith)

-- where the needle is longer than s, it stands nowhere
pub no_room : (w s : List ℕ) → length s < length w → IsFirstPlace w s None
no_room w s l i e = omega (arith, simp (length-take, length-drop) at (ap length e))

-- what `position` finds over the places from which s has room for w
pub among_places : (w s : List ℕ) (last : ℕ) → length s ≡ last + length w → (r : Option ℕ)
    → MatchOption r (AllWithin (λ i. StandsAt w s i → ⊥) (range_with_len 0 (suc last)) 0 (length (range_with_len 0 (suc last))))
    (λ k. (k < length (range_with_len 0 (suc last))) × HoldsAt (StandsAt w s) (range_with_len 0 (suc last)) k
    × AllWithin (λ i. StandsAt w s i → ⊥) (range_with_len 0 (suc last)) 0 k)
    → IsFirstPlace w s r
among_places w s last room None h = λ i e. go i e (dec_le i last)
  where
    inside : (i : ℕ) → i ≤ last → StandsAt w s i → ⊥
    inside i l e = h i 0 (omega arith) (rw length-range_with_len (omega arith)) (rw (get_or-range_with_len 0 (suc last) i 0 (omega arith), zero-add) e)

    go : (i : ℕ) → StandsAt w s i → Dec (i ≤ last) → ⊥
    go i e (yes l) = inside i l e
    go i e (no l) = inside 0 (omega arith) (past_the_last w s i last room (omega arith) e)
among_places w s last room (Some k) h =
    let n : k < suc last = rw length-range_with_len at h.0 in (
      rw (get_or-range_with_len 0 (suc last) k 0 n, zero-add) at (h.1 0),
      λ j l e. h.2 j 0 (omega arith) l (rw (get_or-range_with_len 0 (suc last) j 0 (omega arith), zero-add) e),
    )
