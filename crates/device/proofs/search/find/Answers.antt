-- `find` meets its contract: `position` finds the first place that passes, and one passes where the needle stands from it on.
-- Assumes nothing.
use Rattle.std.proofs.Common.{rules, ◌≡◌, true, false, Bool, ℕ, ◌∙◌, sym, ap, List, length, suc, refl, ◌+◌, ◌-◌, take, drop, arith}
use lib.Dec.{eqb}
use mathlib.Core.Bool.{true≢false}
use borrow.Author.Tests.{tests, eq-eqb, eqb-true}
use Rattle.std.specs.Cmp.Lexicographic.{pointwise}
use Rattle.std.proofs.lemmas.Iterator.{YieldsList-from_range, IsFirst-from_position}
use Rattle.std.proofs.lemmas.Slice.Eq.{slice_eq-Decides}
use Rattle.std.specs.Prelude.{None}
use Rattle.device.specs.Search.{StandsAt, first_place}
use Rattle.device.proofs.Places.{no_room, among_places, is_first, only_one}
use Rattle.device.proofs.search.find.Goals as goal

pub returns-then-s-needle-clause-value : goal.returns-then-s-needle-clause-value
returns-then-s-needle-clause-value c =
    let s = c.args.s.now in
    let w = c.args.needle.now in
    only_one w s None (first_place w s) (no_room w s c.if-s-needle.true) (is_first w s)

-- what is tested at a place
tested : (s w : List ℕ) (i : ℕ) (b : Bool) → b ≡ pointwise eqb (take (i + length w - i) (drop i s)) w → (b ≡ true → StandsAt w s i) × (StandsAt w s i → b ≡ true)
tested s w i b h =
    let long : i + length w - i ≡ length w = omega arith in
    slice_eq-Decides (λ x y. (eqb-true x y, eq-eqb x y)) (take (length w) (drop i s)) w b (h ∙ ap (λ n. pointwise eqb (take n (drop i s)) w) long)

passed : (s w : List ℕ) (i : ℕ) → true ≡ pointwise eqb (take (i + length w - i) (drop i s)) w → StandsAt w s i
passed s w i h = (tested s w i true h).0 refl

failed : (s w : List ℕ) (i : ℕ) → false ≡ pointwise eqb (take (i + length w - i) (drop i s)) w → StandsAt w s i → ⊥
failed s w i h e = true≢false (sym ((tested s w i false h).1 e))

pub returns-clause-first : goal.returns-clause-first
returns-clause-first c =
    let s = c.args.s.now in
    let w = c.args.needle.now in
    let last = length s - length w in
    among_places w s last (omega (arith, c.if-s-needle.false)) c.position.result
    (IsFirst-from_position _ _ c.position.result (StandsAt w s) (λ i. StandsAt w s i → ⊥) c.position.ensures.ran
    (YieldsList-from_range 0 (last + 1) (suc last) refl (omega arith))
    (λ x q k. passed s w x (search (rules, tests)))
    (λ x q k. (search (rules, tests), failed s w x (search (rules, tests)))))

pub returns-clause-value : goal.returns-clause-value
returns-clause-value c =
    only_one c.args.needle.now c.args.s.now c.position.result (first_place c.args.needle.now c.args.s.now) (returns-clause-first c)
    (is_first c.args.needle.now c.args.s.now)
