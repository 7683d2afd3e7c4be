-- The refusals' numbers: each refusal is the outcome with its own number, and `lowest` gives the lowest number that applies.
-- Assumes nothing.
use mathlib.Core.Path.{◌≡◌, refl}
use mathlib.Core.Bool.{Bool, true, false}
use mathlib.Core.List.{List, [], ◌∷◌}
use Prim.Native.Nat.{ℕ, ◌≤◌}
use native.Mathlib.Nat.{le_refl, le_trans, le_of_lt}
use Rattle.protocol.specs.declared.Refusal.{Refusal}
use Rattle.protocol.specs.declared.Refusal.TheVariants.{TextTooLong, PayloadTooLong, ReadingTooLarge, TooManyParams, RepeatedParam, ReadingBelowLast, NotDone, RetriesFull}
use Rattle.std.specs.Prelude.{Err}
use Rattle.protocol.specs.Refusals.{number, outcome, Applies, lowest}
pub use Rattle.protocol.specs.Lowest.{Listed, here, there, Rises, end, then}
use Rattle.protocol.specs.Lowest.{GivesLowest}

pub outcome-number : (r : Refusal) → outcome (number r) ≡ Err r
outcome-number TextTooLong = refl
outcome-number PayloadTooLong = refl
outcome-number ReadingTooLarge = refl
outcome-number TooManyParams = refl
outcome-number RepeatedParam = refl
outcome-number ReadingBelowLast = refl
outcome-number NotDone = refl
outcome-number RetriesFull = refl

-- in a list that rises no number lies below the one that it rises from
above : {n : ℕ} {l : List Applies} {a : Applies} → Rises n l → Listed a l → n ≤ a.number
above {a = a} (end {n = n}) l = elim l [ ]
above (then h r) here = le_of_lt h
above (then h r) (there i) = le_trans (le_of_lt h) (above r i)

-- what applies is not below the one given
pub lowest_least : {n : ℕ} {l : List Applies} {a : Applies} → Rises n l → Listed a l → a.holds ≡ true → lowest l ≤ a.number
lowest_least {a = a} (end {n = n}) i e = elim i [ ]
lowest_least {a = a} (then h r) here e = rw e (le_refl a.number)
lowest_least {a = a} (then {a = b} {l = l} h r) (there i) e = go (lowest_least r i e) b.holds refl
  where
    go : lowest l ≤ a.number → (v : Bool) → b.holds ≡ v → lowest (b ∷ l) ≤ a.number
    go ih true p = rw p (above r i)
    go ih false p = rw p ih

-- where one applies, the number given is that of one that does
pub lowest_applies : {a : Applies} {l : List Applies} → Listed a l → a.holds ≡ true → (b : Applies) × Listed b l × (b.holds ≡ true) × (lowest l ≡ b.number)
lowest_applies {a = a} here e = (a, here, e, rw e)
lowest_applies (there {b = b} {l = l} i) e = go (lowest_applies i e) b.holds refl
  where
    go : (c : Applies) × Listed c l × (c.holds ≡ true) × (lowest l ≡ c.number) → (v : Bool) → b.holds ≡ v
        → (c : Applies) × Listed c (b ∷ l) × (c.holds ≡ true) × (lowest (b ∷ l) ≡ c.number)
    go ih true p = (b, here, p, rw p)
    go ih false p = (ih.0, there ih.1, ih.2, rw p ih.3)

none_of : (l : List Applies) → ((a : Applies) → Listed a l → a.holds ≡ false) → lowest l ≡ 0
none_of [] h = refl
none_of (b ∷ l) h = rw (h b here) (none_of l (λ a i. h a (there i)))

-- so the number given of a list that rises is the lowest that applies
pub gives_lowest : {n : ℕ} {l : List Applies} → Rises n l → GivesLowest l
gives_lowest {l = l} r = record {
  least = λ a i e. lowest_least r i e;
  applies = λ a i e. lowest_applies i e;
  none = none_of l;
}
