-- The numbers of the refusals (docs/SCOPE.md, "Refusals"). Definitions only.
-- Assumes nothing.
use Rattle.std.specs.Prelude.{ℕ, Bool, cond, List, [], ◌∷◌, eqb, Result, Ok, Err}
use Rattle.protocol.specs.declared.Refusal.{Refusal}
use Rattle.protocol.specs.declared.Refusal.TheVariants.{TextTooLong, PayloadTooLong, ReadingTooLarge, TooManyParams, RepeatedParam, ReadingBelowLast, NotDone, RetriesFull}

abbrev pub number : Refusal → ℕ
-- a feed whose text exceeds 256 bytes
number TextTooLong = 1
-- the same for its payload
number PayloadTooLong = 2
-- a clock reading above 18,446,744,071,709,551,615 ns
number ReadingTooLarge = 3
-- a settings list of more than 32 parameters
number TooManyParams = 4
-- a settings list with an id that occurs twice
number RepeatedParam = 6
-- a reading below the last accepted one
number ReadingBelowLast = 11
-- a result asked for before Done
number NotDone = 12
-- a nack that would be counted while retries is 65,535
number RetriesFull = 13

-- every refusal there is
abbrev pub refusals : List Refusal
refusals = TextTooLong ∷ PayloadTooLong ∷ ReadingTooLarge ∷ TooManyParams ∷ RepeatedParam ∷ ReadingBelowLast ∷ NotDone ∷ RetriesFull ∷ []

-- refused with the first of rs that has the number n; accepted if none has
abbrev pub among : List Refusal → ℕ → Result (Unit {0}) Refusal
among [] n = Ok tt
among (r ∷ rs) n = cond (eqb (number r) n) (Err r) (among rs n)

-- the outcome with the number n; no refusal has the number 0, which says that none applies
abbrev pub outcome : ℕ → Result (Unit {0}) Refusal
outcome n = among refusals n

-- a number of the list of refusals, and whether it applies to a call
pub record Applies : Type 0 where
  pub number : ℕ
  pub holds : Bool

-- the number that is given: the first that applies, which is the lowest where the list rises (proofs/Numbers.antt: `lowest_least`); 0 where none does
abbrev pub lowest : List Applies → ℕ
lowest [] = 0
lowest (a ∷ l) = cond a.holds a.number (lowest l)
