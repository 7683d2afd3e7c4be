-- What it is to be given the lowest number that applies. Definitions only.
-- Assumes nothing.
use Rattle.std.specs.Prelude.{◌≡◌, true, false, ℕ, ◌≤◌, ◌<◌, List, [], ◌∷◌, Err}
use Rattle.protocol.specs.declared.Refusal.{Refusal}
use Rattle.protocol.specs.Refusals.{number, outcome, Applies, lowest}

-- an entry of the list
pub data Listed (a : Applies) : List Applies → Type 0 where
  here : {l : List Applies} → Listed a (a ∷ l)
  there : {b : Applies} {l : List Applies} → Listed a l → Listed a (b ∷ l)

-- the numbers rise, from n on
pub data Rises : ℕ → List Applies → Type 0 where
  end : {n : ℕ} → Rises n []
  then : {n : ℕ} {a : Applies} {l : List Applies} → n < a.number → Rises a.number l → Rises n (a ∷ l)

-- the number given of this list is the lowest that applies, and 0 where none does
pub record GivesLowest (l : List Applies) : Type 0 where
  pub least : (a : Applies) → Listed a l → a.holds ≡ true → lowest l ≤ a.number
  pub applies : (a : Applies) → Listed a l → a.holds ≡ true → (b : Applies) × Listed b l × (b.holds ≡ true) × (lowest l ≡ b.number)
  pub none : ((a : Applies) → Listed a l → a.holds ≡ false) → lowest l ≡ 0

-- of every list whose numbers rise; and no two refusals share a number
pub record Theorem : Type 0 where
  pub lowest : (l : List Applies) → Rises 0 l → GivesLowest l
  pub alone : (r : Refusal) → outcome (number r) ≡ Err r
