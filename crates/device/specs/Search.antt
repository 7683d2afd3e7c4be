-- Where bytes stand together in others. Definitions only.
-- Assumes nothing.
use Rattle.std.specs.Prelude.{◌≡◌, ℕ, suc, ◌<◌, Bool, true, false, cond, ◌&&◌, List, [], ◌∷◌, eqb, length, take, drop, Option, Some, None, is_some}
use Rattle.std.specs.Option.{option_map}

-- The needle w stands in s from place i on.
abbrev pub StandsAt : List ℕ → List ℕ → ℕ → Type 0
StandsAt w s i = take (length w) (drop i s) ≡ w

-- The place of the first occurrence, counted from 0: w stands there, and from no place before. None: it stands nowhere.
abbrev pub IsFirstPlace : List ℕ → List ℕ → Option ℕ → Type 0
IsFirstPlace w s None = (i : ℕ) → StandsAt w s i → ⊥
IsFirstPlace w s (Some i) = StandsAt w s i × ((j : ℕ) → j < i → StandsAt w s j → ⊥)

-- ---- the same as functions; proofs/Places.antt shows that `first_place` is the first place

-- do the bytes of w stand at the beginning of s?
abbrev pub begins : List ℕ → List ℕ → Bool
begins [] s = true
begins (x ∷ w) [] = false
begins (x ∷ w) (y ∷ s) = eqb x y && begins w s

abbrev pub first_place : List ℕ → List ℕ → Option ℕ
first_place w [] = cond (begins w []) (Some 0) None
first_place w (b ∷ s) = cond (begins w (b ∷ s)) (Some 0) (option_map suc (first_place w s))

-- does w stand in s, anywhere?
abbrev pub contains : List ℕ → List ℕ → Bool
contains w s = is_some (first_place w s)
