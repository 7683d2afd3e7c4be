-- Where a network text is cut. Definitions only.
-- Assumes nothing.
use Rattle.std.specs.Prelude.{ℕ, suc, cond, List, [], ◌∷◌, eqb}

-- the place of the first zero byte, the text's length if there is none
abbrev pub first_zero : List ℕ → ℕ
first_zero [] = 0
first_zero (b ∷ s) = cond (eqb b 0) 0 (suc (first_zero s))
