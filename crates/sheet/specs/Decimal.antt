-- How the numbers of a sheet are written. Definitions only.
-- Assumes nothing.
use Rattle.std.specs.Prelude.{ℕ, ◌≡◌, ◌<◌, ◌^◌, ◌∷◌, [], get_or, decimal}
use Rattle.std.specs.Str.Parse.{IsNumeral, digits_value}

pub record Decimal : Type 0 where
  -- digits alone, and at least one
  pub digits : (n : ℕ) → n < 2 ^ 64 → IsNumeral 10 (decimal n)
  -- that are worth the number
  pub value : (n : ℕ) → n < 2 ^ 64 → digits_value 10 (decimal n) ≡ n
  -- the first of which is a 0 in 0 alone, which is written with no other
  pub first : (n : ℕ) → 0 < n → n < 2 ^ 64 → 0x30 < get_or (decimal n) 0 0
  pub zero : decimal 0 ≡ 0x30 ∷ []
