-- The theorem, from std's lemmas about `decimal`.
-- Assumes nothing.
use Rattle.std.proofs.Common.{arith}
use Rattle.std.proofs.lemmas.Fmt.{decimal_is_IsNumeral, decimal_digit, first_decimal}
use Rattle.sheet.proofs.decimal_numbers.Goals as goal

pub returns : goal.returns
returns c = record {
  digits = λ n h. (decimal_is_IsNumeral n h).0;
  value = λ n h. (decimal_is_IsNumeral n h).1;
  first = first_decimal;
  zero = decimal_digit 0 (omega arith);
}
