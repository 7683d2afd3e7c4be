-- Of the numbers that apply to a feed, a check or an asking the lowest is given. Definitions only.
-- Assumes nothing.
use Rattle.std.specs.Prelude.{ℕ, Bool, List}
use Rattle.protocol.specs.Lowest.{GivesLowest}
use Rattle.sequence.specs.Accepted.{bytes_refusals, check_refusals, feed_refusals, result_refusals}

pub record Theorem : Type 0 where
  pub bytes : (text payload : List ℕ) → GivesLowest (bytes_refusals text payload)
  pub feed : (text payload : List ℕ) (last reading : ℕ) → GivesLowest (feed_refusals text payload last reading)
  pub check : (last reading : ℕ) → GivesLowest (check_refusals last reading)
  pub result : (done : Bool) → GivesLowest (result_refusals done)
