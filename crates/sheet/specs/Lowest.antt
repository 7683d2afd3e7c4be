-- The number of a refused sheet. Definitions only.
-- Assumes nothing.
use Rattle.std.specs.Prelude.{◌≡◌, ℕ, List, Ok, Err}
use Rattle.protocol.specs.Lowest.{GivesLowest}
use Rattle.protocol.specs.Refusals as calls
use Rattle.sheet.specs.declared.SheetRefusal.{SheetRefusal}
use Rattle.sheet.specs.Sheet.{number, outcome, sheet_refusals}

pub record Theorem : Type 0 where
  -- of the numbers that apply the lowest is given
  pub lowest : (text : List ℕ) (at : ℕ) (buf : List ℕ) → GivesLowest (sheet_refusals text at buf)
  -- each is the number of one refusal, and none of those of the other calls has it
  pub alone : (r : SheetRefusal) → outcome (number r) ≡ Err r
  pub apart : (r : SheetRefusal) → calls.outcome (number r) ≡ Ok tt
