-- The theorem: the list rises, and there is one refusal.
-- Assumes nothing.
use Rattle.std.proofs.Common.{◌≡◌, refl, ◌<◌, arith}
use Rattle.std.specs.Prelude.{Ok, Err}
use Rattle.protocol.specs.Lowest.{end, then}
use Rattle.protocol.specs.Refusals as calls
use Rattle.protocol.proofs.Numbers.{gives_lowest}
use Rattle.sheet.specs.declared.SheetRefusal.{SheetRefusal}
use Rattle.sheet.specs.declared.SheetRefusal.TheVariants.{PartTooShort}
use Rattle.sheet.specs.Sheet.{number, outcome}
use Rattle.sheet.proofs.lowest_number.Goals as goal

alone : (r : SheetRefusal) → outcome (number r) ≡ Err r
alone PartTooShort = refl

apart : (r : SheetRefusal) → calls.outcome (number r) ≡ Ok tt
apart PartTooShort = refl

pub returns : goal.returns
returns c = record {
  lowest = λ text at buf. let five : 0 < 5 = omega arith in gives_lowest (then five end);
  alone = alone;
  apart = apart;
}
