-- The theorem: the list rises, and each refusal is the outcome with its own number.
-- Assumes nothing.
use Rattle.std.proofs.Common.{◌≡◌, refl, ◌<◌, arith}
use Rattle.std.specs.Prelude.{Ok, Err}
use Rattle.protocol.specs.Lowest.{end, then}
use Rattle.protocol.specs.Refusals as calls
use Rattle.protocol.proofs.Numbers.{gives_lowest}
use Rattle.sheet.specs.Sheet as sheets
use Rattle.report.specs.declared.ReportRefusal.{ReportRefusal}
use Rattle.report.specs.declared.ReportRefusal.TheVariants.{WrongStartUp, SumTooLarge, ReportFull}
use Rattle.report.specs.Report.{number, outcome}
use Rattle.report.proofs.lowest_number.Goals as goal

alone : (n : ReportRefusal) → outcome (number n) ≡ Err n
alone WrongStartUp = refl
alone SumTooLarge = refl
alone ReportFull = refl

apart : (n : ReportRefusal) → calls.outcome (number n) ≡ Ok tt
apart WrongStartUp = refl
apart SumTooLarge = refl
apart ReportFull = refl

no_sheet : (n : ReportRefusal) → sheets.outcome (number n) ≡ Ok tt
no_sheet WrongStartUp = refl
no_sheet SumTooLarge = refl
no_sheet ReportFull = refl

pub returns : goal.returns
returns c = record {
  lowest = λ r s. let seven : 0 < 7 = omega arith in let fourteen : 7 < 14 = omega arith in let fifteen : 14 < 15 = omega arith in
      gives_lowest (then seven (then fourteen (then fifteen end)));
  alone = alone;
  apart = apart;
  no_sheet = no_sheet;
}
