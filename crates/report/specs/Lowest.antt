-- The numbers of the refusals of a report. Definitions only.
-- Assumes nothing.
use Rattle.std.specs.Prelude.{◌≡◌, Ok, Err}
use Rattle.protocol.specs.Lowest.{GivesLowest}
use Rattle.protocol.specs.Refusals as calls
use Rattle.sheet.specs.Sheet as sheets
use Rattle.report.specs.declared.Sequencer.{Sequencer}
use Rattle.report.specs.declared.ReportRefusal.{ReportRefusal}
use Rattle.report.specs.declared.Report.{Report}
use Rattle.report.specs.Report.{number, outcome, report_refusals}

pub record Theorem : Type 0 where
  -- of the numbers that apply the lowest is given
  pub lowest : (r : Report) (s : Sequencer) → GivesLowest (report_refusals r s)
  -- each is the number of one refusal, and none of those of the other calls has it
  pub alone : (n : ReportRefusal) → outcome (number n) ≡ Err n
  pub apart : (n : ReportRefusal) → calls.outcome (number n) ≡ Ok tt
  pub no_sheet : (n : ReportRefusal) → sheets.outcome (number n) ≡ Ok tt
