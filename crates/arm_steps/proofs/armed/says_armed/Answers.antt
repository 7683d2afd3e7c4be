-- `says_armed` meets its contract: each occurrence is looked at, and one that does not count is passed by.
-- Assumes nothing.
use Rattle.std.proofs.Common.{true, false, sym, refl, ◌+◌}
use mathlib.Core.Bool.{true≢false}
use Rattle.arm_steps.proofs.Counted.{none_left, passed_by, inside, counted, decides}
use Rattle.arm_steps.proofs.armed.says_armed.Goals as goal

pub loop-at-preserved : goal.loop-at-preserved
loop-at-preserved c = record {
  inside = inside c.args.text.now c.loop-at.from c.in-Some.at c.in-Some.ensures.first.0;
  none = passed_by c.args.text.now c.loop-at.from c.in-Some.at c.loop-at.invariant.none c.in-Some.ensures.first.1 (sym c.if-not-behind_capital.ensures);
}

pub returns-then-not-behind_capital-clause-counts : goal.returns-then-not-behind_capital-clause-counts
returns-then-not-behind_capital-clause-counts c =
    let at = counted c.args.text.now c.loop-at.from c.in-Some.at c.in-Some.ensures.first.0 (sym c.if-not-behind_capital.ensures) in
    (λ h. (c.loop-at.from + c.in-Some.at, at), λ w. refl)

pub returns-then-not-behind_capital-clause-value : goal.returns-then-not-behind_capital-clause-value
returns-then-not-behind_capital-clause-value c = decides c.args.text.now true (returns-then-not-behind_capital-clause-counts c)

pub returns-clause-counts : goal.returns-clause-counts
returns-clause-counts c =
    (λ h. absurd (true≢false (sym h)), λ w. absurd (none_left c.args.text.now c.loop-at.from c.loop-at.invariant.none c.in_default.ensures.first w.0 w.1))

pub returns-clause-value : goal.returns-clause-value
returns-clause-value c = decides c.args.text.now false (returns-clause-counts c)
