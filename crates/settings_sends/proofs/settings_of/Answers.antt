-- What each pair of sends does, and the ends of the loop: from proofs/Reading.antt.
-- Assumes nothing.
use Rattle.std.proofs.Common.{arith, sym, ap, ◌∙◌, ◌+◌, ◌<◌, ◌≤◌, ◌≡◌, length, take, drop, length-set}
use Rattle.settings_sends.specs.declared.Setting.{Setting}
use Rattle.settings_sends.specs.ReadBack.{read_on, or_refused, given}
use Rattle.settings_sends.proofs.Reading.{before, no_commit, sets, ended, put, still_empty, too_many, answers_cal}
use Rattle.settings_sends.proofs.settings_of.Goals as goal

pub returns-then-not-is_commit-2 : goal.returns-then-not-is_commit-2
returns-then-not-is_commit-2 c =
    let two : c.loop-at.at + 1 < length c.args.sends.now = omega (arith, c.loop-at-test.true) in
    let none_left = no_commit c.args.sends.now c.loop-at.at _ two (sym c.is_commit-in-loop-at.ensures ∙ c.if-not-is_commit-2.true) in
    sym (ap (λ o. or_refused (given o)) (c.loop-at.invariant.same ∙ ap (before (take c.loop-at.len c.loop-at.params)) none_left))

pub loop-at-preserved : goal.loop-at-preserved
loop-at-preserved c =
    let two : c.loop-at.at + 1 < length c.args.sends.now = omega (arith, c.loop-at-test.true) in
    let one_more : c.loop-at.len < 32 = omega (arith, c.if-len-lt-MAX_PARAMS.true) in
    let p = c.in-Param.param in
    let so_set = sets c.args.sends.now c.loop-at.at _ two (Setting.Param p) (sym c.is_commit-in-loop-at.ensures ∙ c.if-not-is_commit-2.false) c.in-Param.ensures in
    record {
      inside = omega (arith, two);
      few = omega (arith, one_more);
      places = length-set c.loop-at.params c.loop-at.len p ∙ c.loop-at.invariant.places;
      empty = still_empty c.loop-at.params c.loop-at.len p c.loop-at.invariant.empty;
      same =
          c.loop-at.invariant.same ∙ ap (before (take c.loop-at.len c.loop-at.params)) so_set
          ∙ put c.loop-at.params c.loop-at.len p (read_on (drop (c.loop-at.at + 2) c.args.sends.now)) (omega (arith, one_more, c.loop-at.invariant.places));
    }

pub returns-in-Ok : goal.returns-in-Ok
returns-in-Ok c =
    let two : c.loop-at.at + 1 < length c.args.sends.now = omega (arith, c.loop-at-test.true) in
    let so_set = sets c.args.sends.now c.loop-at.at _ two (Setting.Mode c.in-Mode.mode) (sym c.is_commit-in-loop-at.ensures ∙ c.if-not-is_commit-2.false) c.in-Mode.ensures in
    let same = c.loop-at.invariant.same ∙ ap (before (take c.loop-at.len c.loop-at.params)) so_set in
    c.run_or_refused.ensures
    ∙ answers_cal c.args.sends.now c.loop-at.params c.loop-at.len c.loop-at.at c.in-Mode.mode two same c.in-Ok.radar_cal c.loop-at.invariant.few
    c.loop-at.invariant.places c.loop-at.invariant.empty c.in-Ok.ensures

-- a 33rd parameter
pub returns-in-Param-2 : goal.returns-in-Param-2
returns-in-Param-2 c =
    let two : c.loop-at.at + 1 < length c.args.sends.now = omega (arith, c.loop-at-test.true) in
    let full : c.loop-at.len ≡ 32 = omega (arith, c.loop-at.invariant.few, c.if-len-lt-MAX_PARAMS.false) in
    let p = c.in-Param.param in
    let so_set = sets c.args.sends.now c.loop-at.at _ two (Setting.Param p) (sym c.is_commit-in-loop-at.ensures ∙ c.if-not-is_commit-2.false) c.in-Param.ensures in
    sym (
    ap (λ o. or_refused (given o)) (c.loop-at.invariant.same ∙ ap (before (take c.loop-at.len c.loop-at.params)) so_set)
    ∙ ap or_refused (too_many c.loop-at.params c.loop-at.len p (read_on (drop (c.loop-at.at + 2) c.args.sends.now)) full c.loop-at.invariant.places)
    )

pub returns : goal.returns
returns c =
    let few : length c.args.sends.now ≤ c.loop-at.at + 1 = omega (arith, c.loop-at-test.false) in
    sym (ap (λ o. or_refused (given o)) (c.loop-at.invariant.same ∙ ap (before (take c.loop-at.len c.loop-at.params)) (ended c.args.sends.now c.loop-at.at few)))
