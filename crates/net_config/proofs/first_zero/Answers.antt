-- `first_zero` meets its contract: `position` finds the first byte that is 0.
-- Assumes nothing.
use Rattle.std.proofs.Common.{rules, ◌≡◌, sym, ◌∙◌, true, false, refl, arith}
use lib.Dec.{eqb}
use borrow.Author.Tests.{tests}
use Rattle.std.proofs.lemmas.Iterator.{YieldsList-from_slice, IsFirst-from_position, index_from_first}
use Rattle.net_config.specs.Zero.{first_zero}
use Rattle.net_config.proofs.first_zero.Goals as goal

pub returns : goal.returns
returns c =
    let s = c.args.text.now in
    let first = IsFirst-from_position _ _ c.position.result (λ b. eqb b 0 ≡ true) (λ b. eqb b 0 ≡ false) c.position.ensures.ran (YieldsList-from_slice s cc) (λ x q k. search (rules, tests)) (λ x q k. search (rules, tests)) in
    let at = index_from_first first_zero (λ b. eqb b 0 ≡ true) (λ b. eqb b 0 ≡ false) refl (λ x xs h. rw h refl) (λ x xs h. rw h (omega arith)) s c.position.result first in
    c.unwrap_or.ensures ∙ sym at
