-- Settings come in with each of the 32 parameters, and are unknown where one is.
-- Assumes nothing.
use Rattle.std.proofs.Common.{sym, rules}
use Rattle.abi.proofs.Images.{all_in, one_unknown}
use Rattle.abi.proofs.config.AvrSettingsTryFromCSettings.try_from.Goals as goal

pub returns-in_err-try_map : goal.returns-in_err-try_map
returns-in_err-try_map c =
    let err = c.in_err-try_map.ensures.err in
    rw (one_unknown c.args.c.params err.1.0 err.0 c.in_err-try_map.field-0.0 err.1.1.0 (rw (← err.1.1.1) (sym err.4.met))) (search rules)

pub returns : goal.returns
returns c =
    let items = c.in_ok-try_map.ensures.ok in
    rw (all_in _ (λ p q r. sym r.2.met) c.args.c.params c.in_ok-try_map.field-0 items.whole, c.into.ensures)
