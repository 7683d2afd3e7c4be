-- Ticks come in with how each was ticked, and are unknown where one is.
-- Assumes nothing.
use Rattle.std.proofs.Common.{sym, rules}
use Rattle.abi_sheet.proofs.Places.{all_in, one_unknown}
use Rattle.abi_sheet.proofs.TicksTryFromCTicks.try_from.Goals as goal

pub returns-in_err-try_map : goal.returns-in_err-try_map
returns-in_err-try_map c =
    let err = c.in_err-try_map.ensures.err in
    rw (one_unknown c.args.c.ticks err.1.0 err.0 c.in_err-try_map.field-0.0 err.1.1.0 (rw (← err.1.1.1) (sym err.4.met))) (search rules)

pub returns : goal.returns
returns c = rw (all_in _ (λ d t r. sym r.2.met) c.args.c.ticks c.in_ok-try_map.field-0 c.in_ok-try_map.ensures.ok.whole)
