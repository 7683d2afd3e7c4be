-- `check` meets its contract: it sends the poll that is due, and else looks at the calibration's deadline.
-- Assumes nothing.
use Rattle.std.proofs.Common.{◌∙◌, sym}
use Rattle.avr_steps.proofs.Rows.{not_polled, polled}
use Rattle.avr_steps.proofs.AvrState.check.Goals as goal

pub returns-then-not-reached : goal.returns-then-not-reached
returns-then-not-reached c = c.check_cal.ensures ∙ not_polled c.args.self c.args.now (sym c.reached.ensures ∙ c.if-not-reached.true)

pub returns : goal.returns
returns c = rw c.status_poll.ensures (polled c.args.self c.args.now (sym c.reached.ensures ∙ c.if-not-reached.false))
