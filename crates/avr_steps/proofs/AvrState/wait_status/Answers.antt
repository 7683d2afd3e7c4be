-- `wait_status` meets its contract where a status has come.
-- Assumes nothing.
use Rattle.std.proofs.Common.{◌∙◌}
use Rattle.avr_steps.proofs.Rows.{status_heard}
use Rattle.avr_steps.proofs.AvrState.wait_status.Goals as goal

pub returns-in-AvrStatus : goal.returns-in-AvrStatus
returns-in-AvrStatus c =
    c.moved.ensures ∙ status_heard c.args.self c.args.step c.args.message c.in-AvrStatus.status c.args.now c.in-AvrStatus.is
