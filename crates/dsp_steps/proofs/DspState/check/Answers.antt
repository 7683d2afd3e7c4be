-- `check` meets its contract, where a wait is not over and where the reply to the power-mode write has not come.
-- Assumes nothing.
use Rattle.std.proofs.Common.{◌∙◌, sym}
use Rattle.dsp_steps.proofs.Rows.{early, unanswered}
use Rattle.dsp_steps.proofs.DspState.check.Goals as goal

pub returns-then-not-reached : goal.returns-then-not-reached
returns-then-not-reached c = c.idle.ensures ∙ early c.args.self c.args.now (sym c.reached.ensures ∙ c.if-not-reached.true)

pub returns-in-WaitPowerMode : goal.returns-in-WaitPowerMode
returns-in-WaitPowerMode c =
    c.waited-in-WaitPowerMode.ensures ∙ unanswered c.args.self c.args.now c.in-WaitPowerMode.is (sym c.reached.ensures ∙ c.if-not-reached.false)
