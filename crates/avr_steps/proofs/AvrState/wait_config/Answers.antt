-- `wait_config` meets its contract: which calibration is asked for goes by the model.
-- Assumes nothing.
use Rattle.std.proofs.Common.{◌∙◌, sym}
use Rattle.avr_steps.proofs.Rows.{with_factory_cal, without_factory_cal}
use Rattle.avr_steps.proofs.AvrState.wait_config.Goals as goal

pub returns-then-not-has_factory_cal : goal.returns-then-not-has_factory_cal
returns-then-not-has_factory_cal c =
    c.to_cal.ensures
    ∙ without_factory_cal c.args.self c.args.message c.args.params c.args.now c.in-ConfigResp.is (sym c.has_factory_cal.ensures ∙ c.if-not-has_factory_cal.true)

pub returns : goal.returns
returns c =
    c.to_cal-2.ensures
    ∙ with_factory_cal c.args.self c.args.message c.args.params c.args.now c.in-ConfigResp.is (sym c.has_factory_cal.ensures ∙ c.if-not-has_factory_cal.false)
