-- An AVR configuration as a host holds it, and back: its steps by number, in the order of the enum of the Rust, and its state, which is known if every number in
-- it is. `param_idx` stands beside steps 1 and 2. Definitions only.
-- Assumes nothing.
use Rattle.std.specs.Prelude.{cond, eqb, Result, Ok}
use Rattle.avr_config_steps.specs.declared.AvrConfigStep.{AvrConfigStep}
use Rattle.avr_config_steps.specs.declared.AvrConfigStep.TheVariants as AvrConfig
use Rattle.avr_config.specs.declared.AvrConfigSequencer.{AvrConfigSequencer}
use Rattle.abi_values.specs.declared.UnknownNumber.{UnknownNumber}
use Rattle.abi_values.specs.Numbers.{unknown, and_then}
use Rattle.abi.specs.Settings.{settings_in, settings_out}
use Rattle.abi_avr_config.specs.declared.CAvrConfigStep.{CAvrConfigStep}
use Rattle.abi_avr_config.specs.declared.CAvrConfig.{CAvrConfig}

abbrev pub avr_config_step_in : CAvrConfigStep → Result AvrConfigStep UnknownNumber
avr_config_step_in c =
    cond (eqb c.number 0) (Ok AvrConfig.WaitInitGateAck)
    (cond (eqb c.number 1) (Ok (AvrConfig.WaitParamAck c.param_idx))
    (cond (eqb c.number 2) (Ok (AvrConfig.WaitParamCommitAck c.param_idx))
    (cond (eqb c.number 3) (Ok AvrConfig.WaitModeEcho)
    (cond (eqb c.number 4) (Ok AvrConfig.WaitModeCommitAck)
    (cond (eqb c.number 5) (Ok AvrConfig.WaitRadarCalEcho)
    (cond (eqb c.number 6) (Ok AvrConfig.WaitRadarCalCommitAck)
    (cond (eqb c.number 7) (Ok AvrConfig.Done) unknown)))))))

abbrev pub avr_config_step_out : AvrConfigStep → CAvrConfigStep
avr_config_step_out AvrConfig.WaitInitGateAck = record { number = 0; param_idx = 0 }
avr_config_step_out (AvrConfig.WaitParamAck i) = record { number = 1; param_idx = i }
avr_config_step_out (AvrConfig.WaitParamCommitAck i) = record { number = 2; param_idx = i }
avr_config_step_out AvrConfig.WaitModeEcho = record { number = 3; param_idx = 0 }
avr_config_step_out AvrConfig.WaitModeCommitAck = record { number = 4; param_idx = 0 }
avr_config_step_out AvrConfig.WaitRadarCalEcho = record { number = 5; param_idx = 0 }
avr_config_step_out AvrConfig.WaitRadarCalCommitAck = record { number = 6; param_idx = 0 }
avr_config_step_out AvrConfig.Done = record { number = 7; param_idx = 0 }

abbrev pub avr_config_in : CAvrConfig → Result AvrConfigSequencer UnknownNumber
avr_config_in c = and_then (avr_config_step_in c.step) (λ step. and_then (settings_in c.settings) (λ settings. Ok (record { step = step; settings = settings })))

abbrev pub avr_config_out : AvrConfigSequencer → CAvrConfig
avr_config_out s = record { step = avr_config_step_out s.step; settings = settings_out s.settings }
