-- A Pi start-up as a host holds it, and back: its steps by number, in the order of the enum of the Rust, and its state, which is known if every number in
-- it is. `idx` stands beside step 7. Beside an absent reply stands an empty one on the way out; on the way in what stands there is not looked at. Definitions only.
-- Assumes nothing.
use Rattle.std.specs.Prelude.{true, false, cond, eqb, Option, Some, None, Result, Ok}
use Rattle.std.specs.Bool.{then_some}
use Rattle.protocol.specs.declared.CamConfig.{CamConfig}
use Rattle.protocol.specs.Carried.{no_cam_config}
use Rattle.pi_table.specs.declared.PiReplies.{PiReplies}
use Rattle.pi_table.specs.declared.PiStep.{PiStep}
use Rattle.pi_table.specs.declared.PiStep.TheVariants as Pi
use Rattle.pi.specs.declared.PiSequencer.{PiSequencer}
use Rattle.abi_values.specs.declared.UnknownNumber.{UnknownNumber}
use Rattle.abi_values.specs.Numbers.{unknown, and_then}
use Rattle.abi_values.specs.Options.{dev_info_in, dev_info_out}
use Rattle.abi_sheet.specs.Ticks.{ticks_in, ticks_out}
use Rattle.abi_pi.specs.declared.COptionCamConfig.{COptionCamConfig}
use Rattle.abi_pi.specs.declared.CPiReplies.{CPiReplies}
use Rattle.abi_pi.specs.declared.CPiStep.{CPiStep}
use Rattle.abi_pi.specs.declared.CPi.{CPi}

abbrev pub cam_config_out : Option CamConfig → COptionCamConfig
cam_config_out (Some c) = record { some = true; value = c }
cam_config_out None = record { some = false; value = no_cam_config }

abbrev pub replies_in : CPiReplies → PiReplies
replies_in c = record {
  dev_info = dev_info_in c.dev_info;
  cam_config = then_some c.cam_config.some c.cam_config.value;
  ssid = c.ssid;
  password = c.password;
}

abbrev pub replies_out : PiReplies → CPiReplies
replies_out y = record { dev_info = dev_info_out y.dev_info; cam_config = cam_config_out y.cam_config; ssid = y.ssid; password = y.password }

abbrev pub pi_step_in : CPiStep → Result PiStep UnknownNumber
pi_step_in c =
    cond (eqb c.number 0) (Ok Pi.WaitStatus)
    (cond (eqb c.number 1) (Ok Pi.WaitDevInfo)
    (cond (eqb c.number 2) (Ok Pi.WaitParam0A)
    (cond (eqb c.number 3) (Ok Pi.WaitCamConfig1)
    (cond (eqb c.number 4) (Ok Pi.WaitCamConfig2)
    (cond (eqb c.number 5) (Ok Pi.WaitNetConfig)
    (cond (eqb c.number 6) (Ok Pi.WaitNetConfigPw)
    (cond (eqb c.number 7) (Ok (Pi.WaitParams c.idx))
    (cond (eqb c.number 8) (Ok Pi.Done) unknown))))))))

abbrev pub pi_step_out : PiStep → CPiStep
pi_step_out Pi.WaitStatus = record { number = 0; idx = 0 }
pi_step_out Pi.WaitDevInfo = record { number = 1; idx = 0 }
pi_step_out Pi.WaitParam0A = record { number = 2; idx = 0 }
pi_step_out Pi.WaitCamConfig1 = record { number = 3; idx = 0 }
pi_step_out Pi.WaitCamConfig2 = record { number = 4; idx = 0 }
pi_step_out Pi.WaitNetConfig = record { number = 5; idx = 0 }
pi_step_out Pi.WaitNetConfigPw = record { number = 6; idx = 0 }
pi_step_out (Pi.WaitParams i) = record { number = 7; idx = i }
pi_step_out Pi.Done = record { number = 8; idx = 0 }

abbrev pub pi_in : CPi → Result PiSequencer UnknownNumber
pi_in c =
    and_then (pi_step_in c.step) (λ step.
    and_then (ticks_in c.ticks) (λ ticks.
    Ok (record { step = step; replies = replies_in c.replies; ticks = ticks })))

abbrev pub pi_out : PiSequencer → CPi
pi_out s = record { step = pi_step_out s.step; replies = replies_out s.replies; ticks = ticks_out s.ticks }
