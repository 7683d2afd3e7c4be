-- An AVR start-up as a host holds it, and back: its steps by number, in the order of the enum of the Rust, and its state, which is known if every number in
-- it is. Beside an absent reply stands an empty one on the way out; on the way in what stands there is not looked at. Definitions only.
-- Assumes nothing.
use Rattle.std.specs.Prelude.{ℕ, true, false, cond, eqb, [], Option, Some, None, option_map, Result, Ok}
use Rattle.std.specs.Bool.{then_some}
use Rattle.protocol.specs.declared.Stored.{Stored}
use Rattle.protocol.specs.declared.AvrStatus.{AvrStatus}
use Rattle.protocol.specs.declared.CalDataResp.{CalDataResp}
use Rattle.protocol.specs.declared.CalParamResp.{CalParamResp}
use Rattle.protocol.specs.declared.AvrConfigResp.{AvrConfigResp}
use Rattle.protocol.specs.Carried.{no_avr_status}
use Rattle.protocol.specs.Stored.{stored}
use Rattle.avr_table.specs.declared.AvrReplies.{AvrReplies}
use Rattle.avr_table.specs.declared.AvrStep.{AvrStep}
use Rattle.avr_table.specs.declared.AvrStep.TheVariants as Avr
use Rattle.avr.specs.declared.AvrSequencer.{AvrSequencer}
use Rattle.abi_values.specs.declared.UnknownNumber.{UnknownNumber}
use Rattle.abi_values.specs.Numbers.{unknown, and_then}
use Rattle.abi_values.specs.Options.{instant_in, instant_out, dev_info_in, dev_info_out, config_in, config_out}
use Rattle.abi_sheet.specs.Ticks.{ticks_in, ticks_out}
use Rattle.abi_avr.specs.declared.COptionAvrStatus.{COptionAvrStatus}
use Rattle.abi_avr.specs.declared.COptionStored.{COptionStored}
use Rattle.abi_avr.specs.declared.CAvrReplies.{CAvrReplies}
use Rattle.abi_avr.specs.declared.CAvr.{CAvr}

-- ---- replies

abbrev pub status_out : Option AvrStatus → COptionAvrStatus
status_out (Some s) = record { some = true; value = s }
status_out None = record { some = false; value = no_avr_status }

abbrev pub stored_out : Option Stored → COptionStored
stored_out (Some s) = record { some = true; value = s }
stored_out None = record { some = false; value = stored [] }

abbrev pub factory_cal_out : Option CalDataResp → COptionStored
factory_cal_out c = stored_out (option_map (λ (r : CalDataResp). r.payload) c)

abbrev pub if_cal_out : Option CalParamResp → COptionStored
if_cal_out c = stored_out (option_map (λ (r : CalParamResp). r.payload) c)

abbrev pub avr_config_out : Option AvrConfigResp → COptionStored
avr_config_out c = stored_out (option_map (λ (r : AvrConfigResp). r.payload) c)

abbrev pub replies_in : CAvrReplies → AvrReplies
replies_in c = record {
  status = then_some c.status.some c.status.value;
  dev_info = dev_info_in c.dev_info;
  config = config_in c.config;
  factory_cal = then_some c.factory_cal.some (record { payload = c.factory_cal.value });
  if_cal = then_some c.if_cal.some (record { payload = c.if_cal.value });
  avr_config = then_some c.avr_config.some (record { payload = c.avr_config.value });
}

abbrev pub replies_out : AvrReplies → CAvrReplies
replies_out y = record {
  status = status_out y.status;
  dev_info = dev_info_out y.dev_info;
  config = config_out y.config;
  factory_cal = factory_cal_out y.factory_cal;
  if_cal = if_cal_out y.if_cal;
  avr_config = avr_config_out y.avr_config;
}

-- ---- steps

abbrev pub avr_step_in : ℕ → Result AvrStep UnknownNumber
avr_step_in n =
    cond (eqb n 0) (Ok Avr.WaitStatus1)
    (cond (eqb n 1) (Ok Avr.WaitStatus2)
    (cond (eqb n 2) (Ok Avr.WaitDevInfo1)
    (cond (eqb n 3) (Ok Avr.WaitDevInfo2)
    (cond (eqb n 4) (Ok Avr.WaitParam0C)
    (cond (eqb n 5) (Ok Avr.WaitParam0D)
    (cond (eqb n 6) (Ok Avr.WaitConfig)
    (cond (eqb n 7) (Ok Avr.WaitFactoryCal)
    (cond (eqb n 8) (Ok Avr.WaitIfCal)
    (cond (eqb n 9) (Ok Avr.WaitAvrConfig)
    (cond (eqb n 10) (Ok Avr.WaitParam64)
    (cond (eqb n 11) (Ok Avr.WaitTimeSync)
    (cond (eqb n 12) (Ok Avr.Done) unknown))))))))))))

abbrev pub avr_step_out : AvrStep → ℕ
avr_step_out Avr.WaitStatus1 = 0
avr_step_out Avr.WaitStatus2 = 1
avr_step_out Avr.WaitDevInfo1 = 2
avr_step_out Avr.WaitDevInfo2 = 3
avr_step_out Avr.WaitParam0C = 4
avr_step_out Avr.WaitParam0D = 5
avr_step_out Avr.WaitConfig = 6
avr_step_out Avr.WaitFactoryCal = 7
avr_step_out Avr.WaitIfCal = 8
avr_step_out Avr.WaitAvrConfig = 9
avr_step_out Avr.WaitParam64 = 10
avr_step_out Avr.WaitTimeSync = 11
avr_step_out Avr.Done = 12

-- ---- the state

abbrev pub avr_in : CAvr → Result AvrSequencer UnknownNumber
avr_in c =
    and_then (avr_step_in c.step) (λ step.
    and_then (ticks_in c.ticks) (λ ticks.
    Ok (record {
      state = record {
        step = step;
        model = c.model;
        replies = replies_in c.replies;
        cal_deadline = instant_in c.cal_deadline;
        repoll_at = instant_in c.repoll_at;
      };
      last = c.last;
      ticks = ticks;
    })))

abbrev pub avr_out : AvrSequencer → CAvr
avr_out s = record {
  step = avr_step_out s.state.step;
  model = s.state.model;
  replies = replies_out s.state.replies;
  cal_deadline = instant_out s.state.cal_deadline;
  repoll_at = instant_out s.state.repoll_at;
  last = s.last;
  ticks = ticks_out s.ticks;
}
