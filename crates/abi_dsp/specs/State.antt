-- A DSP start-up as a host holds it, and back: its steps by number, in the order of the enum of the Rust, and its state, which is known if every number in
-- it is. Beside an absent record stands an empty one on the way out; on the way in its numbers must be known, and are then not looked at. Definitions only.
-- Assumes nothing.
use Rattle.std.specs.Prelude.{ℕ, true, false, cond, eqb, Option, Some, None, Result, Ok}
use Rattle.std.specs.Bool.{then_some}
use Rattle.protocol.specs.declared.BusAddr.{BusAddr}
use Rattle.protocol.specs.declared.DspQueryResp.{DspQueryResp}
use Rattle.protocol.specs.declared.Nack.{Nack}
use Rattle.protocol.specs.Addr.{byte_of}
use Rattle.protocol.specs.Carried.{no_ack, no_query_resp}
use Rattle.dsp_table.specs.declared.DspStatusReply.{DspStatusReply}
use Rattle.dsp_table.specs.Stores.{no_status}
use Rattle.dsp_table.specs.declared.DspStep.{DspStep}
use Rattle.dsp_table.specs.declared.DspStep.TheVariants as Dsp
use Rattle.dsp.specs.declared.DspSequencer.{DspSequencer}
use Rattle.abi_values.specs.declared.UnknownNumber.{UnknownNumber}
use Rattle.abi_values.specs.Numbers.{unknown, and_then, addr_in}
use Rattle.abi_values.specs.Options.{instant_in, instant_out, dev_info_in, dev_info_out, config_in, config_out}
use Rattle.abi_messages.specs.Messages.{dsp_status_in, dsp_status_out}
use Rattle.abi_sheet.specs.Ticks.{ticks_in, ticks_out}
use Rattle.abi_dsp.specs.declared.COptionNack.{COptionNack}
use Rattle.abi_dsp.specs.declared.COptionDspStatus.{COptionDspStatus}
use Rattle.abi_dsp.specs.declared.COptionDspQueryResp.{COptionDspQueryResp}
use Rattle.abi_dsp.specs.declared.CDsp.{CDsp}

-- ---- replies

abbrev pub nack_in : COptionNack → Result (Option Nack) UnknownNumber
nack_in c = and_then (addr_in c.src) (λ src. Ok (then_some c.some (record { src = src; type_id = c.type_id; nack = c.nack })))

abbrev pub nack_out : Option Nack → COptionNack
nack_out (Some n) = record { some = true; src = byte_of n.src; type_id = n.type_id; nack = n.nack }
nack_out None = record { some = false; src = byte_of BusAddr.App; type_id = 0; nack = no_ack }

abbrev pub status_in : COptionDspStatus → Result (Option DspStatusReply) UnknownNumber
status_in c = and_then (dsp_status_in c.value) (λ status. Ok (then_some c.some (record { status = status; payload = c.payload })))

abbrev pub status_out : Option DspStatusReply → COptionDspStatus
status_out (Some r) = record { some = true; value = dsp_status_out r.status; payload = r.payload }
status_out None = record { some = false; value = dsp_status_out no_status.status; payload = no_status.payload }

abbrev pub hw_info_in : COptionDspQueryResp → Option DspQueryResp
hw_info_in c = then_some c.some c.value

abbrev pub hw_info_out : Option DspQueryResp → COptionDspQueryResp
hw_info_out (Some q) = record { some = true; value = q }
hw_info_out None = record { some = false; value = no_query_resp }

-- ---- steps

abbrev pub dsp_step_in : ℕ → Result DspStep UnknownNumber
dsp_step_in n =
    cond (eqb n 0) (Ok Dsp.WaitStatus)
    (cond (eqb n 1) (Ok Dsp.WaitDspQuery)
    (cond (eqb n 2) (Ok Dsp.WaitDevInfo)
    (cond (eqb n 3) (Ok Dsp.WaitProdInfo0)
    (cond (eqb n 4) (Ok Dsp.WaitProdInfo1)
    (cond (eqb n 5) (Ok Dsp.WaitProdInfo2)
    (cond (eqb n 6) (Ok Dsp.WaitConfig)
    (cond (eqb n 7) (Ok Dsp.WaitPowerMode)
    (cond (eqb n 8) (Ok Dsp.Done) unknown))))))))

abbrev pub dsp_step_out : DspStep → ℕ
dsp_step_out Dsp.WaitStatus = 0
dsp_step_out Dsp.WaitDspQuery = 1
dsp_step_out Dsp.WaitDevInfo = 2
dsp_step_out Dsp.WaitProdInfo0 = 3
dsp_step_out Dsp.WaitProdInfo1 = 4
dsp_step_out Dsp.WaitProdInfo2 = 5
dsp_step_out Dsp.WaitConfig = 6
dsp_step_out Dsp.WaitPowerMode = 7
dsp_step_out Dsp.Done = 8

-- ---- the state

abbrev pub dsp_in : CDsp → Result DspSequencer UnknownNumber
dsp_in c =
    and_then (dsp_step_in c.step) (λ step.
    and_then (status_in c.status) (λ status.
    and_then (nack_in c.refused) (λ refused.
    and_then (ticks_in c.ticks) (λ ticks.
    Ok (record {
      state = record {
        step = step;
        replies = record {
          status = status;
          hw_info = hw_info_in c.hw_info;
          dev_info = dev_info_in c.dev_info;
          prod_info = c.prod_info;
          config = config_in c.config;
          refused = refused;
          power_mode_unanswered = c.power_mode_unanswered;
        };
        deadline = instant_in c.deadline;
      };
      last = c.last;
      ticks = ticks;
    })))))

abbrev pub dsp_out : DspSequencer → CDsp
dsp_out s = record {
  step = dsp_step_out s.state.step;
  status = status_out s.state.replies.status;
  hw_info = hw_info_out s.state.replies.hw_info;
  dev_info = dev_info_out s.state.replies.dev_info;
  prod_info = s.state.replies.prod_info;
  config = config_out s.state.replies.config;
  refused = nack_out s.state.replies.refused;
  power_mode_unanswered = s.state.replies.power_mode_unanswered;
  deadline = instant_out s.state.deadline;
  last = s.last;
  ticks = ticks_out s.ticks;
}
