-- What goes to a host and comes back is what it was: for each value that has a number in place of an enum, and for each sequencer. A message
-- only comes in and a send only goes out; the way that the host's side goes is written out here for both. Definitions only.
-- Assumes nothing.
use Rattle.std.specs.Prelude.{ℕ, ◌≡◌, Option, Ok, List, [], ◌∷◌, get_or}
use Rattle.std.specs.Bool.{then_some}
use Rattle.std.specs.Result.{result_unwrap_or}
use Rattle.protocol.specs.declared.BusAddr.{BusAddr}
use Rattle.protocol.specs.declared.CamConfig.{CamConfig}
use Rattle.protocol.specs.declared.ParamValue.{ParamValue}
use Rattle.protocol.specs.declared.RadarCal.{RadarCal}
use Rattle.protocol.specs.declared.DspQueryResp.{DspQueryResp}
use Rattle.protocol.specs.declared.TimeSync.{TimeSync}
use Rattle.protocol.specs.declared.AvrStatus.{AvrStatus}
use Rattle.protocol.specs.declared.ConfigAck.{ConfigAck}
use Rattle.protocol.specs.declared.DspStatus.{DspStatus}
use Rattle.protocol.specs.declared.Message.{Message}
use Rattle.protocol.specs.declared.Message.TheVariants as Msg
use Rattle.protocol.specs.declared.Command.{Command}
use Rattle.protocol.specs.declared.Command.TheVariants as Cmd
use Rattle.protocol.specs.declared.Action.{Action}
use Rattle.protocol.specs.Addr.{byte_of}
use Rattle.protocol.specs.Carried.{no_ack, no_avr_status, no_cam_config, no_dsp_status, no_query_resp}
use Rattle.settings.specs.declared.AvrSettings.{AvrSettings}
use Rattle.settings.specs.Settings.{no_param}
use Rattle.sheet.specs.declared.Tick.{Tick}
use Rattle.sheet.specs.declared.Ticks.{Ticks}
use Rattle.dsp.specs.declared.DspSequencer.{DspSequencer}
use Rattle.avr.specs.declared.AvrSequencer.{AvrSequencer}
use Rattle.pi.specs.declared.PiSequencer.{PiSequencer}
use Rattle.avr_config.specs.declared.AvrConfigSequencer.{AvrConfigSequencer}
use Rattle.arm.specs.declared.ArmSequencer.{ArmSequencer}
use Rattle.disarm.specs.declared.DisarmSequencer.{DisarmSequencer}
use Rattle.abi_values.specs.Numbers.{addr_in}
use Rattle.abi_values.specs.Params.{param_in, param_out}
use Rattle.abi_messages.specs.declared.CMessage.{CMessage}
use Rattle.abi_messages.specs.Messages.{dsp_status_in, dsp_status_out, message_in}
use Rattle.abi.specs.declared.action.CCommand.{CCommand}
use Rattle.abi.specs.declared.action.CAction.{CAction}
use Rattle.abi.specs.Actions.{action_out}
use Rattle.abi.specs.Settings.{settings_in, settings_out}
use Rattle.abi_sheet.specs.Ticks.{tick_in, tick_out, ticks_in, ticks_out}
use Rattle.abi_dsp.specs.State.{dsp_in, dsp_out}
use Rattle.abi_avr.specs.State.{avr_in, avr_out}
use Rattle.abi_pi.specs.State.{pi_in, pi_out}
use Rattle.abi_avr_config.specs.State.{avr_config_in, avr_config_out}
use Rattle.abi_arm.specs.State.{arm_in, arm_out}
use Rattle.abi_disarm.specs.State.{disarm_in, disarm_out}

-- ---- a message as a host writes it: its kind, its record, and nothing in the others

abbrev pub written : ℕ → AvrStatus → DspStatus → ConfigAck → ℕ → ParamValue → RadarCal → DspQueryResp → TimeSync → CamConfig → CMessage
written k avr dsp ack mode param cal query time cam = record {
  kind = k;
  avr_status = avr;
  dsp_status = dsp_status_out dsp;
  ack = ack;
  mode_set = record { mode = mode };
  param_value = param_out param;
  radar_cal = cal;
  dsp_query_resp = query;
  time_sync = time;
  cam_config = cam;
}

abbrev pub no_cal : RadarCal
no_cal = record { range_mm = 0; height_mm = 0 }

abbrev pub no_time : TimeSync
no_time = record { epoch = 0; session = 0 }

abbrev pub plain : ℕ → CMessage
plain k = written k no_avr_status no_dsp_status no_ack 0 no_param no_cal no_query_resp no_time no_cam_config

abbrev pub message_out : Message → CMessage
message_out (Msg.AvrStatus s) = written 0 s no_dsp_status no_ack 0 no_param no_cal no_query_resp no_time no_cam_config
message_out (Msg.DspStatus s) = written 1 no_avr_status s no_ack 0 no_param no_cal no_query_resp no_time no_cam_config
message_out Msg.PiStatus = plain 2
message_out (Msg.ConfigAck a) = written 3 no_avr_status no_dsp_status a 0 no_param no_cal no_query_resp no_time no_cam_config
message_out (Msg.ConfigNack a) = written 4 no_avr_status no_dsp_status a 0 no_param no_cal no_query_resp no_time no_cam_config
message_out Msg.ModeAck = plain 5
message_out Msg.Text = plain 6
message_out (Msg.ModeSet m) = written 7 no_avr_status no_dsp_status no_ack m.mode no_param no_cal no_query_resp no_time no_cam_config
message_out (Msg.ParamValue p) = written 8 no_avr_status no_dsp_status no_ack 0 p no_cal no_query_resp no_time no_cam_config
message_out (Msg.RadarCal c) = written 9 no_avr_status no_dsp_status no_ack 0 no_param c no_query_resp no_time no_cam_config
message_out Msg.ConfigResp = plain 10
message_out Msg.AvrConfigResp = plain 11
message_out (Msg.DspQueryResp q) = written 12 no_avr_status no_dsp_status no_ack 0 no_param no_cal q no_time no_cam_config
message_out Msg.DevInfoResp = plain 13
message_out Msg.ProdInfoResp = plain 14
message_out Msg.NetConfigResp = plain 15
message_out Msg.CalParamResp = plain 16
message_out Msg.CalDataResp = plain 17
message_out (Msg.TimeSync t) = written 18 no_avr_status no_dsp_status no_ack 0 no_param no_cal no_query_resp t no_cam_config
message_out (Msg.CamConfig c) = written 19 no_avr_status no_dsp_status no_ack 0 no_param no_cal no_query_resp no_time c
message_out Msg.Other = plain 20

-- ---- a send as a host reads it; a number that no case has, which is never told, is read as the first case

abbrev pub commands_of : CCommand → List Command
commands_of c =
    Cmd.StatusPoll (record { pi_mode = c.flag }) ∷ Cmd.ModeSet (record { mode = c.byte }) ∷ Cmd.AvrConfigCmd (record { arm = c.flag })
    ∷ Cmd.ParamReadReq (record { param_id = c.byte }) ∷ Cmd.ParamValue (result_unwrap_or (param_in c.param) no_param)
    ∷ Cmd.RadarCal (record { range_mm = c.wide; height_mm = c.byte }) ∷ Cmd.DspQuery ∷ Cmd.ConfigQuery ∷ Cmd.AvrConfigQuery ∷ Cmd.DevInfoReq
    ∷ Cmd.ProdInfoReq (record { sub_query = c.byte }) ∷ Cmd.NetConfigReq (record { query_password = c.flag }) ∷ Cmd.CalParamReq
    ∷ Cmd.CalDataReq (record { sub_cmd = c.byte }) ∷ Cmd.TimeSync (record { epoch = c.wide; session = c.byte }) ∷ Cmd.CamConfigReq
    ∷ Cmd.ConfigAck (record { bus_addr = c.byte; acked_cmd = c.acked_cmd }) ∷ []

abbrev pub command_in : CCommand → Command
command_in c = get_or (commands_of c) c.number Cmd.DspQuery

abbrev pub action_in : CAction → Option Action
action_in a =
    then_some a.some (record { command = command_in a.command; dest = result_unwrap_or (addr_in a.dest) BusAddr.App; payload = a.payload; tail = a.tail })

-- ---- there and back

pub record Back : Type 0 where
  pub addr : (a : BusAddr) → addr_in (byte_of a) ≡ Ok a
  pub dsp_status : (s : DspStatus) → dsp_status_in (dsp_status_out s) ≡ Ok s
  pub param : (p : ParamValue) → param_in (param_out p) ≡ Ok p
  pub settings : (s : AvrSettings) → settings_in (settings_out s) ≡ Ok s
  pub tick : (t : Tick) → tick_in (tick_out t) ≡ Ok t
  pub ticks : (t : Ticks) → ticks_in (ticks_out t) ≡ Ok t
  pub message : (m : Message) → message_in (message_out m) ≡ Ok m
  pub action : (a : Option Action) → action_in (action_out a) ≡ a
  pub dsp : (s : DspSequencer) → dsp_in (dsp_out s) ≡ Ok s
  pub avr : (s : AvrSequencer) → avr_in (avr_out s) ≡ Ok s
  pub pi : (s : PiSequencer) → pi_in (pi_out s) ≡ Ok s
  pub avr_config : (s : AvrConfigSequencer) → avr_config_in (avr_config_out s) ≡ Ok s
  pub arm : (s : ArmSequencer) → arm_in (arm_out s) ≡ Ok s
  pub disarm : (s : DisarmSequencer) → disarm_in (disarm_out s) ≡ Ok s
