-- There and back, case by case.
-- Assumes nothing.
use Rattle.std.proofs.Common.{◌≡◌, refl, ℕ, List, [], ◌∷◌, Option, Some, None, Ok}
use Rattle.std.specs.Bool.{then_some}
use Rattle.protocol.specs.declared.Action.{Action}
use Rattle.protocol.specs.declared.AvrConfigResp.{AvrConfigResp}
use Rattle.protocol.specs.declared.AvrStatus.{AvrStatus}
use Rattle.protocol.specs.declared.CalDataResp.{CalDataResp}
use Rattle.protocol.specs.declared.CalParamResp.{CalParamResp}
use Rattle.protocol.specs.declared.CamConfig.{CamConfig}
use Rattle.protocol.specs.declared.ConfigResp.{ConfigResp}
use Rattle.protocol.specs.declared.DevInfoResp.{DevInfoResp}
use Rattle.protocol.specs.declared.DspQueryResp.{DspQueryResp}
use Rattle.protocol.specs.declared.Nack.{Nack}
use Rattle.protocol.specs.declared.RadarCal.{RadarCal}
use Rattle.protocol.specs.declared.BusAddr.{BusAddr}
use Rattle.protocol.specs.declared.ParamData.{ParamData}
use Rattle.protocol.specs.declared.ParamValue.{ParamValue}
use Rattle.protocol.specs.declared.DspStatus.{DspStatus}
use Rattle.protocol.specs.declared.Message.{Message}
use Rattle.protocol.specs.declared.Message.TheVariants as Msg
use Rattle.protocol.specs.declared.Command.{Command}
use Rattle.protocol.specs.declared.Command.TheVariants as Cmd
use Rattle.protocol.specs.Addr.{byte_of}
use Rattle.settings.specs.declared.AvrSettings.{AvrSettings}
use Rattle.sheet.specs.declared.How.{How}
use Rattle.sheet.specs.declared.Tick.{Tick}
use Rattle.sheet.specs.declared.Ticks.{Ticks}
use Rattle.dsp_table.specs.declared.DspStatusReply.{DspStatusReply}
use Rattle.avr_table.specs.declared.AvrReplies.{AvrReplies}
use Rattle.pi_table.specs.declared.PiReplies.{PiReplies}
use Rattle.abi_values.specs.Options.{instant_in, instant_out, dev_info_in, dev_info_out, config_in, config_out}
use Rattle.abi_values.specs.Numbers.{addr_in}
use Rattle.abi_values.specs.Params.{param_as, param_in, param_out}
use Rattle.abi_messages.specs.Messages.{dsp_status_in, dsp_status_out, message_in}
use Rattle.abi.specs.Actions.{command_out, action_out}
use Rattle.abi.specs.Settings.{params_in, params_out, radar_cal_in, radar_cal_out, settings_in, settings_out}
use Rattle.abi_sheet.specs.Ticks.{how_in, how_out, tick_in, tick_out, places_in, places_out, ticks_in, ticks_out}
use Rattle.abi_dsp.specs.State.{nack_in, nack_out, status_in, status_out, hw_info_in, hw_info_out, dsp_step_in, dsp_step_out}
use Rattle.abi_avr.specs.State as avr
use Rattle.abi_avr.specs.State.{factory_cal_out, if_cal_out, avr_config_out, avr_step_in, avr_step_out}
use Rattle.abi_pi.specs.State as pi
use Rattle.abi_pi.specs.State.{cam_config_out, pi_step_in, pi_step_out}
use Rattle.abi_avr_config.specs.State.{avr_config_step_in, avr_config_step_out}
use Rattle.abi_arm.specs.State.{arm_step_in, arm_step_out}
use Rattle.abi_disarm.specs.State.{disarm_step_in, disarm_step_out}
use Rattle.abi_laws.specs.Theorem.{message_out, command_in, action_in, Back}
use Rattle.dsp_table.specs.declared.DspStep.{DspStep}
use Rattle.dsp_table.specs.declared.DspStep.TheVariants as Dsp
use Rattle.avr_table.specs.declared.AvrStep.{AvrStep}
use Rattle.avr_table.specs.declared.AvrStep.TheVariants as Avr
use Rattle.pi_table.specs.declared.PiStep.{PiStep}
use Rattle.pi_table.specs.declared.PiStep.TheVariants as Pi
use Rattle.avr_config_steps.specs.declared.AvrConfigStep.{AvrConfigStep}
use Rattle.avr_config_steps.specs.declared.AvrConfigStep.TheVariants as AvrConfig
use Rattle.arm_steps.specs.declared.ArmStep.{ArmStep}
use Rattle.arm_steps.specs.declared.ArmStep.TheVariants as Arm
use Rattle.disarm.specs.declared.DisarmStep.{DisarmStep}
use Rattle.disarm.specs.declared.DisarmStep.TheVariants as Disarm

addr_back : (a : BusAddr) → addr_in (byte_of a) ≡ Ok a
addr_back BusAddr.App = refl
addr_back BusAddr.Pi = refl
addr_back BusAddr.Avr = refl
addr_back BusAddr.Dsp = refl

status_back : (s : DspStatus) → dsp_status_in (dsp_status_out s) ≡ Ok s
status_back (DspStatus.V80 s) = refl
status_back (DspStatus.V46 s) = refl

param_as_lem : (id : ℕ) (v : ParamData) → param_in (param_as id v) ≡ Ok (record { param_id = id; value = v })
param_as_lem id (ParamData.Int24 i) = refl
param_as_lem id (ParamData.Float40 f) = refl

param_back : (p : ParamValue) → param_in (param_out p) ≡ Ok p
param_back p = param_as_lem p.param_id p.value

-- ---- all parameters of a list

params_back : (ps : List ParamValue) → params_in (params_out ps) ≡ Ok ps
params_back [] = refl
params_back (p ∷ ps) = rw (param_back p, params_back ps)

-- ---- all ticks of a list

how_back : (h : How) → how_in (how_out h) ≡ Ok h
how_back How.Reply = refl
how_back How.Nack = refl
how_back How.Check = refl

tick_back : (t : Tick) → tick_in (tick_out t) ≡ Ok t
tick_back t = rw (how_back t.how)

places_back : (ts : List Tick) → places_in (places_out ts) ≡ Ok ts
places_back [] = refl
places_back (t ∷ ts) = rw (tick_back t, places_back ts)

ticks_back : (t : Ticks) → ticks_in (ticks_out t) ≡ Ok t
ticks_back t = rw (places_back t.ticks)

-- ---- records that may be absent

instant_back : (t : Option ℕ) → instant_in (instant_out t) ≡ t
instant_back (Some t) = refl
instant_back None = refl

dev_info_back : (i : Option DevInfoResp) → dev_info_in (dev_info_out i) ≡ i
dev_info_back (Some i) = refl
dev_info_back None = refl

config_back : (c : Option ConfigResp) → config_in (config_out c) ≡ c
config_back (Some c) = refl
config_back None = refl

radar_cal_back : (c : Option RadarCal) → radar_cal_in (radar_cal_out c) ≡ c
radar_cal_back (Some c) = refl
radar_cal_back None = refl

settings_back : (s : AvrSettings) → settings_in (settings_out s) ≡ Ok s
settings_back s = rw (params_back s.params, radar_cal_back s.radar_cal)

nack_back : (n : Option Nack) → nack_in (nack_out n) ≡ Ok n
nack_back (Some n) = rw (addr_back n.src)
nack_back None = refl

dsp_reply_back : (r : Option DspStatusReply) → status_in (status_out r) ≡ Ok r
dsp_reply_back (Some r) = rw (status_back r.status)
dsp_reply_back None = refl

hw_info_back : (q : Option DspQueryResp) → hw_info_in (hw_info_out q) ≡ q
hw_info_back (Some q) = refl
hw_info_back None = refl

avr_status_back : (s : Option AvrStatus) → then_some (avr.status_out s).some (avr.status_out s).value ≡ s
avr_status_back (Some s) = refl
avr_status_back None = refl

factory_cal_back : (c : Option CalDataResp) → then_some (factory_cal_out c).some (record { payload = (factory_cal_out c).value }) ≡ c
factory_cal_back (Some c) = refl
factory_cal_back None = refl

if_cal_back : (c : Option CalParamResp) → then_some (if_cal_out c).some (record { payload = (if_cal_out c).value }) ≡ c
if_cal_back (Some c) = refl
if_cal_back None = refl

avr_answer_back : (c : Option AvrConfigResp) → then_some (avr_config_out c).some (record { payload = (avr_config_out c).value }) ≡ c
avr_answer_back (Some c) = refl
avr_answer_back None = refl

avr_replies_back : (y : AvrReplies) → avr.replies_in (avr.replies_out y) ≡ y
avr_replies_back y =
    rw (avr_status_back y.status, dev_info_back y.dev_info, config_back y.config, factory_cal_back y.factory_cal, if_cal_back y.if_cal, avr_answer_back y.avr_config)

cam_config_back : (c : Option CamConfig) → then_some (cam_config_out c).some (cam_config_out c).value ≡ c
cam_config_back (Some c) = refl
cam_config_back None = refl

pi_replies_back : (y : PiReplies) → pi.replies_in (pi.replies_out y) ≡ y
pi_replies_back y = rw (dev_info_back y.dev_info, cam_config_back y.cam_config)

-- ---- messages and commands

message_back : (m : Message) → message_in (message_out m) ≡ Ok m
message_back (Msg.AvrStatus s) = refl
message_back (Msg.DspStatus s) = rw (status_back s)
message_back Msg.PiStatus = refl
message_back (Msg.ConfigAck a) = refl
message_back (Msg.ConfigNack a) = refl
message_back Msg.ModeAck = refl
message_back Msg.Text = refl
message_back (Msg.ModeSet m) = refl
message_back (Msg.ParamValue p) = rw (param_back p)
message_back (Msg.RadarCal c) = refl
message_back Msg.ConfigResp = refl
message_back Msg.AvrConfigResp = refl
message_back (Msg.DspQueryResp q) = refl
message_back Msg.DevInfoResp = refl
message_back Msg.ProdInfoResp = refl
message_back Msg.NetConfigResp = refl
message_back Msg.CalParamResp = refl
message_back Msg.CalDataResp = refl
message_back (Msg.TimeSync t) = refl
message_back (Msg.CamConfig c) = refl
message_back Msg.Other = refl

command_back : (c : Command) → command_in (command_out c) ≡ c
command_back (Cmd.StatusPoll c) = refl
command_back (Cmd.ModeSet c) = refl
command_back (Cmd.AvrConfigCmd c) = refl
command_back (Cmd.ParamReadReq c) = refl
command_back (Cmd.ParamValue c) = rw (param_back c)
command_back (Cmd.RadarCal c) = refl
command_back Cmd.DspQuery = refl
command_back Cmd.ConfigQuery = refl
command_back Cmd.AvrConfigQuery = refl
command_back Cmd.DevInfoReq = refl
command_back (Cmd.ProdInfoReq c) = refl
command_back (Cmd.NetConfigReq c) = refl
command_back Cmd.CalParamReq = refl
command_back (Cmd.CalDataReq c) = refl
command_back (Cmd.TimeSync c) = refl
command_back Cmd.CamConfigReq = refl
command_back (Cmd.ConfigAck c) = refl

-- ---- steps

dsp_step : (k : DspStep) → dsp_step_in (dsp_step_out k) ≡ Ok k
dsp_step Dsp.WaitStatus = refl
dsp_step Dsp.WaitDspQuery = refl
dsp_step Dsp.WaitDevInfo = refl
dsp_step Dsp.WaitProdInfo0 = refl
dsp_step Dsp.WaitProdInfo1 = refl
dsp_step Dsp.WaitProdInfo2 = refl
dsp_step Dsp.WaitConfig = refl
dsp_step Dsp.WaitPowerMode = refl
dsp_step Dsp.Done = refl

avr_step : (k : AvrStep) → avr_step_in (avr_step_out k) ≡ Ok k
avr_step Avr.WaitStatus1 = refl
avr_step Avr.WaitStatus2 = refl
avr_step Avr.WaitDevInfo1 = refl
avr_step Avr.WaitDevInfo2 = refl
avr_step Avr.WaitParam0C = refl
avr_step Avr.WaitParam0D = refl
avr_step Avr.WaitConfig = refl
avr_step Avr.WaitFactoryCal = refl
avr_step Avr.WaitIfCal = refl
avr_step Avr.WaitAvrConfig = refl
avr_step Avr.WaitParam64 = refl
avr_step Avr.WaitTimeSync = refl
avr_step Avr.Done = refl

pi_step : (k : PiStep) → pi_step_in (pi_step_out k) ≡ Ok k
pi_step Pi.WaitStatus = refl
pi_step Pi.WaitDevInfo = refl
pi_step Pi.WaitParam0A = refl
pi_step Pi.WaitCamConfig1 = refl
pi_step Pi.WaitCamConfig2 = refl
pi_step Pi.WaitNetConfig = refl
pi_step Pi.WaitNetConfigPw = refl
pi_step (Pi.WaitParams i) = refl
pi_step Pi.Done = refl

avr_config_step : (k : AvrConfigStep) → avr_config_step_in (avr_config_step_out k) ≡ Ok k
avr_config_step AvrConfig.WaitInitGateAck = refl
avr_config_step (AvrConfig.WaitParamAck i) = refl
avr_config_step (AvrConfig.WaitParamCommitAck i) = refl
avr_config_step AvrConfig.WaitModeEcho = refl
avr_config_step AvrConfig.WaitModeCommitAck = refl
avr_config_step AvrConfig.WaitRadarCalEcho = refl
avr_config_step AvrConfig.WaitRadarCalCommitAck = refl
avr_config_step AvrConfig.Done = refl

arm_step : (k : ArmStep) → arm_step_in (arm_step_out k) ≡ Ok k
arm_step Arm.WaitDspStatus = refl
arm_step Arm.WaitAvrStatus = refl
arm_step Arm.WaitArmAck = refl
arm_step (Arm.WaitPiAndArmed p t) = refl
arm_step Arm.Done = refl

disarm_step : (k : DisarmStep) → disarm_step_in (disarm_step_out k) ≡ Ok k
disarm_step Disarm.WaitAck = refl
disarm_step Disarm.WaitModeReset = refl
disarm_step Disarm.WaitStateIdle = refl
disarm_step Disarm.Done = refl

action_back : (a : Option Action) → action_in (action_out a) ≡ a
action_back (Some a) = rw (command_back a.command, addr_back a.dest)
action_back None = refl

pub back : Back
back = record {
  addr = addr_back;
  dsp_status = status_back;
  param = param_back;
  settings = settings_back;
  tick = tick_back;
  ticks = ticks_back;
  message = message_back;
  action = action_back;
  dsp =
      λ s. rw (dsp_step s.state.step, dsp_reply_back s.state.replies.status, nack_back s.state.replies.refused, hw_info_back s.state.replies.hw_info, dev_info_back s.state.replies.dev_info, config_back s.state.replies.config, instant_back s.state.deadline, ticks_back s.ticks);
  avr = λ s. rw (avr_step s.state.step, avr_replies_back s.state.replies, instant_back s.state.cal_deadline, instant_back s.state.repoll_at, ticks_back s.ticks);
  pi = λ s. rw (pi_step s.step, pi_replies_back s.replies, ticks_back s.ticks);
  avr_config = λ s. rw (avr_config_step s.step, settings_back s.settings);
  arm = λ s. rw (arm_step s.step);
  disarm = λ s. rw (disarm_step s.step);
}
