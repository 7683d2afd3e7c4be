-- The kinds of messages by number, so that a table can test a kind as a number. Definitions only.
-- Assumes nothing.
use Rattle.std.specs.Prelude.{ℕ}
use Rattle.protocol.specs.declared.Message.{Message}
use Rattle.protocol.specs.declared.Message.TheVariants as Msg

-- numbered as they are declared
abbrev pub avr_status : ℕ
avr_status = 0

abbrev pub dsp_status : ℕ
dsp_status = 1

abbrev pub pi_status : ℕ
pi_status = 2

abbrev pub config_ack : ℕ
config_ack = 3

abbrev pub config_nack : ℕ
config_nack = 4

abbrev pub mode_ack : ℕ
mode_ack = 5

abbrev pub text : ℕ
text = 6

abbrev pub mode_set : ℕ
mode_set = 7

abbrev pub param_value : ℕ
param_value = 8

abbrev pub radar_cal : ℕ
radar_cal = 9

abbrev pub config_resp : ℕ
config_resp = 10

abbrev pub avr_config_resp : ℕ
avr_config_resp = 11

abbrev pub dsp_query_resp : ℕ
dsp_query_resp = 12

abbrev pub dev_info_resp : ℕ
dev_info_resp = 13

abbrev pub prod_info_resp : ℕ
prod_info_resp = 14

abbrev pub net_config_resp : ℕ
net_config_resp = 15

abbrev pub cal_param_resp : ℕ
cal_param_resp = 16

abbrev pub cal_data_resp : ℕ
cal_data_resp = 17

abbrev pub time_sync : ℕ
time_sync = 18

abbrev pub cam_config : ℕ
cam_config = 19

abbrev pub other : ℕ
other = 20

abbrev pub tag : Message → ℕ
tag (Msg.AvrStatus s) = avr_status
tag (Msg.DspStatus s) = dsp_status
tag Msg.PiStatus = pi_status
tag (Msg.ConfigAck a) = config_ack
tag (Msg.ConfigNack a) = config_nack
tag Msg.ModeAck = mode_ack
tag Msg.Text = text
tag (Msg.ModeSet m) = mode_set
tag (Msg.ParamValue p) = param_value
tag (Msg.RadarCal c) = radar_cal
tag Msg.ConfigResp = config_resp
tag Msg.AvrConfigResp = avr_config_resp
tag (Msg.DspQueryResp r) = dsp_query_resp
tag Msg.DevInfoResp = dev_info_resp
tag Msg.ProdInfoResp = prod_info_resp
tag Msg.NetConfigResp = net_config_resp
tag Msg.CalParamResp = cal_param_resp
tag Msg.CalDataResp = cal_data_resp
tag (Msg.TimeSync t) = time_sync
tag (Msg.CamConfig c) = cam_config
tag Msg.Other = other
