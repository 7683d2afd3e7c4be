-- What a message carries, of that which a table looks at or stores. Definitions only.
-- Assumes nothing.
use Rattle.std.specs.Prelude.{[], false, ℤ, replicate}
use Rattle.std.specs.Float.{binary64}
use Rattle.std.specs.Float.Ieee.{of_bits}
use Rattle.protocol.specs.declared.CamConfig.{CamConfig}
use Rattle.protocol.specs.declared.ConfigAck.{ConfigAck}
use Rattle.protocol.specs.declared.ConfigResp.{ConfigResp}
use Rattle.protocol.specs.declared.DevInfoResp.{DevInfoResp}
use Rattle.protocol.specs.Stored.{stored}
use Rattle.protocol.specs.declared.DspStatus80.{DspStatus80}
use Rattle.protocol.specs.declared.DspStatus.{DspStatus}
use Rattle.protocol.specs.declared.AvrStatus.{AvrStatus}
use Rattle.protocol.specs.declared.DspQueryResp.{DspQueryResp}
use Rattle.protocol.specs.declared.Message.{Message}
use Rattle.protocol.specs.declared.Message.TheVariants as Msg

-- of an absent record each field is 0, false or its type's first case
abbrev pub no_ack : ConfigAck
no_ack = record { bus_addr = 0; acked_cmd = 0 }

abbrev pub no_query_resp : DspQueryResp
no_query_resp = record { version = 0; dsp_type = 0; pcb = 0 }

abbrev pub no_dsp_status80 : DspStatus80
no_dsp_status80 = record {
  state = 0;
  input_voltage_usb = ℤ.pos 0;
  system_voltage = ℤ.pos 0;
  battery_current = ℤ.pos 0;
  temperature_raw = ℤ.pos 0;
  battery_voltage = ℤ.pos 0;
  battery_voltage_2 = ℤ.pos 0;
  power_level = ℤ.pos 0;
  external_power = false;
}

abbrev pub no_dsp_status : DspStatus
no_dsp_status = DspStatus.V80 no_dsp_status80

abbrev pub no_avr_status : AvrStatus
no_avr_status = record {
  version = 0;
  state = 0;
  hw_id_hi = 0;
  hw_id_lo = 0;
  full_app_id = ℤ.pos 0;
  temperature = of_bits binary64 0;
  tilt = of_bits binary64 0;
  roll = of_bits binary64 0;
}

abbrev pub no_dev_info : DevInfoResp
no_dev_info = record { text = stored []; payload = stored [] }

abbrev pub no_config : ConfigResp
no_config = record { params = replicate 34 (ℤ.pos 0) }

abbrev pub no_cam_config : CamConfig
no_cam_config = record {
  dynamic_config = false;
  resolution_width = ℤ.pos 0;
  resolution_height = ℤ.pos 0;
  rotation = ℤ.pos 0;
  ev = ℤ.pos 0;
  quality = 0;
  framerate = 0;
  streaming_framerate = 0;
  ringbuffer_pretime_ms = ℤ.pos 0;
  ringbuffer_posttime_ms = ℤ.pos 0;
  raw_camera_mode = 0;
  fusion_camera_mode = false;
  raw_shutter_speed_max = of_bits binary64 0;
  raw_ev_roi_x = ℤ.pos 0;
  raw_ev_roi_y = ℤ.pos 0;
  raw_ev_roi_width = ℤ.pos 0;
  raw_ev_roi_height = ℤ.pos 0;
  raw_x_offset = ℤ.pos 0;
  raw_bin44 = false;
  raw_live_preview_write_interval_ms = ℤ.pos 0;
  raw_y_offset = ℤ.pos 0;
  buffer_sub_sampling_pre_trigger_div = ℤ.pos 0;
  buffer_sub_sampling_post_trigger_div = ℤ.pos 0;
  buffer_sub_sampling_switch_time_offset = of_bits binary64 0;
  buffer_sub_sampling_total_buffer_size = ℤ.pos 0;
  buffer_sub_sampling_pre_trigger_buffer_size = ℤ.pos 0;
}

-- the structs that a row looks at or stores, absent where the message is of another kind
pub record Carried : Type 0 where
  pub status : DspStatus
  pub avr : AvrStatus
  pub query : DspQueryResp
  pub ack : ConfigAck
  pub cam : CamConfig

abbrev pub nothing : Carried
nothing = record { status = no_dsp_status; avr = no_avr_status; query = no_query_resp; ack = no_ack; cam = no_cam_config }

abbrev pub acked : ConfigAck → Carried
acked a = record { status = no_dsp_status; avr = no_avr_status; query = no_query_resp; ack = a; cam = no_cam_config }

abbrev pub carried : Message → Carried
carried (Msg.AvrStatus s) = record { status = no_dsp_status; avr = s; query = no_query_resp; ack = no_ack; cam = no_cam_config }
carried (Msg.DspStatus s) = record { status = s; avr = no_avr_status; query = no_query_resp; ack = no_ack; cam = no_cam_config }
carried Msg.PiStatus = nothing
carried (Msg.ConfigAck a) = acked a
carried (Msg.ConfigNack a) = acked a
carried Msg.ModeAck = nothing
carried Msg.Text = nothing
carried (Msg.ModeSet m) = nothing
carried (Msg.ParamValue p) = nothing
carried (Msg.RadarCal c) = nothing
carried Msg.ConfigResp = nothing
carried Msg.AvrConfigResp = nothing
carried (Msg.DspQueryResp r) = record { status = no_dsp_status; avr = no_avr_status; query = r; ack = no_ack; cam = no_cam_config }
carried Msg.DevInfoResp = nothing
carried Msg.ProdInfoResp = nothing
carried Msg.NetConfigResp = nothing
carried Msg.CalParamResp = nothing
carried Msg.CalDataResp = nothing
carried (Msg.TimeSync t) = nothing
carried (Msg.CamConfig c) = record { status = no_dsp_status; avr = no_avr_status; query = no_query_resp; ack = no_ack; cam = c }
carried Msg.Other = nothing
