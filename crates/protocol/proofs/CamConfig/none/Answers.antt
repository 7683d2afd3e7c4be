-- `CamConfig::none` meets its contract, field by field.
-- Assumes nothing.
use Rattle.std.proofs.Common.{◌≡◌, false}
use Rattle.std.specs.Prelude.{ℤ}
use Rattle.std.specs.Float.{binary64}
use Rattle.std.specs.Float.Ieee.{of_bits}
use Rattle.protocol.specs.declared.CamConfig.{CamConfig}
use Rattle.protocol.specs.Carried.{no_cam_config}
use Rattle.protocol.proofs.CamConfig.none.Goals as goal

empty : (r : CamConfig)
    → r.dynamic_config ≡ false
    → r.resolution_width ≡ ℤ.pos 0
    → r.resolution_height ≡ ℤ.pos 0
    → r.rotation ≡ ℤ.pos 0
    → r.ev ≡ ℤ.pos 0
    → r.quality ≡ 0
    → r.framerate ≡ 0
    → r.streaming_framerate ≡ 0
    → r.ringbuffer_pretime_ms ≡ ℤ.pos 0
    → r.ringbuffer_posttime_ms ≡ ℤ.pos 0
    → r.raw_camera_mode ≡ 0
    → r.fusion_camera_mode ≡ false
    → r.raw_shutter_speed_max ≡ of_bits binary64 0
    → r.raw_ev_roi_x ≡ ℤ.pos 0
    → r.raw_ev_roi_y ≡ ℤ.pos 0
    → r.raw_ev_roi_width ≡ ℤ.pos 0
    → r.raw_ev_roi_height ≡ ℤ.pos 0
    → r.raw_x_offset ≡ ℤ.pos 0
    → r.raw_bin44 ≡ false
    → r.raw_live_preview_write_interval_ms ≡ ℤ.pos 0
    → r.raw_y_offset ≡ ℤ.pos 0
    → r.buffer_sub_sampling_pre_trigger_div ≡ ℤ.pos 0
    → r.buffer_sub_sampling_post_trigger_div ≡ ℤ.pos 0
    → r.buffer_sub_sampling_switch_time_offset ≡ of_bits binary64 0
    → r.buffer_sub_sampling_total_buffer_size ≡ ℤ.pos 0
    → r.buffer_sub_sampling_pre_trigger_buffer_size ≡ ℤ.pos 0
    → record {
      dynamic_config = r.dynamic_config;
      resolution_width = r.resolution_width;
      resolution_height = r.resolution_height;
      rotation = r.rotation;
      ev = r.ev;
      quality = r.quality;
      framerate = r.framerate;
      streaming_framerate = r.streaming_framerate;
      ringbuffer_pretime_ms = r.ringbuffer_pretime_ms;
      ringbuffer_posttime_ms = r.ringbuffer_posttime_ms;
      raw_camera_mode = r.raw_camera_mode;
      fusion_camera_mode = r.fusion_camera_mode;
      raw_shutter_speed_max = r.raw_shutter_speed_max;
      raw_ev_roi_x = r.raw_ev_roi_x;
      raw_ev_roi_y = r.raw_ev_roi_y;
      raw_ev_roi_width = r.raw_ev_roi_width;
      raw_ev_roi_height = r.raw_ev_roi_height;
      raw_x_offset = r.raw_x_offset;
      raw_bin44 = r.raw_bin44;
      raw_live_preview_write_interval_ms = r.raw_live_preview_write_interval_ms;
      raw_y_offset = r.raw_y_offset;
      buffer_sub_sampling_pre_trigger_div = r.buffer_sub_sampling_pre_trigger_div;
      buffer_sub_sampling_post_trigger_div = r.buffer_sub_sampling_post_trigger_div;
      buffer_sub_sampling_switch_time_offset = r.buffer_sub_sampling_switch_time_offset;
      buffer_sub_sampling_total_buffer_size = r.buffer_sub_sampling_total_buffer_size;
      buffer_sub_sampling_pre_trigger_buffer_size = r.buffer_sub_sampling_pre_trigger_buffer_size;
    } ≡ no_cam_config
empty r h0 h1 h2 h3 h4 h5 h6 h7 h8 h9 h10 h11 h12 h13 h14 h15 h16 h17 h18 h19 h20 h21 h22 h23 h24 h25 = rw (h0, h1, h2, h3, h4, h5, h6, h7, h8, h9, h10, h11, h12, h13, h14, h15, h16, h17, h18, h19, h20, h21, h22, h23, h24, h25)

pub returns : goal.returns
returns c =
    let h = c.default.ensures in
    empty c.default.result h.0 h.1.0 h.1.1.0 h.1.1.1.0 h.1.1.1.1.0 h.1.1.1.1.1.0 h.1.1.1.1.1.1.0 h.1.1.1.1.1.1.1.0 h.1.1.1.1.1.1.1.1.0 h.1.1.1.1.1.1.1.1.1.0 h.1.1.1.1.1.1.1.1.1.1.0 h.1.1.1.1.1.1.1.1.1.1.1.0 h.1.1.1.1.1.1.1.1.1.1.1.1.0 h.1.1.1.1.1.1.1.1.1.1.1.1.1.0 h.1.1.1.1.1.1.1.1.1.1.1.1.1.1.0 h.1.1.1.1.1.1.1.1.1.1.1.1.1.1.1.0 h.1.1.1.1.1.1.1.1.1.1.1.1.1.1.1.1.0 h.1.1.1.1.1.1.1.1.1.1.1.1.1.1.1.1.1.0 h.1.1.1.1.1.1.1.1.1.1.1.1.1.1.1.1.1.1.0 h.1.1.1.1.1.1.1.1.1.1.1.1.1.1.1.1.1.1.1.0 h.1.1.1.1.1.1.1.1.1.1.1.1.1.1.1.1.1.1.1.1.0 h.1.1.1.1.1.1.1.1.1.1.1.1.1.1.1.1.1.1.1.1.1.0 h.1.1.1.1.1.1.1.1.1.1.1.1.1.1.1.1.1.1.1.1.1.1.0 h.1.1.1.1.1.1.1.1.1.1.1.1.1.1.1.1.1.1.1.1.1.1.1.0 h.1.1.1.1.1.1.1.1.1.1.1.1.1.1.1.1.1.1.1.1.1.1.1.1.0 h.1.1.1.1.1.1.1.1.1.1.1.1.1.1.1.1.1.1.1.1.1.1.1.1.1
