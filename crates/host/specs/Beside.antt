-- What stands in a state beside a record that is told as absent. No call gives such a state, but a host may hand one in. Where an accepted call leaves
-- the record alone, and there was none before, what stood beside it goes back with it; and a result, which has no flag for every reply, has what stands
-- in the state. Definitions only.
-- Assumes nothing.
use Rattle.std.specs.Prelude.{ℕ, Bool, false, cond, eqb, not, ◌&&◌, ◌||◌}
use Rattle.abi_messages.specs.declared.CDspStatus.{CDspStatus}
use Rattle.abi_messages.specs.Messages.{dsp_status_in, dsp_status_out}
use Rattle.abi_dsp.specs.declared.CDsp.{CDsp}
use Rattle.abi_avr.specs.declared.CAvrReplies.{CAvrReplies}
use Rattle.abi_avr.specs.declared.CAvr.{CAvr}
use Rattle.abi_pi.specs.declared.CPi.{CPi}
use Rattle.abi_avr_config.specs.declared.CAvrConfig.{CAvrConfig}
use Rattle.host.specs.Sends.{known}

-- the new record if there is one, or there was one before; else what was handed in
abbrev pub beside : {A : Type 0} → Bool → A → A → A
beside there new handed = cond there new handed

-- a status with the record of its own layout alone
abbrev pub plain : CDspStatus → CDspStatus
plain c = known (dsp_status_in c) dsp_status_out c

-- has the step, which is that number, been left?
abbrev pub left : ℕ → ℕ → ℕ → Bool
left n before after = eqb before n && not (eqb after n)

-- ---- the states that go back, the new one and the one that was handed in

-- the deadline is that of a step 1 or 7, and ends with it
abbrev pub dsp_beside : CDsp → CDsp → CDsp
dsp_beside n c = record {
  step = n.step;
  status = beside (n.status.some || c.status.some) n.status (record { some = false; value = plain c.status.value; payload = c.status.payload });
  hw_info = beside (n.hw_info.some || c.hw_info.some) n.hw_info c.hw_info;
  dev_info = beside (n.dev_info.some || c.dev_info.some) n.dev_info c.dev_info;
  prod_info = n.prod_info;
  config = beside (n.config.some || c.config.some) n.config c.config;
  refused = beside (n.refused.some || c.refused.some) n.refused c.refused;
  power_mode_unanswered = n.power_mode_unanswered;
  deadline = beside ((n.deadline.some || c.deadline.some) || (left 1 c.step n.step || left 7 c.step n.step)) n.deadline c.deadline;
  last = n.last;
  ticks = n.ticks;
}

abbrev pub avr_replies_beside : CAvrReplies → CAvrReplies → CAvrReplies
avr_replies_beside n c = record {
  status = beside (n.status.some || c.status.some) n.status c.status;
  dev_info = beside (n.dev_info.some || c.dev_info.some) n.dev_info c.dev_info;
  config = beside (n.config.some || c.config.some) n.config c.config;
  factory_cal = beside (n.factory_cal.some || c.factory_cal.some) n.factory_cal c.factory_cal;
  if_cal = beside (n.if_cal.some || c.if_cal.some) n.if_cal c.if_cal;
  avr_config = beside (n.avr_config.some || c.avr_config.some) n.avr_config c.avr_config;
}

-- the deadline ends with step 8, and that a poll is to be repeated with step 0 and with step 1
abbrev pub avr_beside : CAvr → CAvr → CAvr
avr_beside n c = record {
  step = n.step;
  model = n.model;
  replies = avr_replies_beside n.replies c.replies;
  cal_deadline = beside ((n.cal_deadline.some || c.cal_deadline.some) || left 8 c.step n.step) n.cal_deadline c.cal_deadline;
  repoll_at = beside ((n.repoll_at.some || c.repoll_at.some) || (left 0 c.step n.step || left 1 c.step n.step)) n.repoll_at c.repoll_at;
  last = n.last;
  ticks = n.ticks;
}

abbrev pub pi_beside : CPi → CPi → CPi
pi_beside n c = record {
  step = n.step;
  replies = record {
    dev_info = beside (n.replies.dev_info.some || c.replies.dev_info.some) n.replies.dev_info c.replies.dev_info;
    cam_config = beside (n.replies.cam_config.some || c.replies.cam_config.some) n.replies.cam_config c.replies.cam_config;
    ssid = n.replies.ssid;
    password = n.replies.password;
  };
  ticks = n.ticks;
}

abbrev pub avr_config_beside : CAvrConfig → CAvrConfig → CAvrConfig
avr_config_beside n c = record {
  step = n.step;
  settings = record {
    mode = n.settings.mode;
    params = n.settings.params;
    len = n.settings.len;
    radar_cal = beside (n.settings.radar_cal.some || c.settings.radar_cal.some) n.settings.radar_cal c.settings.radar_cal;
  };
}
