-- What an AVR start-up stores: what an event leaves in a field, which entry stores which field; and its sends.
-- Definitions only.
-- Assumes nothing.
use Rattle.std.specs.Prelude.{ℕ, Bool, false, cond, ◌||◌, eqb, Option, Some, None}
use Rattle.protocol.specs.declared.BusAddr.{BusAddr}
use Rattle.protocol.specs.declared.Action.{Action}
use Rattle.protocol.specs.declared.AvrConfigResp.{AvrConfigResp}
use Rattle.protocol.specs.declared.AvrStatus.{AvrStatus}
use Rattle.protocol.specs.declared.CalDataResp.{CalDataResp}
use Rattle.protocol.specs.declared.CalParamResp.{CalParamResp}
use Rattle.protocol.specs.Carried.{carried}
use Rattle.protocol.specs.Stored.{stored}
use Rattle.requests.specs.Requests as requests
use Rattle.sequence.specs.Events.{Envelope, Event, fed, checked, kind}
use Rattle.sequence.specs.Replies.{dev_info_in, config_in}
use Rattle.avr_table.specs.declared.AvrReplies.{AvrReplies}

-- what a feed is handed: an envelope, and the wall seconds
pub record Dated : Type 0 where
  pub envelope : Envelope
  pub wall : ℕ

abbrev pub env : Dated → Envelope
env d = d.envelope

-- what the rows work on: the replies, and when a refused poll is sent again
pub record Held : Type 0 where
  pub replies : AvrReplies
  pub repoll : Option ℕ

-- no reply has come
abbrev pub no_replies : AvrReplies
no_replies = record { status = None; dev_info = None; config = None; factory_cal = None; if_cal = None; avr_config = None }

-- ---- what an event leaves in a field

-- a message of this kind from the Avr
abbrev pub from_avr : ℕ → Dated → Bool
from_avr k d = kind 0x30 k d.envelope

abbrev pub status_in : Event Dated → Option AvrStatus
status_in (fed d t) = Some (carried d.envelope.message).avr
status_in (checked t) = None

-- a check leaves the two calibrations as they were
abbrev pub factory_cal_in : Event Dated → Option CalDataResp → Option CalDataResp
factory_cal_in (fed d t) c = Some (record { payload = stored d.envelope.payload })
factory_cal_in (checked t) c = c

abbrev pub if_cal_in : Event Dated → Option CalParamResp → Option CalParamResp
if_cal_in (fed d t) c = Some (record { payload = stored d.envelope.payload })
if_cal_in (checked t) c = c

abbrev pub avr_config_in : Event Dated → Option AvrConfigResp
avr_config_in (fed d t) = Some (record { payload = stored d.envelope.payload })
avr_config_in (checked t) = None

-- ---- which entry stores which field: y, once e has ticked the entry number k. The two statuses clear the repoll.

abbrev pub store : ℕ → Event Dated → Held → Held
store k e y = record {
  replies = record {
    status = cond (eqb k 1 || eqb k 2) (status_in e) y.replies.status;
    dev_info = cond (eqb k 3 || eqb k 4) (dev_info_in env e) y.replies.dev_info;
    config = cond (eqb k 7) (config_in env e) y.replies.config;
    factory_cal = cond (eqb k 8) (factory_cal_in e y.replies.factory_cal) y.replies.factory_cal;
    if_cal = cond (eqb k 9) (if_cal_in e y.replies.if_cal) y.replies.if_cal;
    avr_config = cond (eqb k 10) (avr_config_in e) y.replies.avr_config;
  };
  repoll = cond (eqb k 1 || eqb k 2) None y.repoll;
}

-- ---- sends

abbrev pub status_poll : Action
status_poll = requests.status_poll false BusAddr.Avr

abbrev pub param_read_req : ℕ → Action
param_read_req id = requests.param_read_req id BusAddr.Avr

abbrev pub wall_in : Event Dated → ℕ
wall_in (fed d t) = d.wall
wall_in (checked t) = 0
