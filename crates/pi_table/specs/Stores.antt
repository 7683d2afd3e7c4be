-- What a Pi start-up stores: what is absent, what an event leaves in a field, which entry stores which field; and its sends.
-- Definitions only.
-- Assumes nothing.
use Rattle.std.specs.Prelude.{ℕ, ◌+◌, Bool, cond, [], eqb, take, drop, Option, Some, None}
use Rattle.protocol.specs.declared.BusAddr.{BusAddr}
use Rattle.protocol.specs.declared.CamConfig.{CamConfig}
use Rattle.protocol.specs.declared.Stored.{Stored}
use Rattle.protocol.specs.declared.Command.{Command}
use Rattle.protocol.specs.declared.Action.{Action}
use Rattle.protocol.specs.Action.{send_to}
use Rattle.protocol.specs.Carried.{carried}
use Rattle.protocol.specs.Stored.{stored}
use Rattle.net_config.specs.Zero.{first_zero}
use Rattle.requests.specs.Requests as requests
use Rattle.sequence.specs.Events.{Envelope, Event, fed, checked, kind}
use Rattle.sequence.specs.Replies.{dev_info_in}
use Rattle.pi_table.specs.declared.PiReplies.{PiReplies}

-- ---- what is absent

abbrev pub no_replies : PiReplies
no_replies = record { dev_info = None; cam_config = None; ssid = stored []; password = stored [] }

-- ---- what an event leaves in a field

-- a message of this kind from the Pi
abbrev pub from_pi : ℕ → Envelope → Bool
from_pi k e = kind 0x12 k e

abbrev pub cam_config_in : Event Envelope → Option CamConfig
cam_config_in (fed e t) = Some (carried e.message).cam
cam_config_in (checked t) = None

-- the network text: before its first zero byte the ssid, all after it the password
abbrev pub ssid_in : Event Envelope → Stored
ssid_in (fed e t) = stored (take (first_zero e.text) e.text)
ssid_in (checked t) = stored []

abbrev pub password_in : Event Envelope → Stored
password_in (fed e t) = stored (drop (first_zero e.text + 1) e.text)
password_in (checked t) = stored []

-- ---- which entry stores which field: y, once e has ticked the entry number k

abbrev pub store : ℕ → Event Envelope → PiReplies → PiReplies
store k e y = record {
  dev_info = cond (eqb k 2) (dev_info_in (λ v. v) e) y.dev_info;
  cam_config = cond (eqb k 5) (cam_config_in e) y.cam_config;
  ssid = cond (eqb k 7) (ssid_in e) y.ssid;
  password = cond (eqb k 7) (password_in e) y.password;
}

-- ---- sends

abbrev pub to_pi : Command → Action
to_pi c = send_to BusAddr.Pi c

abbrev pub param_read_req : ℕ → Action
param_read_req id = requests.param_read_req id BusAddr.Pi
