-- What a Pi start-up has stored goes out, field by field.
-- Assumes nothing.
use Rattle.std.proofs.Common.{◌≡◌, refl, ap}
use Rattle.std.specs.Prelude.{Option, Some, None}
use Rattle.std.specs.Option.{is_some, unwrap_or}
use Rattle.protocol.specs.declared.CamConfig.{CamConfig}
use Rattle.protocol.specs.Carried.{no_cam_config}
use Rattle.pi_table.specs.declared.PiReplies.{PiReplies}
use Rattle.abi_values.specs.Options.{dev_info_out}
use Rattle.abi_pi.specs.declared.COptionCamConfig.{COptionCamConfig}
use Rattle.abi_pi.specs.declared.CPiReplies.{CPiReplies}
use Rattle.abi_pi.specs.State.{cam_config_out, replies_out}
use Rattle.abi_pi.proofs.CPiRepliesFromPiReplies.from.Goals as goal

abbrev told : PiReplies → COptionCamConfig → CPiReplies
told y c = record { dev_info = dev_info_out y.dev_info; cam_config = c; ssid = y.ssid; password = y.password }

camera : (o : Option CamConfig) → record { some = is_some o; value = unwrap_or o no_cam_config } ≡ cam_config_out o
camera None = refl
camera (Some c) = refl

whole : (y : PiReplies) → told y (record { some = is_some y.cam_config; value = unwrap_or y.cam_config no_cam_config }) ≡ replies_out y
whole y = ap (told y) (camera y.cam_config)

pub returns : goal.returns
returns c = rw (c.into.ensures, c.is_some.ensures, c.unwrap_or.ensures, c.none.ensures) (whole c.args.replies)
