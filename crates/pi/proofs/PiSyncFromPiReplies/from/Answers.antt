-- The result of a start-up: each field from the reply of its own name.
-- Assumes nothing.
use Rattle.std.proofs.Common.{◌≡◌, refl}
use Rattle.std.specs.Prelude.{unwrap_or}
use Rattle.protocol.specs.declared.CamConfig.{CamConfig}
use Rattle.protocol.specs.declared.DevInfoResp.{DevInfoResp}
use Rattle.protocol.specs.Carried.{no_dev_info, no_cam_config}
use Rattle.pi_table.specs.declared.PiReplies.{PiReplies}
use Rattle.pi.specs.declared.PiSync.{PiSync}
use Rattle.pi.specs.Answers.{sync_of}
use Rattle.pi.proofs.PiSyncFromPiReplies.from.Goals as goal

made : (y : PiReplies) (n d : DevInfoResp) (m k : CamConfig) → n ≡ no_dev_info → d ≡ unwrap_or y.dev_info n → m ≡ no_cam_config → k ≡ unwrap_or y.cam_config m
    → ◌≡◌ {A = PiSync} (record { dev_info = d; cam_config = k; ssid = y.ssid; password = y.password }) (sync_of y)
made y n d m k a e b f = rw (e, f, a, b) refl

pub returns : goal.returns
returns c =
    made c.args.replies c.none.result c.unwrap_or.result c.none-2.result c.unwrap_or-2.result c.none.ensures c.unwrap_or.ensures c.none-2.ensures
    c.unwrap_or-2.ensures
