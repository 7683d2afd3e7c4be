-- Settings (docs/SCOPE.md, "Settings run"): what is absent in them, the mode alone, those of a Mevo, and what a run stores of them. Definitions only.
-- Assumes nothing.
use Rattle.std.specs.Prelude.{ℕ, ◌-◌, min, Some, None, List, [], ◌∷◌, ◌++◌, ℤ, take, replicate}
use Rattle.protocol.specs.declared.ParamData.{ParamData}
use Rattle.protocol.specs.declared.ParamValue.{ParamValue}
use Rattle.settings.specs.declared.AvrSettings.{AvrSettings}
use Rattle.settings.specs.declared.MevoSettings.{MevoSettings}

-- of an absent record each field is 0, false or its type's first case
abbrev pub no_param : ParamValue
no_param = record { param_id = 0; value = ParamData.Int24 (ℤ.pos 0) }

-- no parameters, no calibration
abbrev pub mode_only : ℕ → AvrSettings
mode_only mode = record { mode = mode; params = replicate 32 no_param; len = 0; radar_cal = None }

-- ids 0x06 (Int24), 0x0F and 0x26 (Float40), in that order
abbrev pub mevo_params : MevoSettings → List ParamValue
mevo_params s =
    record { param_id = 0x06; value = ParamData.Int24 (ℤ.pos s.ball_type) }
    ∷ record { param_id = 0x0F; value = ParamData.Float40 s.track_fraction }
    ∷ record { param_id = 0x26; value = ParamData.Float40 s.tee_height_m }
    ∷ []

abbrev pub from_mevo : MevoSettings → AvrSettings
from_mevo s = record {
  mode = s.mode;
  params = mevo_params s ++ replicate 29 no_param;
  len = 3;
  radar_cal = Some s.radar_cal;
}

-- how many parameters count: `len`, and no more than there are places
abbrev pub count : ℕ → ℕ
count len = min 32 len

-- those that count, and nothing in the places after them
abbrev pub kept_params : List ParamValue → ℕ → List ParamValue
kept_params params len = take (count len) params ++ replicate (32 - count len) no_param

-- what a run stores: places past the count are empty
abbrev pub kept : AvrSettings → AvrSettings
kept s = record { mode = s.mode; params = kept_params s.params s.len; len = s.len; radar_cal = s.radar_cal }
