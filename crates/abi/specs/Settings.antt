-- Settings with their parameters as numbers, and back: all 32 places, counted or not. Beside an absent calibration stands one of zeros on
-- the way out; on the way in what stands there is not looked at. Definitions only.
-- Assumes nothing.
use Rattle.std.specs.Prelude.{true, false, Option, Some, None, Result, Ok, List, [], ◌∷◌, map}
use Rattle.std.specs.Bool.{then_some}
use Rattle.protocol.specs.declared.ParamValue.{ParamValue}
use Rattle.protocol.specs.declared.RadarCal.{RadarCal}
use Rattle.settings.specs.declared.AvrSettings.{AvrSettings}
use Rattle.abi_values.specs.declared.CParamValue.{CParamValue}
use Rattle.abi_values.specs.declared.UnknownNumber.{UnknownNumber}
use Rattle.abi_values.specs.Numbers.{and_then}
use Rattle.abi_values.specs.Params.{param_in, param_out}
use Rattle.abi.specs.declared.config.COptionRadarCal.{COptionRadarCal}
use Rattle.abi.specs.declared.config.CSettings.{CSettings}

abbrev pub radar_cal_in : COptionRadarCal → Option RadarCal
radar_cal_in c = then_some c.some c.value

abbrev pub radar_cal_out : Option RadarCal → COptionRadarCal
radar_cal_out (Some c) = record { some = true; value = c }
radar_cal_out None = record { some = false; value = record { range_mm = 0; height_mm = 0 } }

-- known if the format of each is
abbrev pub params_in : List CParamValue → Result (List ParamValue) UnknownNumber
params_in [] = Ok []
params_in (p ∷ ps) = and_then (param_in p) (λ q. and_then (params_in ps) (λ qs. Ok (q ∷ qs)))

abbrev pub params_out : List ParamValue → List CParamValue
params_out ps = map param_out ps

abbrev pub settings_in : CSettings → Result AvrSettings UnknownNumber
settings_in s = and_then (params_in s.params) (λ ps. Ok (record { mode = s.mode; params = ps; len = s.len; radar_cal = radar_cal_in s.radar_cal }))

abbrev pub settings_out : AvrSettings → CSettings
settings_out s = record { mode = s.mode; params = params_out s.params; len = s.len; radar_cal = radar_cal_out s.radar_cal }
