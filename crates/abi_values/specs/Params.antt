-- A parameter with its format as a number, and back: 0 is Int24, 1 Float40. A format that there is not is not known. Definitions only.
-- Assumes nothing.
use Rattle.std.specs.Prelude.{ℕ, cond, eqb, Result, Ok, ℤ}
use Rattle.std.specs.Float.{binary64}
use Rattle.std.specs.Float.Ieee.{of_bits}
use Rattle.protocol.specs.declared.ParamData.{ParamData}
use Rattle.protocol.specs.declared.ParamValue.{ParamValue}
use Rattle.abi_values.specs.declared.CParamValue.{CParamValue}
use Rattle.abi_values.specs.declared.UnknownNumber.{UnknownNumber}
use Rattle.abi_values.specs.Numbers.{unknown}

abbrev pub param_in : CParamValue → Result ParamValue UnknownNumber
param_in p =
    cond (eqb p.format 0) (Ok (record { param_id = p.param_id; value = ParamData.Int24 p.int24 }))
    (cond (eqb p.format 1) (Ok (record { param_id = p.param_id; value = ParamData.Float40 p.float40 }))
    unknown)

abbrev pub param_as : ℕ → ParamData → CParamValue
param_as id (ParamData.Int24 i) = record { param_id = id; format = 0; int24 = i; float40 = of_bits binary64 0 }
param_as id (ParamData.Float40 f) = record { param_id = id; format = 1; int24 = ℤ.pos 0; float40 = f }

abbrev pub param_out : ParamValue → CParamValue
param_out p = param_as p.param_id p.value
