-- Records that may be absent, and back: beside an absent one stands the empty record on the way out; on the way in what stands there is
-- not looked at. Definitions only.
-- Assumes nothing.
use Rattle.std.specs.Prelude.{ℕ, true, false, Option, Some, None}
use Rattle.std.specs.Bool.{then_some}
use Rattle.protocol.specs.declared.ConfigResp.{ConfigResp}
use Rattle.protocol.specs.declared.DevInfoResp.{DevInfoResp}
use Rattle.protocol.specs.Carried.{no_config, no_dev_info}
use Rattle.abi_values.specs.declared.options.COptionInstant.{COptionInstant}
use Rattle.abi_values.specs.declared.options.COptionDevInfoResp.{COptionDevInfoResp}
use Rattle.abi_values.specs.declared.options.COptionConfigResp.{COptionConfigResp}

abbrev pub instant_in : COptionInstant → Option ℕ
instant_in c = then_some c.some c.value

abbrev pub instant_out : Option ℕ → COptionInstant
instant_out (Some t) = record { some = true; value = t }
instant_out None = record { some = false; value = 0 }

abbrev pub dev_info_in : COptionDevInfoResp → Option DevInfoResp
dev_info_in c = then_some c.some c.value

abbrev pub dev_info_out : Option DevInfoResp → COptionDevInfoResp
dev_info_out (Some i) = record { some = true; value = i }
dev_info_out None = record { some = false; value = no_dev_info }

abbrev pub config_in : COptionConfigResp → Option ConfigResp
config_in c = then_some c.some c.value

abbrev pub config_out : Option ConfigResp → COptionConfigResp
config_out (Some c) = record { some = true; value = c }
config_out None = record { some = false; value = no_config }
