-- What more than one sequence stores: device infos and configurations. `env` finds the envelope in what a feed is handed. Definitions only.
-- Assumes nothing.
use Rattle.std.specs.Prelude.{Option, Some, None}
use Rattle.protocol.specs.declared.ConfigResp.{ConfigResp}
use Rattle.protocol.specs.declared.DevInfoResp.{DevInfoResp}
use Rattle.protocol.specs.Stored.{stored}
use Rattle.sequence.specs.Events.{Envelope, Event, fed, checked}

abbrev pub dev_info_in : {A : Type 0} → (A → Envelope) → Event A → Option DevInfoResp
dev_info_in env (fed a t) = Some (record { text = stored (env a).text; payload = stored (env a).payload })
dev_info_in env (checked t) = None

abbrev pub config_in : {A : Type 0} → (A → Envelope) → Event A → Option ConfigResp
config_in env (fed a t) = Some (record { params = (env a).params })
config_in env (checked t) = None
