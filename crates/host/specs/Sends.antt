-- What the sends that belong to no sequence answer to a host. Definitions only.
-- Assumes nothing.
use Rattle.std.specs.Prelude.{ℕ, List, map, ℤ, Option, None, Result, Ok, Err}
use Rattle.std.specs.Result.{result_unwrap_or}
use Rattle.protocol.specs.declared.Action.{Action}
use Rattle.protocol.specs.declared.Refusal.{Refusal}
use Rattle.device.specs.declared.model.DeviceModel.{DeviceModel}
use Rattle.device.specs.Sends as device
use Rattle.abi_values.specs.declared.UnknownNumber.{UnknownNumber}
use Rattle.abi_values.specs.Numbers.{addr_in}
use Rattle.abi_messages.specs.declared.Envelope as host
use Rattle.abi.specs.declared.action.CAction.{CAction}
use Rattle.abi.specs.Actions.{nothing, action_out}
use Rattle.sequence.specs.Events.{Envelope}
use Rattle.host.specs.declared.sends.CSent.{CSent}
use Rattle.host.specs.declared.sends.CKeepalive.{CKeepalive}

-- a number that no case has
abbrev pub unknown : ℕ
unknown = 21

-- f of what was handed in, where it is known; else z
abbrev pub known : {A R : Type 0} → Result A UnknownNumber → (A → R) → R → R
known (Ok x) f z = f x
known (Err e) f z = z

-- f of the two, where both are
abbrev pub both : {A B R : Type 0} → Result A UnknownNumber → Result B UnknownNumber → (A → B → R) → R → R
both r s f z = known r (λ x. known s (λ y. f x y) z) z

-- what an answer sends: nothing beside a refusal
abbrev pub sent : Result (Option Action) Refusal → CAction
sent o = action_out (result_unwrap_or o None)

-- the envelope that a host hands in, with these numbers of a ConfigResp
abbrev pub opened : host.Envelope → List ℤ → List ℕ → List ℕ → Envelope
opened v ps text payload = record { src = v.src; type_id = v.type_id; message = v.message; params = ps; text = text; payload = payload }

abbrev pub result_ack : DeviceModel → ℕ → ℕ → CSent
result_ack model src id =
    known (addr_in src) (λ a. record { refusal = 0; action = action_out (device.result_ack model a id) })
    (record { refusal = unknown; action = nothing })

abbrev pub keepalive_out : List (Option Action) → List CAction
keepalive_out xs = map action_out xs

abbrev pub keepalive : DeviceModel → CKeepalive
keepalive model = record { actions = keepalive_out (device.keepalive_for model) }
