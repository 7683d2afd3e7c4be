-- The model that a device info names, and what a model has (docs/SCOPE.md, "Model and single sends", and the tables of DSP and AVR). Definitions only.
-- Assumes nothing.
use Rattle.std.specs.Prelude.{Bool, true, false, not, cond, ◌&&◌, List, ℕ, Option, Some, None, codes}
use Rattle.std.specs.Option.{option_or}
use Rattle.device.specs.Search.{contains, first_place}
use Rattle.protocol.specs.declared.DevInfoResp.{DevInfoResp}
use Rattle.protocol.specs.Stored.{content}
use Rattle.device.specs.declared.model.DeviceModel.{DeviceModel}

-- ---- the models that have a name, each by its three facts

abbrev pub mevo : DeviceModel
mevo = record { camera = true; factory_cal = true; power_mode = false }

abbrev pub xi : DeviceModel
xi = record { camera = false; factory_cal = false; power_mode = true }

-- the practice rig: a Mevo without a camera
abbrev pub rig : DeviceModel
rig = record { camera = false; factory_cal = true; power_mode = false }

-- ---- which of them a payload names

abbrev pub xi_tag : List ℕ
xi_tag = codes "FS Xi"

abbrev pub rig_tag : List ℕ
rig_tag = codes "BAY RIG"

-- a Xi has its tag somewhere in its payload, whatever else stands there; else the rig has its own; every other unit is a Mevo
abbrev pub model_of : List ℕ → DeviceModel
model_of payload = cond (contains xi_tag payload) xi (cond (contains rig_tag payload) rig mevo)

-- the model that a stored device info names, Mevo before there is one
abbrev pub model_in : Option DevInfoResp → DeviceModel
model_in (Some i) = model_of (content i.payload)
model_in None = mevo

-- ---- the place of the tag that decided it

-- of a Xi's tag, if it stands in the payload; else of the rig's, if that does
abbrev pub tag_place : List ℕ → Option ℕ
tag_place payload = option_or (first_place xi_tag payload) (first_place rig_tag payload)

abbrev pub tag_place_in : Option DevInfoResp → Option ℕ
tag_place_in (Some i) = tag_place (content i.payload)
tag_place_in None = None

-- ---- what decides

-- a camera, and so a Pi
abbrev pub has_camera : DeviceModel → Bool
has_camera m = m.camera

-- the AVR's entries 8 and 10 to 12
abbrev pub has_factory_cal : DeviceModel → Bool
has_factory_cal m = m.factory_cal

-- the DSP's entry 8
abbrev pub has_power_mode : DeviceModel → Bool
has_power_mode m = m.power_mode

-- a Xi's three facts, and no others: what result acknowledgements go by
abbrev pub is_xi : DeviceModel → Bool
is_xi m = not m.camera && not m.factory_cal && m.power_mode
