-- The place that `tag_place` gives is that of the tag that decides the model. Definitions only.
-- Assumes nothing.
use Rattle.std.specs.Prelude.{◌≡◌, ℕ, List, Some, None}
use Rattle.device.specs.Search.{IsFirstPlace}
use Rattle.device.specs.Model.{xi_tag, rig_tag, xi, rig, mevo, model_of, tag_place}

-- it is the place of the first w in the payload
abbrev pub PlaceOf : List ℕ → List ℕ → Type 0
PlaceOf w payload = (i : ℕ) × (tag_place payload ≡ Some i) × IsFirstPlace w payload (Some i)

-- of a Xi's tag on a Xi, of the rig's on a rig; on a Mevo there is none
pub record Theorem : Type 0 where
  pub on_a_xi : (payload : List ℕ) → model_of payload ≡ xi → PlaceOf xi_tag payload
  pub on_a_rig : (payload : List ℕ) → model_of payload ≡ rig → PlaceOf rig_tag payload
  pub on_a_mevo : (payload : List ℕ) → model_of payload ≡ mevo → tag_place payload ≡ None
