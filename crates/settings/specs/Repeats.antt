-- An id that occurs twice (docs/SCOPE.md, "Settings run"): what that is, and the test for it. Definitions only.
-- Assumes nothing.
use Rattle.std.specs.Prelude.{ℕ, ◌≡◌, ◌≢◌, ◌<◌, ◌↔◌, Bool, true, false, ◌||◌, eqb, List, [], ◌∷◌, length, get_or, take}
use Rattle.std.specs.List.{list_any}
use Rattle.protocol.specs.declared.ParamValue.{ParamValue}
use Rattle.settings.specs.declared.AvrSettings.{AvrSettings}
use Rattle.settings.specs.declared.MevoSettings.{MevoSettings}
use Rattle.settings.specs.Settings.{no_param, count, from_mevo}

-- the parameters that count
abbrev pub counted : AvrSettings → List ParamValue
counted s = take (count s.len) s.params

-- An id occurs twice: it stands in two different places of the list. The values there may be any, and of either kind.
-- (no_param is what `get_or` finds past the end of the list: nothing here looks there.)
pub record Repeats (ps : List ParamValue) : Type 0 where
  pub one : ℕ
  pub other : ℕ
  pub two_places : one ≢ other
  pub one_within : one < length ps
  pub other_within : other < length ps
  pub same_id : (get_or ps one no_param).param_id ≡ (get_or ps other no_param).param_id

-- the test: an id occurs again behind its place
abbrev pub occurs : ℕ → List ParamValue → Bool
occurs id ps = list_any (λ p. eqb p.param_id id) ps

abbrev pub repeats : List ParamValue → Bool
repeats [] = false
repeats (p ∷ ps) = occurs p.param_id ps || repeats ps

-- the test tells of every list whether an id occurs twice
abbrev pub Found : Type 0
Found = (ps : List ParamValue) → repeats ps ≡ true ↔ Repeats ps

-- no id occurs twice in the settings of a Mevo
abbrev pub MevoDiffers : Type 0
MevoDiffers = (m : MevoSettings) → repeats (counted (from_mevo m)) ≡ false
