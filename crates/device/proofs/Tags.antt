-- The place of the tag that decides the model.
-- Assumes nothing.
use mathlib.Core.Path.{◌≡◌, refl, sym, ap, ◌∙◌, subst⁻¹}
use mathlib.Core.Bool.{Bool, true, false, cond, true≢false}
use mathlib.Core.List.{List}
use Prim.Native.Nat.{ℕ}
use Rattle.std.specs.Prelude.{Option, Some, None, is_some}
use Rattle.std.specs.Option.{option_or}
use Rattle.device.specs.declared.model.DeviceModel.{DeviceModel}
use Rattle.device.specs.Search.{IsFirstPlace, first_place}
use Rattle.device.specs.Model.{xi_tag, rig_tag, xi, rig, mevo, model_of, tag_place}
use Rattle.device.specs.Tag.{PlaceOf, Theorem}
use Rattle.device.proofs.Places.{is_first}

-- the model and the place, by where the two tags stand first
abbrev model_by : Option ℕ → Option ℕ → DeviceModel
model_by a b = cond (is_some a) xi (cond (is_some b) rig mevo)

module _ (p : List ℕ) where
  on_a_xi : (a b : Option ℕ) → IsFirstPlace xi_tag p a → model_by a b ≡ xi → (i : ℕ) × (option_or a b ≡ Some i) × IsFirstPlace xi_tag p (Some i)
  on_a_xi (Some i) b f h = (i, refl, f)
  on_a_xi None (Some j) f h = absurd (true≢false (ap (λ (m : DeviceModel). m.factory_cal) h))
  on_a_xi None None f h = absurd (true≢false (ap (λ (m : DeviceModel). m.factory_cal) h))

  on_a_rig : (a b : Option ℕ) → IsFirstPlace rig_tag p b → model_by a b ≡ rig → (i : ℕ) × (option_or a b ≡ Some i) × IsFirstPlace rig_tag p (Some i)
  on_a_rig (Some i) b f h = absurd (true≢false (sym (ap (λ (m : DeviceModel). m.factory_cal) h)))
  on_a_rig None (Some j) f h = (j, refl, f)
  on_a_rig None None f h = absurd (true≢false (ap (λ (m : DeviceModel). m.camera) h))

  on_a_mevo : (a b : Option ℕ) → model_by a b ≡ mevo → option_or a b ≡ None
  on_a_mevo (Some i) b h = absurd (true≢false (sym (ap (λ (m : DeviceModel). m.camera) h)))
  on_a_mevo None (Some j) h = absurd (true≢false (sym (ap (λ (m : DeviceModel). m.camera) h)))
  on_a_mevo None None h = refl

pub decides : Theorem
decides = record {
  on_a_xi = λ p. on_a_xi p (first_place xi_tag p) (first_place rig_tag p) (is_first xi_tag p);
  on_a_rig = λ p. on_a_rig p (first_place xi_tag p) (first_place rig_tag p) (is_first rig_tag p);
  on_a_mevo = λ p. on_a_mevo p (first_place xi_tag p) (first_place rig_tag p);
}
