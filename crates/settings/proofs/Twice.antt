-- The test tells whether an id occurs twice.
-- Assumes nothing.
use Rattle.std.proofs.Common.{ℕ, zero, suc, ◌<◌, ◌≡◌, ◌≢◌, refl, sym, ap, ◌∙◌, arith, Bool, true, false, ◌||◌, eqb, eqb-true, eq-eqb, List, [], ◌∷◌, length, get_or, ◌⊎◌, inl, inr}
use Rattle.std.proofs.lemmas.Bool.{true≢false, cases_order}
use Rattle.std.proofs.lemmas.List.{get_or_default}
use Rattle.std.proofs.lemmas.List.Folds.{Any-from_list_any, list_any_at}
use Rattle.protocol.specs.declared.ParamValue.{ParamValue}
use Rattle.settings.specs.Settings.{no_param}
use Rattle.settings.specs.Repeats.{Repeats, Found, occurs, repeats}

apart : (i j : ℕ) → i ≢ j → (i < j) ⊎ (j < i)
apart i j n = elim (cases_order i j) [ inl e ↦ absurd (n e) | inr o ↦ o ]

-- one of the list has the id
abbrev In : ℕ → List ParamValue → Type 0
In id ps = (k : ℕ) × (k < length ps) × ((get_or ps k no_param).param_id ≡ id)

occurs_in : (id : ℕ) (ps : List ParamValue) → occurs id ps ≡ true → In id ps
occurs_in id ps h =
    let w = Any-from_list_any (λ p. eqb p.param_id id) ps h in
    (w.0, w.2, ap (λ p. p.param_id) (get_or_default ps w.0 no_param w.1 w.2 ∙ w.3) ∙ eqb-true _ id w.4)

in_occurs : (id : ℕ) (ps : List ParamValue) → In id ps → occurs id ps ≡ true
in_occurs id ps w = list_any_at (λ p. eqb p.param_id id) ps w.0 no_param w.1 (eq-eqb _ id w.2)

-- a place more in front
behind : {p : ParamValue} {ps : List ParamValue} → Repeats ps → Repeats (p ∷ ps)
behind r = record {
  one = suc r.one;
  other = suc r.other;
  two_places = λ e. r.two_places (omega (arith, e));
  one_within = omega (arith, r.one_within);
  other_within = omega (arith, r.other_within);
  same_id = r.same_id;
}

in_front : {p : ParamValue} {ps : List ParamValue} → In p.param_id ps → Repeats (p ∷ ps)
in_front w = record {
  one = 0;
  other = suc w.0;
  two_places = λ e. omega (arith, e);
  one_within = omega arith;
  other_within = omega (arith, w.1);
  same_id = sym w.2;
}

or_parts : (a b : Bool) → (a || b) ≡ true → (a ≡ true) ⊎ (b ≡ true)
or_parts true b h = inl refl
or_parts false b h = inr h

or_either : (a b : Bool) → (a ≡ true) ⊎ (b ≡ true) → (a || b) ≡ true
or_either true b h = refl
or_either false b h = elim h [ inl e ↦ absurd (true≢false (sym e)) | inr e ↦ e ]

there : (ps : List ParamValue) → repeats ps ≡ true → Repeats ps
there [] h = absurd (true≢false (sym h))
there (p ∷ ps) h = elim (or_parts (occurs p.param_id ps) (repeats ps) h) [ inl a ↦ in_front (occurs_in p.param_id ps a) | inr b ↦ behind (there ps b) ]

abbrev id_at : List ParamValue → ℕ → ℕ
id_at ps k = (get_or ps k no_param).param_id

-- the place in front
told : (ps : List ParamValue) (i j : ℕ) → i < j → j < length ps → id_at ps i ≡ id_at ps j → repeats ps ≡ true
told [] i j l w e = absurd (omega (arith, w))
told (p ∷ ps) i zero l w e = absurd (omega (arith, l))
told (p ∷ ps) zero (suc j) l w e = or_either (occurs p.param_id ps) (repeats ps) (inl (in_occurs p.param_id ps (j, omega (arith, w), sym e)))
told (p ∷ ps) (suc i) (suc j) l w e = or_either (occurs p.param_id ps) (repeats ps) (inr (told ps i j (omega (arith, l)) (omega (arith, w)) e))

from_places : (ps : List ParamValue) → Repeats ps → repeats ps ≡ true
from_places ps r = elim (apart r.one r.other r.two_places) [
  | inl l ↦ told ps r.one r.other l r.other_within r.same_id
  | inr l ↦ told ps r.other r.one l r.one_within (sym r.same_id)
]

pub found : Found
found ps = (there ps, from_places ps)
