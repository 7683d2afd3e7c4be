-- The images of a list, place by place; and the parameters of a list, which are known if each is.
-- Assumes nothing.
use Rattle.std.proofs.Common.{◌≡◌, refl, ℕ, zero, suc, ◌<◌, length, arith, List, [], ◌∷◌, Result, Ok, Err, slice_index_or}
use mathlib.Core.List.{map}
use Rattle.std.specs.List.{AllZip}
use Rattle.protocol.specs.declared.ParamValue.{ParamValue}
use Rattle.abi_values.specs.declared.CParamValue.{CParamValue}
use Rattle.abi_values.specs.declared.UnknownNumber.{UnknownNumber}
use Rattle.abi_values.specs.Numbers.{and_then}
use Rattle.abi_values.specs.Params.{param_in}
use Rattle.abi.specs.Settings.{params_in}

pub images : {A B : Type 0} (f : A → B) (xs : List A) (ys : List B) (n : ℕ) → length xs ≡ n → length ys ≡ n
    → ((i : ℕ) (d : A) (e : B) → i < n → slice_index_or ys i e ≡ f (slice_index_or xs i d)) → ys ≡ map f xs
images f [] [] n h k at = refl
images f [] (y ∷ ys) n h k at = absurd (omega arith)
images f (x ∷ xs) [] n h k at = absurd (omega arith)
images f (x ∷ xs) (y ∷ ys) zero h k at = absurd (omega arith)
images f (x ∷ xs) (y ∷ ys) (suc n) h k at =
    rw (at 0 x y (omega arith), images f xs ys n (omega arith) (omega arith) (λ i d e m. at (suc i) d e (omega arith)))

pub all_in : (R : CParamValue → ParamValue → Type 0) → ((p : CParamValue) (q : ParamValue) → R p q → param_in p ≡ Ok q)
    → (ps : List CParamValue) (qs : List ParamValue) → AllZip R ps qs → params_in ps ≡ Ok qs
all_in R f [] [] h = refl
all_in R f [] (q ∷ qs) h = elim h [ ]
all_in R f (p ∷ ps) [] h = elim h [ ]
all_in R f (p ∷ ps) (q ∷ qs) h = rw (f p q h.0, all_in R f ps qs h.1)

pub one_unknown : (ps : List CParamValue) (i : ℕ) (d : CParamValue) (e : UnknownNumber) → i < length ps → param_in (slice_index_or ps i d) ≡ Err e
    → params_in ps ≡ Err e
one_unknown [] i d e h k = absurd (omega arith)
one_unknown (p ∷ ps) zero d e h k = rw k
one_unknown (p ∷ ps) (suc i) d e h k = go (param_in p) (one_unknown ps i d e (omega arith) k)
  where
    go : (r : Result ParamValue UnknownNumber) → params_in ps ≡ Err e → and_then r (λ q. and_then (params_in ps) (λ qs. Ok (q ∷ qs))) ≡ Err e
    go (Ok q) m = rw m
    go (Err u) m = refl
