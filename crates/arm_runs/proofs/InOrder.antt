-- Tests that a list passes in order: one more element, one test less.
-- Assumes nothing.
use mathlib.Core.Path.{◌≡◌, refl}
use mathlib.Core.Bool.{Bool, true, false, cond, ◌&&◌, ◌||◌, true≢false}
use mathlib.Core.List.{List, [], ◌∷◌, ◌++◌}
use Rattle.sequence.specs.Events.{Envelope}
use Rattle.arm_runs.specs.Theorem.{in_order}

abbrev Test : Type 0
Test = Envelope → Bool

cond_same : (b : Bool) → cond b true false ≡ b
cond_same true = refl
cond_same false = refl

-- the empty list passes none
passes_none : (ts : List Test) (t : Test) → in_order (ts ++ t ∷ []) [] ≡ false
passes_none [] t = refl
passes_none (u ∷ us) t = refl

-- with one more envelope: it passed already, or all but the last test had been passed and this one passes it
pub snoc : (ts : List Test) (t : Test) (a : List Envelope) (e : Envelope)
    → in_order (ts ++ t ∷ []) (a ++ e ∷ []) ≡ in_order (ts ++ t ∷ []) a || (in_order ts a && t e)
snoc [] t [] e = cond_same (t e)
snoc (u ∷ us) t [] e = go (u e)
  where
    go : (b : Bool) → cond b (in_order (us ++ t ∷ []) []) false ≡ false
    go true = passes_none us t
    go false = refl
snoc [] t (x ∷ a) e = go (snoc [] t a e) (t x)
  where
    go : in_order (t ∷ []) (a ++ e ∷ []) ≡ in_order (t ∷ []) a || t e → (b : Bool)
        → cond b true (in_order (t ∷ []) (a ++ e ∷ [])) ≡ cond b true (in_order (t ∷ []) a) || t e
    go ih true = refl
    go ih false = ih
snoc (u ∷ us) t (x ∷ a) e = go (snoc us t a e) (snoc (u ∷ us) t a e) (u x)
  where
    go : in_order (us ++ t ∷ []) (a ++ e ∷ []) ≡ in_order (us ++ t ∷ []) a || (in_order us a && t e)
        → in_order (u ∷ us ++ t ∷ []) (a ++ e ∷ []) ≡ in_order (u ∷ us ++ t ∷ []) a || (in_order (u ∷ us) a && t e) → (b : Bool)
        → cond b (in_order (us ++ t ∷ []) (a ++ e ∷ [])) (in_order (u ∷ us ++ t ∷ []) (a ++ e ∷ []))
        ≡ cond b (in_order (us ++ t ∷ []) a) (in_order (u ∷ us ++ t ∷ []) a) || (cond b (in_order us a) (in_order (u ∷ us) a) && t e)
    go ih ih' true = ih
    go ih ih' false = ih'

-- who doesn't pass the first ones doesn't pass one more
pub fewer : (ts : List Test) (t : Test) (a : List Envelope) → in_order ts a ≡ false → in_order (ts ++ t ∷ []) a ≡ false
fewer [] t a h = absurd (true≢false h)
fewer (u ∷ us) t [] h = refl
fewer (u ∷ us) t (x ∷ a) h = go (u x) h (fewer us t a) (fewer (u ∷ us) t a)
  where
    go : (b : Bool) → cond b (in_order us a) (in_order (u ∷ us) a) ≡ false → (in_order us a ≡ false → in_order (us ++ t ∷ []) a ≡ false)
        → (in_order (u ∷ us) a ≡ false → in_order (u ∷ us ++ t ∷ []) a ≡ false)
        → cond b (in_order (us ++ t ∷ []) a) (in_order (u ∷ us ++ t ∷ []) a) ≡ false
    go true k f g = f k
    go false k f g = g k
