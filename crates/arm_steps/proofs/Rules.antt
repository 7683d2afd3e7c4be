-- Where the two rules for the armed text differ.
-- Assumes nothing.
use mathlib.Core.Path.{◌≡◌, refl, sym, ◌∙◌}
use mathlib.Core.Logic.{◌↔◌}
use mathlib.Core.Bool.{Bool, true, false, ◌&&◌, not, true≢false}
use mathlib.Core.List.{List}
use Prim.Native.Nat.{ℕ}
use Rattle.std.specs.Prelude.{Option, Some, None, is_some}
use Rattle.device.specs.Search.{StandsAt, IsFirstPlace, first_place, contains}
use Rattle.device.proofs.Places.{is_first}
use Rattle.arm_steps.specs.Armed.{armed_bytes, behind_capital, says_armed}
use Rattle.arm_steps.specs.Answers.{cancelled_bytes, is_armed}
use Rattle.arm_steps.specs.Rules.{is_armed_in_rust, differs, Differs, Theorem}
use Rattle.arm_steps.proofs.Counted.{says_armed_iff}

-- ---- a needle stands somewhere, or nowhere

somewhere : (w s : List ℕ) → contains w s ≡ true → (i : ℕ) × StandsAt w s i
somewhere w s = go (first_place w s) (is_first w s)
  where
    go : (r : Option ℕ) → IsFirstPlace w s r → is_some r ≡ true → (i : ℕ) × StandsAt w s i
    go None f h = absurd (true≢false (sym h))
    go (Some i) f h = (i, f.0)

nowhere : (w s : List ℕ) → contains w s ≡ false → (i : ℕ) → StandsAt w s i → ⊥
nowhere w s = go (first_place w s) (is_first w s)
  where
    go : (r : Option ℕ) → IsFirstPlace w s r → is_some r ≡ false → (i : ℕ) → StandsAt w s i → ⊥
    go None f h = f
    go (Some k) f h = absurd (true≢false h)

there : (w s : List ℕ) (i : ℕ) → StandsAt w s i → contains w s ≡ true
there w s i e = go (first_place w s) (is_first w s)
  where
    go : (r : Option ℕ) → IsFirstPlace w s r → is_some r ≡ true
    go None f = absurd (f i e)
    go (Some k) f = refl

-- ---- the two rules

-- what counts stands there
stands : (s : List ℕ) → says_armed s ≡ true → contains armed_bytes s ≡ true
stands s h = let w = (says_armed_iff s).0 h in there armed_bytes s w.0 w.1.0

-- a: an occurrence counts; b: one stands there; c: cancelled
agree : (a b c : Bool) → (a ≡ true → b ≡ true) → (b && not c) && not (a && not c) ≡ false → a && not c ≡ b && not c
agree true true c k h = refl
agree true false c k h = absurd (true≢false (sym (k refl)))
agree false true true k h = refl
agree false true false k h = absurd (true≢false h)
agree false false c k h = refl

parts : (a b c : Bool) → (b && not c) && not (a && not c) ≡ true → (b ≡ true) × (c ≡ false) × (a ≡ false)
parts true true true h = absurd (true≢false (sym h))
parts true true false h = absurd (true≢false (sym h))
parts true false c h = absurd (true≢false (sym h))
parts false true true h = absurd (true≢false (sym h))
parts false true false h = (refl, refl, refl)
parts false false c h = absurd (true≢false (sym h))

module _ (s : List ℕ) where
  told : differs s ≡ true → Differs s
  told h =
      let p = parts (says_armed s) (contains armed_bytes s) (contains cancelled_bytes s) h in
      record { somewhere = somewhere armed_bytes s p.0; behind = λ i e. behind i e p.2 (behind_capital s i) refl; not_cancelled = nowhere cancelled_bytes s p.1 }
    where
      behind : (i : ℕ) → StandsAt armed_bytes s i → says_armed s ≡ false → (b : Bool) → behind_capital s i ≡ b → b ≡ true
      behind i e a true q = refl
      behind i e a false q = absurd (true≢false (sym ((says_armed_iff s).1 (i, (e, q))) ∙ a))

  so : Differs s → differs s ≡ true
  so d = rw (none_counts (says_armed s) refl, there armed_bytes s d.somewhere.0 d.somewhere.1, not_there (contains cancelled_bytes s) refl) refl
    where
      none_counts : (b : Bool) → says_armed s ≡ b → says_armed s ≡ false
      none_counts true p = let w = (says_armed_iff s).0 p in absurd (true≢false (sym (d.behind w.0 w.1.0) ∙ w.1.1))
      none_counts false p = p

      not_there : (b : Bool) → contains cancelled_bytes s ≡ b → contains cancelled_bytes s ≡ false
      not_there true p = let w = somewhere cancelled_bytes s p in absurd (d.not_cancelled w.0 w.1)
      not_there false p = p

pub rules : Theorem
rules = record {
  agree = λ s h. agree (says_armed s) (contains armed_bytes s) (contains cancelled_bytes s) (stands s) h;
  differ = λ s. (told s, so s);
}
