-- What `says_armed` means: it is true exactly where an occurrence of "ARMED" counts. And where an occurrence stands in what is left of a text.
-- Assumes nothing.
use Rattle.std.proofs.Common.{◌≡◌, refl, sym, ap, ◌∙◌, ◌↔◌, ℕ, zero, suc, ◌<◌, ◌≤◌, ◌+◌, ◌-◌, Bool, true, false, not, ◌&&◌, ◌||◌, List, [], ◌∷◌, length, take, drop, get_or, arith, IsTrue}
use Rattle.std.specs.Prelude.{Option, Some, None, is_some}
use mathlib.Core.Bool.{true≢false}
use native.Mathlib.Decide.{dec_lt, ℕ_discrete}
use lib.Seq.{take_all}
use lib.ListN.{length-take, length-drop}
use Rattle.std.proofs.lemmas.List.{drop-drop}
use Rattle.device.specs.Search.{StandsAt, IsFirstPlace, begins, first_place}
use Rattle.device.proofs.Places.{begins_stands, stands_begins, is_first}
use Rattle.arm_steps.specs.Armed.{armed_bytes, is_capital, behind_capital, CountsAt, armed_in, says_armed}

-- the byte before place i is a capital letter, that before the start being one if b is true
abbrev before : Bool → List ℕ → ℕ → Bool
before b s zero = b
before b s (suc i) = is_capital (get_or s i 0)

before_next : (b : Bool) (x : ℕ) (s : List ℕ) (i : ℕ) → before b (x ∷ s) (suc i) ≡ before (is_capital x) s i
before_next b x s zero = refl
before_next b x s (suc i) = refl

before_start : (s : List ℕ) (i : ℕ) → before false s i ≡ behind_capital s i
before_start s zero = refl
before_start s (suc i) = refl

found : (b : Bool) (s : List ℕ) → armed_in b s ≡ true → (i : ℕ) × StandsAt armed_bytes s i × (before b s i ≡ false)
found b [] h = absurd (true≢false (sym h))
found b (x ∷ s) h = go (begins armed_bytes (x ∷ s)) refl b refl (found (is_capital x) s)
  where
    Found : Type 0
    Found = (i : ℕ) × StandsAt armed_bytes (x ∷ s) i × (before b (x ∷ s) i ≡ false)

    later : (armed_in (is_capital x) s ≡ true → (i : ℕ) × StandsAt armed_bytes s i × (before (is_capital x) s i ≡ false))
        → armed_in (is_capital x) s ≡ true → Found
    later ih e = let w = ih e in (suc w.0, w.1, before_next b x s w.0 ∙ w.2)

    go : (t : Bool) → begins armed_bytes (x ∷ s) ≡ t → (c : Bool) → b ≡ c
        → (armed_in (is_capital x) s ≡ true → (i : ℕ) × StandsAt armed_bytes s i × (before (is_capital x) s i ≡ false)) → Found
    go true p false q ih = (0, begins_stands armed_bytes (x ∷ s) p, q)
    go true p true q ih = later ih (rw (p, q) at h)
    go false p c q ih = later ih (rw p at h)

counts : (b : Bool) (s : List ℕ) (i : ℕ) → StandsAt armed_bytes s i → before b s i ≡ false → armed_in b s ≡ true
counts b [] zero e h = absurd cc
counts b [] (suc i) e h = absurd cc
counts b (x ∷ s) zero e h = rw (stands_begins armed_bytes (x ∷ s) e, h) refl
counts b (x ∷ s) (suc i) e h = go (begins armed_bytes (x ∷ s) && not b) (counts (is_capital x) s i e (sym (before_next b x s i) ∙ h))
  where
    go : (t : Bool) → armed_in (is_capital x) s ≡ true → t || armed_in (is_capital x) s ≡ true
    go true q = refl
    go false q = q

-- the test says that an occurrence counts
pub says_armed_iff : (s : List ℕ) → (says_armed s ≡ true) ↔ ((i : ℕ) × CountsAt s i)
says_armed_iff s = (
  λ h. let w = found false s h in (w.0, (w.1, sym (before_start s w.0) ∙ w.2)),
  λ w. counts false s w.0 w.1.0 (before_start s w.0 ∙ w.1.1),
)

-- ---- an occurrence in what is left of a text from a place on, as a slice has it

rest : (s : List ℕ) (n : ℕ) → take (length s - n) (drop n s) ≡ drop n s
rest s n = take_all (length s - n) (drop n s) (rw (length-drop n s) (omega arith))

left_stands : (w s : List ℕ) (n k i : ℕ) → n + k ≡ i → StandsAt w (take (length s - n) (drop n s)) k → StandsAt w s i
left_stands w s n k i h e = rw (← h, ← drop-drop k n s) (rw (rest s n) at e)

stands_left : (w s : List ℕ) (n k i : ℕ) → n + k ≡ i → StandsAt w s i → StandsAt w (take (length s - n) (drop n s)) k
stands_left w s n k i h e = rw (rest s n, drop-drop k n s, h) e

-- no place below n counts, and from n on "ARMED" stands nowhere: no place counts
pub none_left : (s : List ℕ) (n : ℕ) → ((i : ℕ) → i < n → CountsAt s i → ⊥)
    → ((k : ℕ) → StandsAt armed_bytes (take (length s - n) (drop n s)) k → ⊥) → (i : ℕ) → CountsAt s i → ⊥
none_left s n below left i w = go (dec_lt i n)
  where
    go : Dec (i < n) → ⊥
    go (yes l) = below i l w
    go (no l) = left (i - n) (stands_left armed_bytes s n (i - n) i (omega arith) w.0)

-- the first place from n on stands behind a capital letter: no place up to it counts
pub passed_by : (s : List ℕ) (n at : ℕ) → ((i : ℕ) → i < n → CountsAt s i → ⊥)
    → ((k : ℕ) → k < at → StandsAt armed_bytes (take (length s - n) (drop n s)) k → ⊥) → behind_capital s (n + at) ≡ true
    → (i : ℕ) → i < n + at + 1 → CountsAt s i → ⊥
passed_by s n at below between behind i l w = go (dec_lt i n) (ℕ_discrete i (n + at))
  where
    go : Dec (i < n) → Dec (i ≡ n + at) → ⊥
    go (yes m) d = below i m w
    go (no m) (yes e) = true≢false (sym behind ∙ ap (behind_capital s) (sym e) ∙ w.1)
    go (no m) (no e) = between (i - n) (omega arith) (stands_left armed_bytes s n (i - n) i (omega arith) w.0)

-- an occurrence lies in the text
pub inside : (s : List ℕ) (n at : ℕ) → StandsAt armed_bytes (take (length s - n) (drop n s)) at → n + at + 1 ≤ length s
inside s n at e = omega (arith, simp (length-take, length-drop) at (ap length e))

-- a place from n on that counts
pub counted : (s : List ℕ) (n at : ℕ) → StandsAt armed_bytes (take (length s - n) (drop n s)) at → behind_capital s (n + at) ≡ false → CountsAt s (n + at)
counted s n at e h = (left_stands armed_bytes s n at (n + at) refl e, h)

-- the test and the meaning of an answer say the same
pub decides : (s : List ℕ) (b : Bool) → (IsTrue b ↔ ((i : ℕ) × CountsAt s i)) → b ≡ says_armed s
decides s true h = sym ((says_armed_iff s).1 (h.0 refl))
decides s false h = go (says_armed s) refl
  where
    go : (t : Bool) → says_armed s ≡ t → false ≡ t
    go false p = refl
    go true p = h.1 ((says_armed_iff s).0 p)
