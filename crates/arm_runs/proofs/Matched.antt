-- A list has tests passed in order exactly when they can be matched as a table is: `in_order` is no second notion.
-- Assumes nothing.
use Prim.Native.Nat.{ℕ, zero, suc, ◌≤◌, ◌<◌, zero-le}
use native.Mathlib.Nat.{le_refl}
use native.Mathlib.Decide.{dec_lt}
use native.Mathlib.Omega.{arith}
use mathlib.Core.Path.{◌≡◌, refl, sym, ◌∙◌}
use mathlib.Core.Logic.{◌↔◌}
use mathlib.Core.Bool.{Bool, true, false, true≢false}
use mathlib.Core.List.{List, [], ◌∷◌, ◌++◌}
use lib.ListN.{length, get_or, drop, length-map, drop_of_length-le}
use lib.Seq.{drop-cons}
use Rattle.matching.specs.Matching.{never}
use Rattle.matching.specs.Promise.{Each}
use Rattle.matching.proofs.Machine.{Antitone, Rising, end, then, reading_of, ticks, ticked_from}
use Rattle.matching.proofs.Embeds.{length-snoc}
use Rattle.matching.proofs.Entries.{antitone_rows}
use Rattle.matching.proofs.Ticked.{ticked_all, ticked_full}
use Rattle.sequence.specs.Events.{Envelope}
use Rattle.arm_runs.specs.Theorem.{in_order, table_of, at, InOrder}

abbrev Test : Type 0
Test = Envelope → Bool

anti : (ts : List Test) → Each Antitone (table_of ts)
anti ts = antitone_rows (λ t n e. t e) (λ t n n' e h p. p) ts

rising : (r : List Envelope) → Rising at 0 r
rising [] = end
rising (e ∷ r) = then (le_refl 0) (rising r)

abbrev fails : Test
fails e = false

test_at : (ts : List Test) (k n : ℕ) (e : Envelope) → get_or (table_of ts) k never n e ≡ get_or ts k fails e
test_at [] k n e = refl
test_at (t ∷ ts) zero n e = refl
test_at (t ∷ ts) (suc k) n e = test_at ts k n e

-- the tests that are left, once es have ticked, are passed exactly when all entries tick
abbrev Left : List Test → List Envelope → List Envelope → Type 0
Left ts r es = (in_order (drop (length es) ts) r ≡ true) ↔ (length (ticked_from at (table_of ts) es r) ≡ length ts)

-- with one more envelope before the rest
step : (ts : List Test) (r es : List Envelope) (e : Envelope) → length es ≤ length ts → Left ts r es
    → (length (es ++ e ∷ []) ≤ length ts → Left ts r (es ++ e ∷ [])) → Left ts (e ∷ r) es
step ts r es e l same more = go (dec_lt (length es) (length ts))
  where
    inside : length es < length ts → (b : Bool) → get_or ts (length es) fails e ≡ b → Left ts (e ∷ r) es
    inside h true p =
        let ticks_it : ticks at (table_of ts) es e ≡ true = test_at ts (length es) (reading_of at es) e ∙ p in
        let more' : Left ts r (es ++ e ∷ []) = more (rw (length-snoc es e) h) in
        rw (ticks_it, drop-cons ts (length es) fails h, p) (rw (length-snoc es e) at more')
    inside h false p =
        let ticks_it : ticks at (table_of ts) es e ≡ false = test_at ts (length es) (reading_of at es) e ∙ p in
        rw (ticks_it, drop-cons ts (length es) fails h, p) (rw (drop-cons ts (length es) fails h) at same)

    go : Dec (length es < length ts) → Left ts (e ∷ r) es
    go (yes h) = inside h (get_or ts (length es) fails e) refl
    go (no h) =
        let all : length ts ≤ length es = omega arith in
        let full : length (table_of ts) ≤ length es = rw length-map all in
        rw (drop_of_length-le ts all, ticked_full at (table_of ts) es (e ∷ r) full) (λ p. omega arith, λ p. refl)

left : (ts : List Test) (r es : List Envelope) → length es ≤ length ts → Left ts r es
left ts [] es l = go (dec_lt (length es) (length ts))
  where
    go : Dec (length es < length ts) → (in_order (drop (length es) ts) [] ≡ true) ↔ (length es ≡ length ts)
    go (yes h) = rw (drop-cons ts (length es) fails h) (λ p. absurd (true≢false (sym p)), λ p. absurd (omega arith))
    go (no h) =
        let all : length ts ≤ length es = omega arith in
        rw (drop_of_length-le ts all) (λ p. omega arith, λ p. refl)
left ts (e ∷ r) es l = step ts r es e l (left ts r es l) (left ts r (es ++ e ∷ []))

pub in_order_iff : InOrder
in_order_iff d ts r =
    let all = ticked_all at d (table_of ts) (anti ts) r (rising r) in
    let from_First = left ts r [] zero-le in
    (λ p. all.0 (from_First.0 p ∙ sym (length-map ts _)), λ m. from_First.1 (all.1 m ∙ length-map ts _))
