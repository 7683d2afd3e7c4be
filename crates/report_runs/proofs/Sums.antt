-- The waits of a start-up whose ticks rise add up to its time, and so do those of many; and no sum of waits is more than the summed time.
-- Assumes nothing.
use Prim.Native.Nat.{ℕ, zero, suc, ◌+◌, ◌-◌, ◌≤◌, ◌<◌, min}
use native.Mathlib.Nat.{le_refl}
use native.Mathlib.Decide.{dec_lt}
use native.Mathlib.Omega.{arith}
use mathlib.Core.Path.{◌≡◌, refl, sym, ap, ◌∙◌}
use mathlib.Core.Bool.{true, false}
use mathlib.Core.List.{List, [], ◌∷◌, map}
use lib.ListN.{length, get_or}
use lib.Dec.{leb}
use borrow.Author.Tests.{le-leb, lt-leb}
use Rattle.std.specs.Prelude.{sum_by}
use Rattle.std.proofs.lemmas.List.Sums.{sum_by-cons}
use Rattle.matching.specs.Promise.{Each}
use Rattle.report.specs.Report.{plus, wait_at, time, tick_numbers}
use Rattle.report_runs.specs.Theorem.{Rises}

-- ---- one start-up, t being the readings of its ticks

-- the first n
abbrev up_to : ℕ → (ℕ → ℕ) → ℕ
up_to zero f = 0
up_to (suc n) f = up_to n f + f n

-- no tick is before the first
first : (t : List ℕ) → Rises t → (k : ℕ) → k < length t → get_or t 0 0 ≤ get_or t k 0
first t h zero l = le_refl (get_or t 0 0)
first t h (suc k) l = let ih = first t h k (omega arith) in let next = h k l in omega (arith, ih, next)

-- one wait more, x being the time up to the tick before
one_more : (t : List ℕ) → Rises t → (n x : ℕ) → x ≡ get_or t (min (n + 1) (length t) - 1) 0 - get_or t 0 0
    → x + wait_at (n + 2) t ≡ get_or t (min (suc n + 1) (length t) - 1) 0 - get_or t 0 0
one_more t h n x e = go (dec_lt (suc n) (length t))
  where
    go : Dec (suc n < length t) → x + wait_at (n + 2) t ≡ get_or t (min (suc n + 1) (length t) - 1) 0 - get_or t 0 0
    go (yes l) =
        let is : leb (n + 2) (length t) ≡ true = le-leb (n + 2) (length t) (omega arith) in
        let here : n + 2 - 1 ≡ suc n = omega arith in
        let before : n + 2 - 2 ≡ n = omega arith in
        let i : min (n + 1) (length t) - 1 ≡ n = omega arith in
        let j : min (suc n + 1) (length t) - 1 ≡ suc n = omega arith in
        let low = first t h n (omega arith) in
        let up = h n l in
        let e' : x ≡ get_or t n 0 - get_or t 0 0 = e ∙ ap (λ (k : ℕ). get_or t k 0 - get_or t 0 0) i in
        rw (is, here, before, j) (omega (arith, e', low, up))
    go (no l) =
        let is : leb (n + 2) (length t) ≡ false = lt-leb (n + 2) (length t) (omega arith) in
        let i : min (n + 1) (length t) - 1 ≡ min (suc n + 1) (length t) - 1 = omega arith in
        let e' : x ≡ get_or t (min (suc n + 1) (length t) - 1) 0 - get_or t 0 0 = e ∙ ap (λ (k : ℕ). get_or t k 0 - get_or t 0 0) i in
        rw is (omega (arith, e'))

-- up to a tick number the waits are the time up to that tick, or up to the last
so_far : (t : List ℕ) → Rises t → (n : ℕ) → up_to n (λ k. wait_at (k + 2) t) ≡ get_or t (min (n + 1) (length t) - 1) 0 - get_or t 0 0
so_far t h zero = let here : min 1 (length t) - 1 ≡ 0 = omega arith in rw here (omega arith)
so_far t h (suc n) = one_more t h n (up_to n (λ k. wait_at (k + 2) t)) (so_far t h n)

-- the ticks rise, and there is a place for each wait
abbrev pub Fits : List ℕ → Type 0
Fits t = Rises t × (length t ≤ 12)

one : (t : List ℕ) → Fits t → sum_by (λ n. wait_at n t) tick_numbers ≡ time t
one t h =
    let last : min 12 (length t) - 1 ≡ length t - 1 = omega (arith, h.1) in
    so_far t h.0 11 ∙ ap (λ (k : ℕ). get_or t k 0 - get_or t 0 0) last

-- ---- many

sum_plus : (ns : List ℕ) (f g : ℕ → ℕ) → sum_by (λ n. f n + g n) ns ≡ sum_by f ns + sum_by g ns
sum_plus [] f g = refl
sum_plus (n ∷ ns) f g =
    let whole = sum_by-cons (λ n. f n + g n) n ns in
    let left = sum_by-cons f n ns in
    let right = sum_by-cons g n ns in
    let ih = sum_plus ns f g in
    whole ∙ omega (arith, left, right, ih)

pub add_up : (d : List (List ℕ)) → Each Fits d → sum_by (λ n. sum_by (wait_at n) d) tick_numbers ≡ sum_by time d
add_up [] h = refl
add_up (t ∷ d) h =
    let apart : (n : ℕ) → sum_by (wait_at n) (t ∷ d) ≡ wait_at n t + sum_by (wait_at n) d = λ n. sum_by-cons (wait_at n) t d in
    let ih = add_up d h.1 in
    let own = one t h.0 in
    let split = sum_plus tick_numbers (λ n. wait_at n t) (λ n. sum_by (wait_at n) d) in
    let all : sum_by (λ n. sum_by (wait_at n) (t ∷ d)) tick_numbers ≡ sum_by (λ n. wait_at n t + sum_by (wait_at n) d) tick_numbers =
    λ i. sum_by (λ n. apart n i) tick_numbers in
    all ∙ split ∙ ap (λ (x : ℕ). x + sum_by (λ n. sum_by (wait_at n) d) tick_numbers) own ∙ ap (λ (x : ℕ). time t + x) ih ∙ sym (sum_by-cons time t d)

-- sums that together fit in 64 bits are not cut off
pub uncut : (ns : List ℕ) (f g h : ℕ → ℕ) → ((n : ℕ) → h n ≡ f n + g n) → sum_by h ns ≤ 18_446_744_073_709_551_615
    → map (λ n. plus (f n) (g n)) ns ≡ map h ns
uncut [] f g h e l = refl
uncut (n ∷ ns) f g h e l =
    let both = sum_by-cons h n ns in
    let this = e n in
    let head : plus (f n) (g n) ≡ h n = omega (arith, both, this, l) in
    let tail = uncut ns f g h e (omega (arith, both, l)) in
    λ i. head i ∷ tail i
