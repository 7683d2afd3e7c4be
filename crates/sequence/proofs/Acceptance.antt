-- A call is accepted exactly where no number applies; and what an accepted call tells of its reading and its bytes.
-- Assumes nothing.
use mathlib.Core.Path.{◌≡◌, refl, sym, ap}
use mathlib.Core.Bool.{Bool, true, false, not, ◌&&◌, true≢false}
use mathlib.Core.List.{List, [], ◌∷◌, ◌++◌}
use Prim.Native.Nat.{ℕ, ◌≤◌, ◌<◌}
use native.Mathlib.Omega.{arith}
use lib.Dec.{ltb}
use lib.ListN.{length}
use borrow.Author.Tests.{ltb-false}
use Rattle.protocol.specs.Refusals.{Applies, outcome, lowest}
use Rattle.protocol.specs.declared.Refusal.{Refusal}
use Rattle.std.specs.Prelude.{Result, Ok, Err}
use Rattle.protocol.proofs.Numbers.{Rises, end, then, gives_lowest}
use Rattle.sequence.specs.Accepted.{applies, none, bytes_refusals, check_refusals, feed_refusals, result_refusals}
use Rattle.sequence.specs.Lowest.{Theorem}

abbrev pub accepted : Result (Unit {0}) Refusal → Bool
accepted (Ok u) = true
accepted (Err r) = false

-- by the tests of 3 and 11, and of 1 and 2 before them
check_numbers : (b c : Bool) → accepted (outcome (lowest (applies 3 b ∷ applies 11 c ∷ []))) ≡ none (applies 3 b ∷ applies 11 c ∷ [])
check_numbers true c = refl
check_numbers false true = refl
check_numbers false false = refl

feed_numbers : (a b : Bool) (l : List Applies) → accepted (outcome (lowest l)) ≡ none l
    → accepted (outcome (lowest (applies 1 a ∷ applies 2 b ∷ l))) ≡ none (applies 1 a ∷ applies 2 b ∷ l)
feed_numbers true b l h = refl
feed_numbers false true l h = refl
feed_numbers false false l h = h

pub check_accepted : (last t : ℕ) → accepted (outcome (lowest (check_refusals last t))) ≡ none (check_refusals last t)
check_accepted last t = check_numbers (ltb 18_446_744_071_709_551_615 t) (ltb t last)

pub feed_accepted : (x y : List ℕ) (last t : ℕ) → accepted (outcome (lowest (feed_refusals x y last t))) ≡ none (feed_refusals x y last t)
feed_accepted x y last t = feed_numbers (ltb 256 (length x)) (ltb 256 (length y)) (check_refusals last t) (check_accepted last t)

pub bytes_accepted : (x y : List ℕ) → accepted (outcome (lowest (bytes_refusals x y))) ≡ none (bytes_refusals x y)
bytes_accepted x y = feed_numbers (ltb 256 (length x)) (ltb 256 (length y)) [] refl

-- ---- the bytes are judged first

pub bytes_first : (x y : List ℕ) (l : List Applies) (r : Refusal) → outcome (lowest (bytes_refusals x y)) ≡ Err r
    → outcome (lowest (bytes_refusals x y ++ l)) ≡ Err r
bytes_first x y l r h = go (ltb 256 (length x)) (ltb 256 (length y)) h
  where
    go : (a b : Bool) → outcome (lowest (applies 1 a ∷ applies 2 b ∷ [])) ≡ Err r → outcome (lowest (applies 1 a ∷ applies 2 b ∷ l)) ≡ Err r
    go true b k = k
    go false true k = k
    go false false k = absurd (true≢false (ap accepted k))

pub bytes_pass : (x y : List ℕ) (l : List Applies) → outcome (lowest (bytes_refusals x y)) ≡ Ok tt
    → outcome (lowest (bytes_refusals x y ++ l)) ≡ outcome (lowest l)
bytes_pass x y l h = go (ltb 256 (length x)) (ltb 256 (length y)) h
  where
    go : (a b : Bool) → outcome (lowest (applies 1 a ∷ applies 2 b ∷ [])) ≡ Ok tt → outcome (lowest (applies 1 a ∷ applies 2 b ∷ l)) ≡ outcome (lowest l)
    go true b k = absurd (true≢false (sym (ap accepted k)))
    go false true k = absurd (true≢false (sym (ap accepted k)))
    go false false k = refl

-- ---- what none says

first : (a b : Bool) → not a && b ≡ true → (a ≡ false) × (b ≡ true)
first true b h = absurd (true≢false (sym h))
first false b h = (refl, h)

-- what an accepted check tells of its reading
pub record InTime (last t : ℕ) : Type 0 where
  pub small : t ≤ 18_446_744_071_709_551_615
  pub later : last ≤ t

pub check_fits : (last t : ℕ) → none (check_refusals last t) ≡ true → InTime last t
check_fits last t h =
    let limit = first (ltb 18_446_744_071_709_551_615 t) (none (applies 11 (ltb t last) ∷ [])) h in
    record { small = ltb-false 18_446_744_071_709_551_615 t limit.0; later = ltb-false t last (first (ltb t last) true limit.1).0 }

-- what an accepted feed tells of its bytes and its reading
pub record Fits (x y : List ℕ) (last t : ℕ) : Type 0 where
  pub text : length x ≤ 256
  pub payload : length y ≤ 256
  pub time : InTime last t

pub feed_fits : (x y : List ℕ) (last t : ℕ) → none (feed_refusals x y last t) ≡ true → Fits x y last t
feed_fits x y last t h =
    let text = first (ltb 256 (length x)) (none (applies 2 (ltb 256 (length y)) ∷ check_refusals last t)) h in
    let payload = first (ltb 256 (length y)) (none (check_refusals last t)) text.1 in
    record { text = ltb-false 256 (length x) text.0; payload = ltb-false 256 (length y) payload.0; time = check_fits last t payload.1 }

-- ---- the numbers of each list rise, so the one given is the lowest

check_rise : (last t n : ℕ) → n < 3 → Rises n (check_refusals last t)
check_rise last t n h = let eleven : 3 < 11 = omega arith in then h (then eleven end)

feed_rise : (x y : List ℕ) (last t : ℕ) → Rises 0 (feed_refusals x y last t)
feed_rise x y last t =
    let one : 0 < 1 = omega arith in
    let two : 1 < 2 = omega arith in
    then one (then two (check_rise last t 2 (omega arith)))

bytes_rise : (x y : List ℕ) → Rises 0 (bytes_refusals x y)
bytes_rise x y =
    let one : 0 < 1 = omega arith in
    let two : 1 < 2 = omega arith in
    then one (then two end)

result_rise : (done : Bool) → Rises 0 (result_refusals done)
result_rise done = let twelve : 0 < 12 = omega arith in then twelve end

pub lowest_given : Theorem
lowest_given = record {
  bytes = λ x y. gives_lowest (bytes_rise x y);
  feed = λ x y last t. gives_lowest (feed_rise x y last t);
  check = λ last t. gives_lowest (check_rise last t 0 (omega arith));
  result = λ done. gives_lowest (result_rise done);
}
