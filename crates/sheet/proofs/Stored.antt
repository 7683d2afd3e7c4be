-- Ticks that are stored one by one are those of the list, as far as there is room.
-- Assumes nothing.
use Rattle.std.proofs.Common.{◌≡◌, refl, sym, ap, ◌∙◌, Bool, true, false, cond, map, suc, ◌+◌, ◌-◌, ◌≤◌, List, [], ◌∷◌, ◌++◌, ltb, length, take, min, replicate, arith, append_assoc, length-append}
use borrow.Author.Tests.{ltb-true, ltb-false}
use lib.ListN.{set}
use lib.Seq.{take_at, take_all}
use Rattle.std.proofs.lemmas.List.{set_at, length-replicate, take-append-le, map-append}
use Rattle.sheet.specs.declared.Tick.{Tick}
use Rattle.sheet.specs.Ticks.{no_tick, stored, with_tick, then_tick, kept}

-- with nothing in the places after them they fill the 16
full : (ts : List Tick) → length ts ≤ 16 → take 16 (ts ++ replicate (16 - length ts) no_tick) ≡ ts ++ replicate (16 - length ts) no_tick
full ts h = take_all 16 (ts ++ replicate (16 - length ts) no_tick) (rw (length-append, length-replicate) (omega arith))

-- the ticks that there are, of those that were stored
pub kept_stored : (ts : List Tick) → length ts ≤ 16 → kept (stored ts) ≡ ts
kept_stored ts h =
    let few : min 16 (min 16 (length ts)) ≡ length ts = omega arith in
    ap (take (min 16 (min 16 (length ts)))) (full ts h) ∙ take_at ts (replicate (16 - length ts) no_tick) (min 16 (min 16 (length ts))) (sym few)

-- one more
pub one_more : (ts : List Tick) (k : Tick) → with_tick (stored ts) k ≡ stored (ts ++ k ∷ [])
one_more ts k = go (ltb (length ts) 16) refl
  where
    go : (b : Bool) → ltb (length ts) 16 ≡ b → with_tick (stored ts) k ≡ stored (ts ++ k ∷ [])
    go true p =
        let h = ltb-true (length ts) 16 p in
        let long : length (ts ++ k ∷ []) ≡ length ts + 1 = length-append ts (k ∷ []) in
        let room : 16 - length ts ≡ suc (15 - length ts) = omega arith in
        let left : 16 - length (ts ++ k ∷ []) ≡ 15 - length ts = omega (arith, long) in
        let few : min 16 (length ts) ≡ length ts = omega arith in
        let more : min 16 (length (ts ++ k ∷ [])) ≡ length ts + 1 = omega (arith, long) in
        let placed : set (ts ++ replicate (16 - length ts) no_tick) (length ts) k ≡ (ts ++ k ∷ []) ++ replicate (16 - length (ts ++ k ∷ [])) no_tick =
        rw (room, left, append_assoc) (set_at ts no_tick (replicate (15 - length ts) no_tick) k (length ts) refl) in
        rw (full ts (omega arith), full (ts ++ k ∷ []) (omega (arith, long)), few, more, p, placed) refl
    go false p =
        let h = ltb-false (length ts) 16 p in
        let few : min 16 (length ts) ≡ 16 = omega arith in
        let more : min 16 (length (ts ++ k ∷ [])) ≡ 16 = omega (arith, length-append ts (k ∷ [])) in
        let this : take 16 (ts ++ replicate (16 - length ts) no_tick) ≡ take 16 ts = take-append-le 16 ts _ h in
        let other : take 16 ((ts ++ k ∷ []) ++ replicate (16 - length (ts ++ k ∷ [])) no_tick) ≡ take 16 ts =
        take-append-le 16 (ts ++ k ∷ []) _ (omega (arith, length-append ts (k ∷ []))) ∙ take-append-le 16 ts (k ∷ []) h in
        rw (few, more, this, other) refl

-- what an event leaves of those that `of` takes of events: one more if it ticks
pub next : {E : Type 0} (of : E → Tick) (es : List E) (e : E) (b : Bool)
    → then_tick (stored (map of es)) b (of e) ≡ stored (map of (cond b (es ++ e ∷ []) es))
next of es e true = one_more (map of es) (of e) ∙ ap stored (sym (map-append of es (e ∷ [])))
next of es e false = refl
