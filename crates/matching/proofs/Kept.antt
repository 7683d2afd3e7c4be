-- What is kept of each tick, proved once: for any `Called` sequencer that keeps something of each event that ticked.
-- Assumes nothing.
use mathlib.Core.Path.{◌≡◌, refl, sym, ap, subst, ◌∙◌}
use mathlib.Core.Logic.{◌↔◌}
use mathlib.Core.Bool.{true}
use mathlib.Core.List.{List, [], ◌∷◌, ◌++◌, map}
use Prim.Native.Nat.{ℕ, zero, suc, ◌≤◌, ◌<◌}
use native.Mathlib.Nat.{le_refl, le_of_eq, le_of_lt}
use native.Mathlib.Decide.{dec_lt}
use native.Mathlib.Omega.{arith}
use lib.ListN.{length, get_or, take, drop, take-append-drop}
use lib.Seq.{length-take-le, get_or-take, take-take}
use Rattle.matching.specs.Matching.{Table, never, before, Matching}
use Rattle.matching.specs.Promise.{Each, after_all, events, Matched, SoFar, Keeps, AnswersSoFar}
use Rattle.matching.proofs.Machine.{Antitone, ticked, leftmost}
use Rattle.matching.proofs.Leftmost.{leftmost_earliest}
use Rattle.matching.proofs.Ticked.{ticked_all, ticked-length, ticked_earliest, ticked_part}
use Rattle.matching.proofs.Called.{Called, called, run_rises}

-- the first of a table's entries
each_take : {A : Type 0} (P : A → Type 0) (n : ℕ) (l : List A) → Each P l → Each P (take n l)
each_take P zero l h = tt
each_take P (suc n) [] h = tt
each_take P (suc n) (x ∷ l) h = (h.0, each_take P n l h.1)

map_map : {A B C : Type 0} (f : B → C) (g : A → B) (l : List A) → map f (map g l) ≡ map (λ x. f (g x)) l
map_map f g [] = refl
map_map f g (x ∷ l) = ap (f (g x) ∷◌) (map_map f g l)

module _ {E : Type 0} {at : E → ℕ} {d : E} {T : Table E} {r : List E} where
  -- a matching of a table is, up to there, one of its first entries
  matching_take : {ps : List ℕ} (n : ℕ) → n ≤ length T → Matching at d T r ps → Matching at d (take n T) r (take n ps)
  matching_take {ps} n h m =
      let long : length (take n ps) ≡ n = length-take-le n ps (omega (arith, m.one)) in
      record {
        one = long ∙ sym (length-take-le n T h);
        rise = λ k l. rw (get_or-take n ps k 0 (omega arith), get_or-take n ps (suc k) 0 (omega arith)) (m.rise k (omega (arith, m.one)));
        inside = λ k l. rw (get_or-take n ps k 0 (omega arith)) (m.inside k (omega (arith, m.one)));
        passes = λ k l. passes k (omega (arith, length-take-le n T h));
      }
    where
      same : (k : ℕ) → k < n → before at d r (take n ps) k ≡ before at d r ps k
      same zero l = refl
      same (suc k) l = ap (λ p. at (get_or r p d)) (get_or-take n ps k 0 (omega arith))

      passes : (k : ℕ) → k < n → get_or (take n T) k never (before at d r (take n ps) k) (get_or r (get_or (take n ps) k 0) d) ≡ true
      passes k l = rw (get_or-take n T k never l, get_or-take n ps k 0 l, same k l) (m.passes k (omega arith))

module _ {E S C X : Type 0} {at : E → ℕ} {T : Table E} {after : S → C → S} {event : ℕ → C → List E} {state_of : List E → ℕ → X → S}
    {extra : List E → ℕ → X → C → X} (nil : E) (anti : Each Antitone T) (m : Called at T after event state_of extra) (x : X) (cs : List C) where
  abbrev r : List E
  r = events at event 0 cs

  abbrev es : List E
  es = ticked at T r

  abbrev M : ℕ → Type 0
  M n = Matched at nil event (state_of [] 0 x) after (take n T) cs

  short : length es ≤ length T
  short = ticked-length at T r

  -- entries enough for all that ticked tick as the whole table does
  part : (n : ℕ) → n ≤ length T → length es ≤ n → ticked at (take n T) r ≡ es
  part n h l =
      subst (λ U. length (ticked at U r) ≤ length (take n T) → ticked at (take n T) r ≡ ticked at U r) (take-append-drop n T)
      (ticked_part at (take n T) (drop n T) [] r) (omega (arith, length-take-le n T h))

  all : (n : ℕ) → (length (ticked at (take n T) r) ≡ length (take n T)) ↔ M n
  all n = ticked_all at nil (take n T) (each_take Antitone n T anti) r (run_rises m cs)

  -- as many as have ticked can be matched
  there : M (length es)
  there = (all (length es)).0 (ap length (part (length es) short (le_refl (length es))) ∙ sym (length-take-le (length es) T short))

  -- and no more
  no_more : (n : ℕ) → length es < n → n ≤ length T → M n → ⊥
  no_more n l h w =
      omega (arith, (all n).1 w, length-take-le n T h, ap length (part n h (le_of_lt l)))

  fewer : (n : ℕ) → suc n ≤ length es → M (suc n)
  fewer n l =
      let long : suc n ≤ length (take (length es) T) = omega (arith, length-take-le (length es) T short) in
      (take (suc n) there.0, subst (λ U. Matching at nil U r (take (suc n) there.0)) (take-take (suc n) (length es) T l) (matching_take (suc n) long there.1))

  as_many : (n : ℕ) (ps : List ℕ) → SoFar at nil event (state_of [] 0 x) after T cs n ps → n ≡ length es
  as_many n ps s = go (dec_lt n (length es)) (dec_lt (length es) n)
    where
      go : Dec (n < length es) → Dec (length es < n) → n ≡ length es
      go (yes l) b = absurd (s.last (omega (arith, short)) (fewer n l))
      go (no l) (yes k) = absurd (no_more n k s.inside (ps, s.first.matching))
      go (no l) (no k) = omega arith

  -- as many as have ticked, where they have
  pub so_far : SoFar at nil event (state_of [] 0 x) after T cs (length es) (leftmost at (take (length es) T) r)
  so_far = record {
    inside = short;
    first = leftmost_earliest (each_take Antitone (length es) T anti) (run_rises m cs) there.0 there.1;
    last = λ l w. no_more (suc (length es)) (le_refl (suc (length es))) l w;
  }

  pub keeps : {K : Type 0} (kept : S → List K) (of : E → K)
      → ((es : List E) (t : ℕ) (y : X) → length es ≤ length T → kept (state_of es t y) ≡ map of es)
      → Keeps at nil event (state_of [] 0 x) after T kept of cs
  keeps kept of is =
      record {
        some = (length es, leftmost at (take (length es) T) r, so_far);
        each = λ n ps s.
            let ticks : es ≡ map (λ p. get_or r p nil) ps =
            sym (part n s.inside (le_of_eq (sym (as_many n ps s)))) ∙ ticked_earliest at nil (take n T) (each_take Antitone n T anti) (run_rises m cs) s.first in
            ap kept (called m x cs) ∙ is es _ _ short ∙ ap (map of) ticks ∙ map_map of (λ p. get_or r p nil) ps;
      }

-- two sequencers that agree after a list of calls keep the same
pub same_keeps : {E S C : Type 0} {at : E → ℕ} {nil : E} {event : ℕ → C → List E} {new : S} {after after' : S → C → S} (T : Table E) (cs : List C)
    {K : Type 0} (kept : S → List K) (of : E → K) → after_all after new cs ≡ after_all after' new cs
    → Keeps at nil event new after' T kept of cs → Keeps at nil event new after T kept of cs
same_keeps T cs kept of h w = record {
  some = (w.some.0, w.some.1, record { inside = w.some.2.inside; first = w.some.2.first; last = w.some.2.last });
  each = λ n ps s. ap kept h ∙ w.each n ps (record { inside = s.inside; first = s.first; last = s.last });
}

-- what is kept after each beginning of a list is what a call answers by that is made then
pub answers_so_far : {E S C : Type 0} {at : E → ℕ} {nil : E} {event : ℕ → C → List E} {new : S} {after : S → C → S} {T : Table E} {cs : List C}
    {Y K : Type 0} (c : C) (answer : S → Y) (kept : S → List K) (of : E → K) (ready : List K → Y) → ((s : S) → answer s ≡ ready (kept s))
    → ((pre post : List C) → cs ≡ pre ++ post → Keeps at nil event new after T kept of pre)
    → AnswersSoFar at nil event new after T c answer of ready cs
answers_so_far {new = new} {after = after} c answer kept of ready is k = record {
  some = λ pre post e. (k pre (c ∷ post) e).some;
  each = λ pre post e n ps s. is (after_all after new pre) ∙ ap ready ((k pre (c ∷ post) e).each n ps s);
}
