-- What is promised of a sequencer holds of one that has it inside, and calls it at each of its own calls.
-- Assumes nothing.
use Prim.Native.Nat.{ℕ, ◌-◌}
use mathlib.Core.Path.{◌≡◌, refl, sym, ap, subst, subst⁻¹, ◌∙◌}
use mathlib.Core.Bool.{Bool, true, false, cond}
use mathlib.Core.List.{List, [], ◌∷◌, ◌++◌, map}
use lib.Dec.{ltb}
use lib.ListN.{length, get_or}
use Rattle.std.proofs.lemmas.List.{map-append}
use Rattle.matching.specs.Matching.{Table, Matching, Earliest}
use Rattle.matching.specs.Promise.{after_all, clock, events, since, Matched, First, tick, Ends, Answers, SoFar, AnswersSoFar}

-- f: what a call is to the one inside, g: its state
module _ {E S C S' C' : Type 0} (at : E → ℕ) (nil : E) (event' : ℕ → C' → List E) (new : S) (after : S → C → S) (new' : S') (after' : S' → C' → S')
    (T : Table E) (f : C → C') (g : S → S') (follows : (cs : List C) → g (after_all after new cs) ≡ after_all after' new' (map f cs)) where
  abbrev event : ℕ → C → List E
  event t c = event' t (f c)

  pub run_same : (t : ℕ) (cs : List C) → events at event t cs ≡ events at event' t (map f cs)
  run_same t [] = refl
  run_same t (c ∷ cs) = ap (event t c ++◌) (run_same (clock at t (event t c)) cs)

  since_same : (t p : ℕ) (cs : List C) → map f (since at event t p cs) ≡ since at event' t p (map f cs)
  since_same t p [] = refl
  since_same t p (c ∷ cs) = go (since_same (clock at t (event t c)) (p - length (event t c)) cs) (ltb p (length (event t c)))
    where
      go : map f (since at event (clock at t (event t c)) (p - length (event t c)) cs) ≡ since at event' (clock at t (event t c)) (p - length (event t c)) (map f cs)
          → (b : Bool)
          → map f (cond b cs (since at event (clock at t (event t c)) (p - length (event t c)) cs))
          ≡ cond b (map f cs) (since at event' (clock at t (event t c)) (p - length (event t c)) (map f cs))
      go ih true = refl
      go ih false = ih

  module _ (U : Table E) (cs : List C) where
    pub matched_to : Matched at nil event new after U cs → Matched at nil event' new' after' U (map f cs)
    matched_to w = (w.0, subst (λ (r : List E). Matching at nil U r w.0) (run_same 0 cs) w.1)

    pub matched_from : Matched at nil event' new' after' U (map f cs) → Matched at nil event new after U cs
    matched_from w = (w.0, subst⁻¹ (λ (r : List E). Matching at nil U r w.0) (run_same 0 cs) w.1)

    pub first_to : {ps : List ℕ} → First at nil event new after U cs ps → First at nil event' new' after' U (map f cs) ps
    first_to {ps} w = subst (λ (r : List E). Earliest at nil U r ps) (run_same 0 cs) w

    pub first_from : {ps : List ℕ} → First at nil event' new' after' U (map f cs) ps → First at nil event new after U cs ps
    first_from {ps} w = subst⁻¹ (λ (r : List E). Earliest at nil U r ps) (run_same 0 cs) w

  pub ends : (Done : S' → Type 0) (cs : List C) → Ends at nil event' new' after' T Done (map f cs) → Ends at nil event new after T (λ s. Done (g s)) cs
  ends Done cs w =
      record {
        done = (λ h. matched_from T cs (w.done.0 (subst Done (follows cs) h)), λ k. subst⁻¹ Done (follows cs) (w.done.1 (matched_to T cs k)));
        first = λ k. let q = w.first (matched_to T cs k) in (q.0, first_from T cs q.1);
      }

  split : {cs : List C} (pre : List C) (c : C) (post : List C) → cs ≡ pre ++ c ∷ post → map f cs ≡ map f pre ++ f c ∷ map f post
  split pre c post e = ap (map f) e ∙ map-append f pre (c ∷ post)

  pub answers : {Y : Type 0} (c : C) (answer : S' → Y) (early : Y) (ready : List C' → (ℕ → E) → Y) (cs : List C)
      → Answers at nil event' new' after' T (f c) answer early ready (map f cs)
      → Answers at nil event new after T c (λ s. answer (g s)) early (λ later is. ready (map f later) is) cs
  answers c answer early ready cs w =
      record {
        before = λ pre post e un. ap answer (follows pre) ∙ w.before (map f pre) (map f post) (split pre c post e) (λ k. un (matched_from T pre k));
        from = λ pre post e k ps h.
            ap answer (follows pre) ∙ w.from (map f pre) (map f post) (split pre c post e) (matched_to T pre k) ps (first_to T cs h)
            ∙ ap (λ (l : List C'). ready l (tick at nil event' new' after' (map f cs) ps)) (sym (since_same 0 (get_or ps (length T - 1) 0) pre))
            ∙ ap (λ (r : List E). ready (map f (since at event 0 (get_or ps (length T - 1) 0) pre)) (λ k. get_or (map (λ p. get_or r p nil) ps) (k - 1) nil)) (sym (run_same 0 cs));
      }

  module _ (cs : List C) {n : ℕ} {ps : List ℕ} where
    so_far_to : SoFar at nil event new after T cs n ps → SoFar at nil event' new' after' T (map f cs) n ps
    so_far_to w = record { inside = w.inside; first = first_to _ cs w.first; last = λ l k. w.last l (matched_from _ cs k) }

    so_far_from : SoFar at nil event' new' after' T (map f cs) n ps → SoFar at nil event new after T cs n ps
    so_far_from w = record { inside = w.inside; first = first_from _ cs w.first; last = λ l k. w.last l (matched_to _ cs k) }

  pub answers_so_far : {Y K : Type 0} (c : C) (answer : S' → Y) (of : E → K) (ready : List K → Y) (cs : List C)
      → AnswersSoFar at nil event' new' after' T (f c) answer of ready (map f cs)
      → AnswersSoFar at nil event new after T c (λ s. answer (g s)) of ready cs
  answers_so_far c answer of ready cs w =
      record {
        some = λ pre post e. let q = w.some (map f pre) (map f post) (split pre c post e) in (q.0, q.1, so_far_from pre q.2);
        each = λ pre post e n ps h.
            ap answer (follows pre) ∙ w.each (map f pre) (map f post) (split pre c post e) n ps (so_far_to pre h)
            ∙ ap (λ (r : List E). ready (map (λ p. of (get_or r p nil)) ps)) (sym (run_same 0 pre));
      }
