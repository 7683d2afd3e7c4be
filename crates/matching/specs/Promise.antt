-- WHAT IS PROMISED of a sequencer that is called, over every list of its calls (docs/SCOPE.md, "Ticking"). Said once, for any table and any kind
-- of call; a sequence says which table, and what which call answers. Definitions only.
-- Assumes nothing.
use Rattle.std.specs.Prelude.{◌≡◌, ◌↔◌, cond, List, [], ◌∷◌, ◌++◌, map, ℕ, suc, ◌-◌, ◌≤◌, ◌<◌, ltb, length, get_or, take}
use Rattle.matching.specs.Matching.{Table, Matching, Earliest}

-- P holds of each element.
abbrev pub Each : {A : Type 0} → (A → Type 0) → List A → Type 0
Each P [] = Unit {0}
Each P (x ∷ xs) = P x × Each P xs

-- The state after these calls, from s: each call gets the state that the one before left.
abbrev pub after_all : {S C : Type 0} → (S → C → S) → S → List C → S
after_all after s [] = s
after_all after s (c ∷ cs) = after_all after (after s c) cs

-- The reading of a run's last event, t if it has none.
abbrev pub clock : {E : Type 0} → (E → ℕ) → ℕ → List E → ℕ
clock at t [] = t
clock at t (e ∷ r) = clock at (at e) r

-- E: events, with their reading; C: calls. `event t c` is what the call c is, t being the last reading: one event, or none.
module _ {E C : Type 0} (at : E → ℕ) (event : ℕ → C → List E) where
  -- The run of these calls: the events that they are, in their order, t being the last reading before.
  abbrev pub events : ℕ → List C → List E
  events t [] = []
  events t (c ∷ cs) = event t c ++ events (clock at t (event t c)) cs

  -- The calls after the one whose event has position p in the run.
  abbrev pub since : ℕ → ℕ → List C → List C
  since t p [] = []
  since t p (c ∷ cs) = cond (ltb p (length (event t c))) cs (since (clock at t (event t c)) (p - length (event t c)) cs)

-- S: states. nil stands past the end of a run: nothing here looks there.
module _ {E S C : Type 0} (at : E → ℕ) (nil : E) (event : ℕ → C → List E) (new : S) (after : S → C → S) where
  abbrev pub state : List C → S
  state cs = after_all after new cs

  abbrev pub run : List C → List E
  run cs = events at event 0 cs

  -- The table can be matched (ticked off) over the run of these calls.
  abbrev pub Matched : Table E → List C → Type 0
  Matched T cs = (ps : List ℕ) × Matching at nil T (run cs) ps

  abbrev pub First : Table E → List C → List ℕ → Type 0
  First T cs ps = Earliest at nil T (run cs) ps

  -- The event at the position of the entry number k, counted from 1, among the positions ps of the run.
  abbrev pub tick : List C → List ℕ → ℕ → E
  tick cs ps k = get_or (map (λ p. get_or (run cs) p nil) ps) (k - 1) nil

  -- Done exactly when the table can be matched; and then there is an earliest matching.
  pub record Ends (T : Table E) (Done : S → Type 0) (cs : List C) : Type 0 where
    pub done : Done (state cs) ↔ Matched T cs
    pub first : Matched T cs → (ps : List ℕ) × First T cs ps

  -- Each call c of the list answers `early` while the table can't be matched over the calls before it, and `ready` from then on: by the
  -- earliest matching over the run of the WHOLE list, and by the calls between the tick of the last entry and this one.
  pub record Answers {Y : Type 0} (T : Table E) (c : C) (answer : S → Y) (early : Y) (ready : List C → (ℕ → E) → Y) (cs : List C) : Type 0 where
    pub before : (pre post : List C) → cs ≡ pre ++ c ∷ post → (Matched T pre → ⊥) → answer (state pre) ≡ early
    pub from : (pre post : List C) → cs ≡ pre ++ c ∷ post → Matched T pre → (ps : List ℕ) → First T cs ps
        → answer (state pre) ≡ ready (since at event 0 (get_or ps (length T - 1) 0) pre) (tick cs ps)

  -- The first n entries can be matched, and no more; the earliest such matching is at the positions ps.
  pub record SoFar (T : Table E) (cs : List C) (n : ℕ) (ps : List ℕ) : Type 0 where
    pub inside : n ≤ length T
    pub first : First (take n T) cs ps
    pub last : n < length T → Matched (take (suc n) T) cs → ⊥

  -- What is kept of the ticks so far: for each entry that can be matched, what `of` takes of the event at its position; and nothing else.
  pub record Keeps (T : Table E) {K : Type 0} (kept : S → List K) (of : E → K) (cs : List C) : Type 0 where
    pub some : (n : ℕ) × (ps : List ℕ) × SoFar T cs n ps
    pub each : (n : ℕ) (ps : List ℕ) → SoFar T cs n ps → kept (state cs) ≡ map (λ p. of (get_or (run cs) p nil)) ps

  -- Each call c of the list answers, whenever it is made, by the ticks before it: by what `of` takes of the event at each of their positions.
  pub record AnswersSoFar {Y K : Type 0} (T : Table E) (c : C) (answer : S → Y) (of : E → K) (ready : List K → Y) (cs : List C) : Type 0 where
    pub some : (pre post : List C) → cs ≡ pre ++ c ∷ post → (n : ℕ) × (ps : List ℕ) × SoFar T pre n ps
    pub each : (pre post : List C) → cs ≡ pre ++ c ∷ post → (n : ℕ) (ps : List ℕ) → SoFar T pre n ps
        → answer (state pre) ≡ ready (map (λ p. of (get_or (run pre) p nil)) ps)
