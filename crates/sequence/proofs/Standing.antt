-- The state of any sequence that goes by rows is a function of the events that ticked and of what else it holds; and each accepted event
-- moves it by one row, or leaves it. Proved once; what discharges `Called` of a sequence.
-- Assumes nothing.
use mathlib.Core.Path.{◌≡◌, refl, sym, ap, ◌∙◌}
use mathlib.Core.Logic.{◌↔◌}
use mathlib.Core.Bool.{Bool, true, false, cond, true≢false}
use mathlib.Core.List.{List, [], ◌∷◌, ◌++◌, map}
use Prim.Native.Nat.{ℕ, zero, suc, ◌+◌, ◌≤◌, ◌<◌}
use native.Mathlib.Nat.{add-zero, add-suc, suc-add, zero-add, not-suc-le-zero, le_of_suc-le-suc, le_refl}
use native.Mathlib.Decide.{dec_lt}
use native.Mathlib.Omega.{arith}
use lib.Dec.{leb}
use lib.ListN.{length, get_or, length-map, get_or-eq_default}
use borrow.Author.Tests.{leb-true, leb-false, le-leb, lt-leb}
use Rattle.matching.specs.Matching.{Table, never}
use Rattle.matching.specs.Promise.{Each}
use Rattle.matching.proofs.Machine as machine
use Rattle.matching.proofs.Embeds.{length-snoc, reading-snoc}
use Rattle.matching.proofs.Leftmost.{ticks_inside}
use Rattle.matching.proofs.Entries.{antitone_rows, each_at}
use Rattle.std.specs.Prelude.{Option, Some, None}
use Rattle.sequence.specs.Events.{Event, fed, checked, reading, Wait, forever, nanos, over}
use Rattle.sequence.specs.Rows.{Row, test, past, State, deadline_at, due, passes, deadline_after, idle, ticked, heard}

-- ---- a wait and its deadline

-- the deadline of a row with this wait, the row before being ticked at t
abbrev pub deadline_of : Wait → ℕ → Option ℕ
deadline_of forever t = None
deadline_of (nanos n) t = deadline_at t n

-- at a deadline of its own a row is due when its wait is over
due_over : (w : Wait) (t u : ℕ) → u ≤ 18_446_744_073_709_551_615 → due w (deadline_of w t) u ≡ over w t u
due_over forever t u h = refl
due_over (nanos n) t u h = go (leb (t + n) 18_446_744_073_709_551_615) refl
  where
    go : (b : Bool) → leb (t + n) 18_446_744_073_709_551_615 ≡ b
        → due (nanos n) (cond b (Some (t + n)) None) u ≡ leb (t + n) u
    go true p = refl
    go false p = sym (lt-leb (t + n) u (omega (arith, leb-false (t + n) 18_446_744_073_709_551_615 p)))

passes_test : {A Y : Type 0} (r : Row A Y) (t : ℕ) (e : Event A) → reading e ≤ 18_446_744_073_709_551_615
    → passes r (deadline_of r.wait t) e ≡ test r t e
passes_test r t (fed a u) h = refl
passes_test r t (checked u) h = due_over r.wait t u h

deadline_moves : (w w' : Wait) (t u : ℕ) → deadline_after w w' (deadline_of w t) u ≡ deadline_of w' u
deadline_moves forever forever t u = refl
deadline_moves forever (nanos n) t u = refl
deadline_moves (nanos n) forever t u = refl
deadline_moves (nanos n) (nanos k) t u = refl

-- a later tick before never helps
test_antitone : {A Y : Type 0} (r : Row A Y) → machine.Antitone (test r)
test_antitone r t t' (fed a u) h p = p
test_antitone r t t' (checked u) h p = go r.wait p
  where
    go : (w : Wait) → over w t' u ≡ true → over w t u ≡ true
    go forever q = q
    go (nanos n) q = le-leb (t + n) u (omega (arith, leb-true (t' + n) u q))

-- ---- a sequence: its rows by step, the step after each, and the steps of its table in order

module _ {A Y K : Type 0} (row : K → Row A Y) (next : K → K) (done : K) (steps : List K) where
  abbrev pub step_at : ℕ → K
  step_at k = get_or steps k done

  abbrev pub table : Table (Event A)
  table = map (λ k. test (row k)) steps

  pub table_antitone : Each machine.Antitone table
  table_antitone = antitone_rows (λ k. test (row k)) (λ k. test_antitone (row k)) steps

  -- each step of the list is followed by the one after it, the last by `done`
  abbrev pub Chained : List K → Type 0
  Chained [] = Unit {0}
  Chained (k ∷ l) = (next k ≡ get_or l 0 done) × Chained l

  pub chained_follows : (l : List K) → Chained l → (k : ℕ) → k < length l → next (get_or l k done) ≡ get_or l (suc k) done
  chained_follows [] c k h = absurd (not-suc-le-zero h)
  chained_follows (x ∷ l) c zero h = c.0
  chained_follows (x ∷ l) c (suc k) h = chained_follows l c.1 k (le_of_suc-le-suc h)

  -- what is stored once the events es have ticked the rows from number k on, y being stored before
  abbrev pub stored : ℕ → List (Event A) → Y → Y
  stored k [] y = y
  stored k (e ∷ es) y = stored (suc k) es ((row (step_at k)).store e y)

  stored-snoc : (k : ℕ) (es : List (Event A)) (e : Event A) (y : Y) → stored k (es ++ e ∷ []) y ≡ (row (step_at (k + length es))).store e (stored k es y)
  stored-snoc k [] e y = rw add-zero
  stored-snoc k (x ∷ es) e y = stored-snoc (suc k) es e ((row (step_at k)).store x y) ∙ rw (add-suc k (length es), suc-add k (length es))

  -- X: what else is stored, beside what the rows stored; `put` puts it there. `keep` is what a row that is ticked makes of it.
  module _ {X : Type 0} (first : Y) (put : X → Y → Y) (keep : K → Event A → X → X) where
    abbrev pub standing : List (Event A) → X → State K Y
    standing es x = record {
      step = step_at (length es);
      replies = put x (stored 0 es first);
      deadline = deadline_of (row (step_at (length es))).wait (machine.reading_of reading es);
    }

    -- what else is stored once e has come
    abbrev pub kept : List (Event A) → X → Event A → X
    kept es x e = cond (machine.ticks reading table es e) (keep (step_at (length es)) e x) x

    -- what is asked of a sequence
    pub record Path : Type 0 where
      pub follows : (k : ℕ) → k < length steps → next (step_at k) ≡ step_at (suc k)
      pub ended : row done ≡ past
      pub keeps : (k : K) (e : Event A) (x : X) (y : Y) → (row k).store e (put x y) ≡ put (keep k e x) ((row k).store e y)

    module _ (p : Path) where
      -- the entry at a step is the row's test, also past the last one
      row_tests : (l : List K) (k : ℕ) (t : ℕ) (e : Event A) → get_or (map (λ j. test (row j)) l) k never t e ≡ test (row (get_or l k done)) t e
      row_tests [] k t (fed a u) = rw p.ended
      row_tests [] k t (checked u) = rw p.ended
      row_tests (j ∷ l) zero t e = refl
      row_tests (j ∷ l) (suc k) t e = row_tests l k t e

      passes_ticks : (es : List (Event A)) (x : X) (e : Event A) → reading e ≤ 18_446_744_073_709_551_615
          → passes (row (step_at (length es))) (standing es x).deadline e ≡ machine.ticks reading table es e
      passes_ticks es x e h =
          passes_test (row (step_at (length es))) (machine.reading_of reading es) e h
          ∙ sym (row_tests steps (length es) (machine.reading_of reading es) e)

      -- whether it says that an entry was ticked
      pub tells : (es : List (Event A)) (x : X) (e : Event A) → reading e ≤ 18_446_744_073_709_551_615
          → (heard row next (standing es x) e).ticked ≡ machine.ticks reading table es e
      tells es x e h = rw (passes_ticks es x e h) (go (machine.ticks reading table es e))
        where
          go : (b : Bool)
              → (cond b (ticked (row (step_at (length es))) (next (step_at (length es))) (row (next (step_at (length es)))) (standing es x) e) (idle (standing es x))).ticked ≡ b
          go true = refl
          go false = refl

      -- an accepted event moves it by one row, or leaves it
      pub moves : (es : List (Event A)) (x : X) (e : Event A) → reading e ≤ 18_446_744_073_709_551_615
          → (heard row next (standing es x) e).state ≡ standing (machine.heard reading table es e) (kept es x e)
      moves es x e h = rw (passes_ticks es x e h) (go (machine.ticks reading table es e) refl)
        where
          go : (b : Bool) → machine.ticks reading table es e ≡ b
              → (cond b (ticked (row (step_at (length es))) (next (step_at (length es))) (row (next (step_at (length es)))) (standing es x) e) (idle (standing es x))).state
              ≡ standing (cond b (es ++ e ∷ []) es) (cond b (keep (step_at (length es)) e x) x)
          go false q = refl
          go true q =
              let inside : length es < length steps = rw length-map at (ticks_inside reading table es e q) in
              let goes = p.follows (length es) inside in
              let stores = p.keeps (step_at (length es)) e x (stored 0 es first) in
              let whole : stored 0 (es ++ e ∷ []) first ≡ (row (step_at (length es))).store e (stored 0 es first) = rw zero-add at (stored-snoc 0 es e first) in
              let on = deadline_moves (row (step_at (length es))).wait (row (step_at (suc (length es)))).wait (machine.reading_of reading es) (reading e) in
              rw (length-snoc es e, reading-snoc reading es e, goes, stores, whole, on)

  -- the step is the last one exactly when every row is ticked, if a test tells the last one from those of the table
  module _ (is_done : K → Bool) (last : is_done done ≡ true) (others : Each (λ k. is_done k ≡ false) steps) where
    pub before_done : (k : ℕ) → k < length table → is_done (step_at k) ≡ false
    before_done k h = each_at (λ k. is_done k ≡ false) steps k done others (rw length-map at h)

    pub at_done : (k : ℕ) → k ≡ length table → step_at k ≡ done
    at_done k h = rw (h, length-map) (get_or-eq_default steps done (le_refl (length steps)))

    pub done_iff : (k : ℕ) → k ≤ length table → (step_at k ≡ done) ↔ (k ≡ length table)
    done_iff k l = (λ h. go h (dec_lt k (length table)), at_done k)
      where
        go : step_at k ≡ done → Dec (k < length table) → k ≡ length table
        go h (yes i) = absurd (true≢false (sym last ∙ ap is_done (sym h) ∙ before_done k i))
        go h (no i) = omega arith
