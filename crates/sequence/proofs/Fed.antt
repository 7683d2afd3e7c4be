-- A sequence without a clock that goes by rows, and stores nothing beside them but what it keeps of the events that ticked: after any list of
-- calls its state is told by these. Proved once; what discharges `Called` of such a sequence.
-- Assumes nothing.
use mathlib.Core.Path.{◌≡◌, refl, ap, ◌∙◌}
use mathlib.Core.Bool.{Bool, true, false, cond}
use mathlib.Core.List.{List, [], ◌∷◌, ◌++◌}
use Prim.Native.Nat.{ℕ}
use native.Mathlib.Omega.{arith}
use lib.ListN.{length, get_or}
use Rattle.std.specs.Prelude.{None}
use Rattle.protocol.specs.declared.Refusal.{Refusal}
use Rattle.matching.specs.Promise.{Each, Ends}
use Rattle.matching.proofs.Machine.{heard as heardIn, ticked_from}
use Rattle.matching.proofs.Called.{Called}
use Rattle.matching.proofs.Promised as promised
use Rattle.sequence.specs.Accepted.{none, bytes_refusals, bytes_outcome}
use Rattle.sequence.specs.Events.{Envelope, Event, fed, checked, reading, forever}
use Rattle.sequence.specs.Rows.{Row, past, State, heard, judged}
use Rattle.sequence.specs.Calls.{Untimed, untimed}
use Rattle.sequence.proofs.Acceptance.{bytes_accepted}
use Rattle.sequence.proofs.Events.{rises_untimed, judge}
use Rattle.sequence.proofs.Standing as rows

module _ {Y K : Type 0} (row : K → Row Envelope Y) (next : K → K) (done : K) (steps : List K) (first : Y) where
  abbrev E : Type 0
  E = Event Envelope

  abbrev put : Unit {0} → Y → Y
  put x y = y

  abbrev keep : K → E → Unit {0} → Unit {0}
  keep k e x = x

  -- its state as the rows have it, es being the events that ticked
  abbrev pub standing : List E → State K Y
  standing es = rows.standing row next done steps first put keep es tt

  -- S: sequencers, F: what a feed answers, Q: the calls that are no feed. `unview` also takes the events that ticked.
  module _ {S F Q : Type 0} (view : S → State K Y) (unview : List E → State K Y → S) (seq : F → S) (accepted : S → E → F) (refused : S → Refusal → F)
      (after : S → Untimed Envelope Q → S) where
    abbrev pub state_of : List E → ℕ → Unit {0} → S
    state_of es t x = unview es (standing es)

    -- what is asked of a sequence
    pub record Feeds : Type 0 where
      pub chained : rows.Chained row next done steps steps
      pub ended : row done ≡ past
      pub waitless : (k : K) → (row k).wait ≡ forever
      -- a sequencer is what the rows have of it
      pub seen : (es : List E) (k : K) (y : Y)
          → view (unview es (record { step = k; replies = y; deadline = None })) ≡ record { step = k; replies = y; deadline = None }
      -- an accepted feed goes by the rows, a refused one and any other call leave it
      pub moves : (es : List E) (s : State K Y) (e : E)
          → seq (accepted (unview es s) e)
          ≡ unview (cond (heard row next (view (unview es s)) e).ticked (es ++ e ∷ []) es) (heard row next (view (unview es s)) e).state
      pub stays : (s : S) (o : Refusal) → seq (refused s o) ≡ s
      pub feeds : (s : S) (e : Envelope) → after s (Untimed.feed e) ≡ seq (judged (bytes_outcome e.text e.payload) (accepted s (fed e 0)) (refused s))
      pub asks : (s : S) (q : Q) → after s (Untimed.ask q) ≡ s

    module _ (p : Feeds) where
      path : rows.Path row next done steps first put keep
      path = record { follows = rows.chained_follows row next done steps steps p.chained; ended = p.ended; keeps = λ k e x y. refl }

      viewed : (es : List E) → view (unview es (standing es)) ≡ standing es
      viewed es = rw (p.waitless (get_or steps (length es) done)) (p.seen es (get_or steps (length es) done) (standing es).replies)

      abbrev Goes : List E → F → List E → Type 0
      Goes es f l = seq f ≡ state_of (ticked_from reading (rows.table row next done steps) es l) 0 tt

      one : (es : List E) (t : ℕ) (x : Unit {0}) (c : Untimed Envelope Q)
          → after (state_of es t x) c ≡ state_of (ticked_from reading (rows.table row next done steps) es (untimed (λ e. e) t c)) 0 tt
      one es t x (Untimed.feed e) =
          let s = state_of es t x in
          p.feeds s e
          ∙ judge (Goes es) (accepted s (fed e 0)) (refused s) (fed e 0) (bytes_outcome e.text e.payload) (none (bytes_refusals e.text e.payload))
          (bytes_accepted e.text e.payload)
          (λ h. p.moves es (standing es) (fed e 0)
          ∙ ap (λ (z : State K Y). unview (cond (heard row next z (fed e 0)).ticked (es ++ fed e 0 ∷ []) es) (heard row next z (fed e 0)).state) (viewed es)
          ∙ ap (λ (b : Bool). unview (cond b (es ++ fed e 0 ∷ []) es) (heard row next (standing es) (fed e 0)).state)
          (rows.tells row next done steps first put keep path es tt (fed e 0) (omega arith))
          ∙ ap (unview (heardIn reading (rows.table row next done steps) es (fed e 0)))
          (rows.moves row next done steps first put keep path es tt (fed e 0) (omega arith)))
          (λ o. p.stays s o)
      one es t x (Untimed.ask q) = p.asks (state_of es t x) q

      pub sequencer : Called reading (rows.table row next done steps) after (untimed (λ e. e)) state_of (λ es t x c. tt)
      sequencer = record { rises = rises_untimed (λ e. e); one = λ es t x c h. one es t x c }

      -- it is done exactly when its table can be matched
      pub ends : (is_done : K → Bool) → is_done done ≡ true → Each (λ k. is_done k ≡ false) steps
          → (step_of : S → K) → ((es : List E) (s : State K Y) → step_of (unview es s) ≡ s.step)
          → (cs : List (Untimed Envelope Q))
          → Ends reading (checked 0) (untimed (λ e. e)) (state_of [] 0 tt) after (rows.table row next done steps) (λ s. step_of s ≡ done) cs
      ends is_done last others step_of is cs =
          promised.ends (checked 0) (rows.table_antitone row next done steps) sequencer tt (λ s. step_of s ≡ done)
          (λ es t y h. rw (is es (standing es)) (rows.done_iff row next done steps is_done last others (length es) h)) cs
