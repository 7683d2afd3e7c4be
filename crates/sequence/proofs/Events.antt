-- The calls of a sequence with a clock: each is one event or none, readings never fall, and the outcome tells which.
-- Assumes nothing.
use mathlib.Core.Path.{◌≡◌, refl, sym}
use mathlib.Core.Bool.{Bool, true, false, cond, true≢false}
use mathlib.Core.List.{List, [], ◌∷◌, ◌++◌}
use Prim.Native.Nat.{ℕ, ◌≤◌}
use native.Mathlib.Nat.{le_refl}
use native.Mathlib.Omega.{arith}
use lib.ListN.{length}
use Rattle.std.specs.Prelude.{Result, Ok, Err}
use Rattle.protocol.specs.declared.Refusal.{Refusal}
use Rattle.matching.proofs.Machine.{Rising, end, then}
use Rattle.sequence.specs.Accepted.{none, bytes_refusals, feed_refusals, check_refusals}
use Rattle.sequence.specs.Events.{Envelope, Event, fed, checked, reading}
use Rattle.matching.specs.Promise.{clock, events}
use Rattle.sequence.specs.Calls.{Call, feed, check, ask, event, Untimed, untimed}
use Rattle.sequence.specs.Rows.{judged}
use Rattle.sequence.proofs.Acceptance.{accepted, check_fits, feed_fits}

at_most_one : {E : Type 0} (b : Bool) (e : E) → length (cond b (e ∷ []) []) ≤ 1
at_most_one true e = omega arith
at_most_one false e = omega arith

rise : {A : Type 0} (b : Bool) (t : ℕ) (e : Event A) → (b ≡ true → t ≤ reading e) → Rising reading t (cond b (e ∷ []) [])
rise true t e h = then (h refl) end
rise false t e h = end

module _ {A Q : Type 0} (env : A → Envelope) where
  pub few : (t : ℕ) (c : Call A Q) → length (event env t c) ≤ 1
  few t (feed a u) = at_most_one (none (feed_refusals (env a).text (env a).payload t u)) (fed a u)
  few t (check u) = at_most_one (none (check_refusals t u)) (checked u)
  few t (ask q) = omega arith

  pub rises : (t : ℕ) (c : Call A Q) → Rising reading t (event env t c)
  rises t (feed a u) =
      rise (none (feed_refusals (env a).text (env a).payload t u)) t (fed a u) (λ p. (feed_fits (env a).text (env a).payload t u p).time.later)
  rises t (check u) = rise (none (check_refusals t u)) t (checked u) (λ p. (check_fits t u p).later)
  rises t (ask q) = end

-- ---- without a clock: every reading is 0

module _ {A Q : Type 0} (env : A → Envelope) where
  pub rises_untimed : (cs : List (Untimed A Q)) → Rising reading 0 (events reading (untimed env) 0 cs)
  rises_untimed [] = end
  rises_untimed (Untimed.feed a ∷ cs) = go (none (bytes_refusals (env a).text (env a).payload)) (rises_untimed cs)
    where
      go : (b : Bool) → Rising reading 0 (events reading (untimed env) 0 cs)
          → Rising reading 0 (cond b (fed a 0 ∷ []) [] ++ events reading (untimed env) (clock reading 0 (cond b (fed a 0 ∷ []) [])) cs)
      go true k = then (le_refl 0) k
      go false k = k
  rises_untimed (Untimed.ask q ∷ cs) = rises_untimed cs

-- What holds of an accepted call with its event, and of a refused one with none, holds of the call: b is whether no number applies.
pub judge : {F E : Type 0} (P : F → List E → Type 0) (f : F) (g : Refusal → F) (e : E) (o : Result (Unit {0}) Refusal) (b : Bool) → accepted o ≡ b
    → (b ≡ true → P f (e ∷ [])) → ((p : Refusal) → P (g p) []) → P (judged o f g) (cond b (e ∷ []) [])
judge P f g e (Ok u) true h take leave = take refl
judge P f g e (Ok u) false h take leave = absurd (true≢false h)
judge P f g e (Err r) true h take leave = absurd (true≢false (sym h))
judge P f g e (Err r) false h take leave = leave r
