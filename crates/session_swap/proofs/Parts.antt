-- Two envelopes from different sources at one reading, which a session accepts: what the AVR and the Pi make of them doesn't depend on which comes first.
-- Assumes nothing.
use Prim.Native.Nat.{ℕ}
use native.Mathlib.Nat.{le_refl}
use mathlib.Core.Path.{◌≡◌, refl, sym, ap, ◌∙◌}
use mathlib.Core.Logic.{◌≢◌}
use mathlib.Core.Bool.{Bool, true, false, cond}
use mathlib.Core.List.{List, [], ◌∷◌}
use lib.Dec.{eqb, ltb}
use lib.ListN.{length}
use borrow.Author.Tests.{le-ltb, eqb-true}
use Rattle.std.specs.Prelude.{Option, Some, None, Result, Ok, Err, ◌⊎◌}
use Rattle.std.proofs.Common.{inl, inr}
use Rattle.protocol.specs.declared.Refusal.{Refusal}
use Rattle.protocol.specs.declared.BusAddr.{BusAddr}
use Rattle.protocol.specs.declared.BusAddr.TheVariants as B
use Rattle.protocol.specs.Addr.{byte_of}
use Rattle.protocol.specs.Refusals.{outcome, lowest}
use Rattle.sequence.specs.Accepted.{applies, feed_outcome, bytes_outcome}
use Rattle.sequence.specs.Events.{Envelope, Event, fed}
use Rattle.sequence.specs.Rows.{idle, judged, refused}
use Rattle.sequence.specs.declared.Answer.{Answer}
use Rattle.sequence.specs.declared.Moved.{Moved}
use Rattle.sequence.proofs.Acceptance.{accepted, feed_accepted, Fits, InTime, feed_fits}
use Rattle.sheet.specs.declared.Ticks.{Ticks}
use Rattle.sheet.specs.Ticks.{tick_of, then_tick}
use Rattle.avr_table.specs.Stores.{Dated, env}
use Rattle.avr_steps.specs.declared.AvrState.{AvrState}
use Rattle.avr_steps.specs.Answers as asteps
use Rattle.avr.specs.declared.AvrSequencer.{AvrSequencer}
use Rattle.avr.specs.Answers as avr
use Rattle.pi.specs.declared.PiSequencer.{PiSequencer}
use Rattle.pi.specs.Answers as pi
use Rattle.session.specs.Answers.{sent, heard}
use Rattle.session_swap.proofs.Deaf.{avr_deaf, pi_idle, pi_deaf}

-- ---- the outcome, once one feed at this reading is accepted

pub fits : (x y : List ℕ) (l t : ℕ) → feed_outcome x y l t ≡ Ok tt → Fits x y l t
fits x y l t h = feed_fits x y l t (sym (feed_accepted x y l t) ∙ ap accepted h)

-- only the reading decides
abbrev pub late : ℕ → ℕ → Result (Unit {0}) Refusal
late l t = outcome (lowest (applies 11 (ltb t l) ∷ []))

pub by_reading : (x y : List ℕ) (l t : ℕ) → Fits x y l t → (k : ℕ) → feed_outcome x y k t ≡ late k t
by_reading x y l t w k =
    rw (le-ltb 256 (length x) w.text, le-ltb 256 (length y) w.payload, le-ltb 18_446_744_071_709_551_615 t w.time.small) refl

pub now_in_time : (t : ℕ) → late t t ≡ Ok tt
now_in_time t = rw (le-ltb t t (le_refl t)) refl

-- what another feed is answered does not depend on whether this one came before it
pub same_outcome : (x y : List ℕ) (l t : ℕ) → InTime l t → feed_outcome x y l t ≡ feed_outcome x y t t
same_outcome x y l t w = rw (le-ltb t l w.later, le-ltb t t (le_refl t)) refl

pub bytes_fit : (x y : List ℕ) (l t : ℕ) → Fits x y l t → bytes_outcome x y ≡ Ok tt
bytes_fit x y l t w = rw (le-ltb 256 (length x) w.text, le-ltb 256 (length y) w.payload) refl

-- ---- two sources

-- the device with a byte
abbrev device : ℕ → BusAddr
device n = cond (eqb n 0x10) B.App (cond (eqb n 0x12) B.Pi (cond (eqb n 0x30) B.Avr B.Dsp))

known : (x : BusAddr) → device (byte_of x) ≡ x
known B.App = refl
known B.Pi = refl
known B.Avr = refl
known B.Dsp = refl

-- of two devices one has not this byte
pub apart : (n : ℕ) (x y : BusAddr) → x ≢ y → (eqb (byte_of x) n ≡ false) ⊎ (eqb (byte_of y) n ≡ false)
apart n x y h = go (eqb (byte_of x) n) (eqb (byte_of y) n) refl refl
  where
    go : (p q : Bool) → eqb (byte_of x) n ≡ p → eqb (byte_of y) n ≡ q → (p ≡ false) ⊎ (q ≡ false)
    go false q a b = inl refl
    go true false a b = inr refl
    go true true a b = absurd (h (sym (known x) ∙ ap device (eqb-true (byte_of x) n a ∙ sym (eqb-true (byte_of y) n b)) ∙ known y))

-- ---- one sequence: f and g are the two calls

module _ {S : Type 0} where
  -- each is answered as in the other order, and the state after both is the same
  pub record Trade (f g : S → Answer S) (o : Option S) : Type 0 where
    pub state : (heard g (heard f o).seq).seq ≡ (heard f (heard g o).seq).seq
    pub first : (heard f o).action ≡ (heard f (heard g o).seq).action
    pub second : (heard g (heard f o).seq).action ≡ (heard g o).action

  pub back : (f g : S → Answer S) (o : Option S) → Trade f g o → Trade g f o
  back f g o w = record { state = sym w.state; first = sym w.second; second = sym w.first }

  -- by what the four calls answer
  pub trades : (f g : S → Answer S) (s : S) (p q x y : Answer S) → f s ≡ p → g s ≡ q → g p.seq ≡ x → f q.seq ≡ y
      → x.seq ≡ y.seq → p.outcome ≡ y.outcome → x.outcome ≡ q.outcome → Trade f g (Some s)
  trades f g s p q x y a b c d h i j =
      let gf : g (f s).seq ≡ x = ap (λ (u : Answer S). g u.seq) a ∙ c in
      let fg : f (g s).seq ≡ y = ap (λ (u : Answer S). f u.seq) b ∙ d in
      record {
        state = ap (λ (u : Answer S). Some u.seq) gf ∙ ap Some h ∙ sym (ap (λ (u : Answer S). Some u.seq) fg);
        first = ap (λ (u : Answer S). sent u.outcome) a ∙ ap sent i ∙ sym (ap (λ (u : Answer S). sent u.outcome) fg);
        second = ap (λ (u : Answer S). sent u.outcome) gf ∙ ap sent j ∙ sym (ap (λ (u : Answer S). sent u.outcome) b);
      }

-- ---- the AVR

abbrev at_reading : AvrState → ℕ → Ticks → AvrSequencer
at_reading v t ts = record { state = v; last = t; ticks = ts }

abbrev timed : Ticks → Moved AvrState → Event Dated → Answer AvrSequencer
timed ts w e = avr.accepted ts w (tick_of env e)

module _ (a b : Dated) (t l : ℕ) (i : Fits a.envelope.text a.envelope.payload l t) (j : Fits b.envelope.text b.envelope.payload l t) where
  abbrev fa : AvrSequencer → Answer AvrSequencer
  fa s = avr.fed_to s a t

  abbrev fb : AvrSequencer → Answer AvrSequencer
  fb s = avr.fed_to s b t

  outcome_a : (s : AvrSequencer) → fa s ≡ avr.answered (late s.last t) s (fed a t)
  outcome_a s = ap (λ (o : Result (Unit {0}) Refusal). avr.answered o s (fed a t)) (by_reading a.envelope.text a.envelope.payload l t i s.last)

  outcome_b : (s : AvrSequencer) → fb s ≡ avr.answered (late s.last t) s (fed b t)
  outcome_b s = ap (λ (o : Result (Unit {0}) Refusal). avr.answered o s (fed b t)) (by_reading b.envelope.text b.envelope.payload l t j s.last)

  -- a comes from another source
  deaf : eqb (byte_of a.envelope.src) 0x30 ≡ false → (s : AvrSequencer) → Trade fa fb (Some s)
  deaf h s = go (late s.last t) refl
    where
      quiet : (u : AvrState) → asteps.answered u (fed a t) ≡ idle u
      quiet u = avr_deaf u a t h

      go : (o : Result (Unit {0}) Refusal) → late s.last t ≡ o → Trade fa fb (Some s)
      go (Err r) e =
          let x : fa s ≡ refused s r = outcome_a s ∙ ap (λ (o : Result (Unit {0}) Refusal). avr.answered o s (fed a t)) e in
          let y : fb s ≡ refused s r = outcome_b s ∙ ap (λ (o : Result (Unit {0}) Refusal). avr.answered o s (fed b t)) e in
          trades fa fb s (refused s r) (refused s r) (refused s r) (refused s r) x y y x refl refl refl
      go (Ok u) e =
          let m = asteps.answered s.state (fed b t) in
          let ts = then_tick s.ticks m.ticked (tick_of env (fed b t)) in
          let took : (v : AvrState) (k : Ticks) → fa (at_reading v t k) ≡ timed k (idle v) (fed a t) =
          λ v k. outcome_a (at_reading v t k) ∙ ap (λ (o : Result (Unit {0}) Refusal). avr.answered o (at_reading v t k) (fed a t)) (now_in_time t)
          ∙ ap (λ (w : Moved AvrState). timed k w (fed a t)) (quiet v) in
          let x : fa s ≡ timed s.ticks (idle s.state) (fed a t) =
          outcome_a s ∙ ap (λ (o : Result (Unit {0}) Refusal). avr.answered o s (fed a t)) e ∙ ap (λ (w : Moved AvrState). timed s.ticks w (fed a t)) (quiet s.state) in
          let y : fb s ≡ timed s.ticks m (fed b t) = outcome_b s ∙ ap (λ (o : Result (Unit {0}) Refusal). avr.answered o s (fed b t)) e in
          let z : fb (at_reading s.state t s.ticks) ≡ timed s.ticks m (fed b t) =
          outcome_b (at_reading s.state t s.ticks) ∙ ap (λ (o : Result (Unit {0}) Refusal). avr.answered o (at_reading s.state t s.ticks) (fed b t)) (now_in_time t) in
          trades fa fb s (timed s.ticks (idle s.state) (fed a t)) (timed s.ticks m (fed b t)) (timed s.ticks m (fed b t)) (timed ts (idle m.state) (fed a t))
          x y z (took m.state ts) refl refl refl

-- either of the two
pub avr_trade : (a b : Dated) (t l : ℕ) → Fits a.envelope.text a.envelope.payload l t → Fits b.envelope.text b.envelope.payload l t
    → a.envelope.src ≢ b.envelope.src → (o : Option AvrSequencer) → Trade (λ s. avr.fed_to s a t) (λ s. avr.fed_to s b t) o
avr_trade a b t l i j h None = record { state = refl; first = refl; second = refl }
avr_trade a b t l i j h (Some s) = go (apart 0x30 a.envelope.src b.envelope.src h)
  where
    go : (eqb (byte_of a.envelope.src) 0x30 ≡ false) ⊎ (eqb (byte_of b.envelope.src) 0x30 ≡ false) → Trade (λ s. avr.fed_to s a t) (λ s. avr.fed_to s b t) (Some s)
    go (inl e) = deaf a b t l i j e s
    go (inr e) = back (λ s. avr.fed_to s b t) (λ s. avr.fed_to s a t) (Some s) (deaf b a t l j i e s)

-- ---- the Pi

module _ (a b : Envelope) (i : bytes_outcome a.text a.payload ≡ Ok tt) (j : bytes_outcome b.text b.payload ≡ Ok tt) where
  pi_deaf_first : eqb (byte_of a.src) 0x12 ≡ false → (s : PiSequencer) → Trade (λ s. pi.fed_to s a) (λ s. pi.fed_to s b) (Some s)
  pi_deaf_first h s =
      let took : (v : PiSequencer) → pi.fed_to v a ≡ pi_idle v =
      λ v. ap (λ (o : Result (Unit {0}) Refusal). judged o (pi.advance v (fed a 0)) (refused v)) i ∙ pi_deaf v a h in
      let m = pi.advance s (fed b 0) in
      let y : pi.fed_to s b ≡ m = ap (λ (o : Result (Unit {0}) Refusal). judged o m (refused s)) j in
      trades (λ s. pi.fed_to s a) (λ s. pi.fed_to s b) s (pi_idle s) m m (pi_idle m.seq) (took s) y y (took m.seq) refl refl refl

pub pi_trade : (a b : Envelope) → bytes_outcome a.text a.payload ≡ Ok tt → bytes_outcome b.text b.payload ≡ Ok tt → a.src ≢ b.src
    → (o : Option PiSequencer) → Trade (λ s. pi.fed_to s a) (λ s. pi.fed_to s b) o
pi_trade a b i j h None = record { state = refl; first = refl; second = refl }
pi_trade a b i j h (Some s) = go (apart 0x12 a.src b.src h)
  where
    go : (eqb (byte_of a.src) 0x12 ≡ false) ⊎ (eqb (byte_of b.src) 0x12 ≡ false) → Trade (λ s. pi.fed_to s a) (λ s. pi.fed_to s b) (Some s)
    go (inl e) = pi_deaf_first a b i j e s
    go (inr e) = back (λ s. pi.fed_to s b) (λ s. pi.fed_to s a) (Some s) (pi_deaf_first b a j i e s)
