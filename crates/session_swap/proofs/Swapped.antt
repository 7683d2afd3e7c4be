-- Two neighbouring feeds change places.
-- Assumes nothing.
use Prim.Native.Nat.{ℕ}
use mathlib.Core.Path.{◌≡◌, refl, sym, ap, ◌∙◌}
use mathlib.Core.Logic.{◌≢◌}
use mathlib.Core.Bool.{Bool, true, cond}
use mathlib.Core.List.{List, [], ◌∷◌, ◌++◌}
use Rattle.std.specs.Prelude.{Option, Result, Ok, Err}
use Rattle.protocol.specs.declared.Action.{Action}
use Rattle.protocol.specs.declared.Refusal.{Refusal}
use Rattle.protocol.specs.Addr.{byte_of}
use Rattle.device.specs.Model.{model_in}
use Rattle.sequence.specs.Accepted.{feed_outcome}
use Rattle.sequence.specs.Events.{fed}
use Rattle.sequence.specs.Rows.{judged}
use Rattle.sequence.specs.declared.Moved.{Moved}
use Rattle.sheet.specs.Ticks.{tick_of}
use Rattle.dsp_steps.specs.declared.DspState.{DspState}
use Rattle.dsp.specs.declared.DspSequencer.{DspSequencer}
use Rattle.dsp.specs.Answers as dsp
use Rattle.avr_table.specs.Stores.{Dated}
use Rattle.avr.specs.declared.AvrSequencer.{AvrSequencer}
use Rattle.pi.specs.declared.PiSequencer.{PiSequencer}
use Rattle.session.specs.declared.Session.{Session}
use Rattle.session.specs.declared.SessionAnswer.{SessionAnswer}
use Rattle.session.specs.Answers.{accepted, refused, dsp_done, led, avr_feed, pi_feed, bare, feed_accepted, fed_to}
use Rattle.session_swap.specs.Swap.{to, sends, one, two, Swap}
use Rattle.session_swap.proofs.Deaf.{dsp_deaf}
use Rattle.session_swap.proofs.Parts.{fits, same_outcome, bytes_fit, apart, avr_trade, pi_trade}
use Rattle.session_swap.proofs.Sends.{AllGo, avr_sends, pi_sends, to_each}

abbrev outcome_at : Dated → ℕ → ℕ → Result (Unit {0}) Refusal
outcome_at d l t = feed_outcome d.envelope.text d.envelope.payload l t

-- ---- a feed of a session whose DSP is done

-- the DSP keeps the reading alone
abbrev heard_dsp : Session → ℕ → DspSequencer
heard_dsp s t = record { state = s.dsp.state; last = t; ticks = s.dsp.ticks }

abbrev passed : Session → Dated → ℕ → SessionAnswer
passed s d t =
    let v = avr_feed s.avr d t in
    let p = pi_feed s.pi (bare d.envelope) in
    accepted v.action p.action (record { dsp = heard_dsp s t; avr = v.seq; pi = p.seq })

takes : (s : Session) (d : Dated) (t : ℕ) → dsp_done s ≡ true → outcome_at d s.dsp.last t ≡ Ok tt → fed_to s d t ≡ passed s d t
takes s d t done o =
    let m = model_in s.dsp.state.replies.dev_info in
    let v = avr_feed s.avr d t in
    let p = pi_feed s.pi (bare d.envelope) in
    let quiet : (dsp.fed_to s.dsp d.envelope t).seq ≡ heard_dsp s t =
    ap (λ (o : Result (Unit {0}) Refusal). (dsp.answered m o s.dsp (fed d.envelope t)).seq) o
    ∙ ap (λ (w : Moved DspState). (dsp.accepted s.dsp.ticks w (tick_of (λ v. v) (fed d.envelope t))).seq) (dsp_deaf m s.dsp.state d.envelope t done) in
    ap (λ (o : Result (Unit {0}) Refusal). judged o (feed_accepted s d t) (refused s)) o
    ∙ ap (λ (b : Bool). cond b (accepted v.action p.action (record { dsp = (dsp.fed_to s.dsp d.envelope t).seq; avr = v.seq; pi = p.seq })) (led s (dsp.fed_to s.dsp d.envelope t))) done
    ∙ ap (λ (x : DspSequencer). accepted v.action p.action (record { dsp = x; avr = v.seq; pi = p.seq })) quiet

declines : (s : Session) (d : Dated) (t : ℕ) (r : Refusal) → outcome_at d s.dsp.last t ≡ Err r → fed_to s d t ≡ refused s r
declines s d t r o = ap (λ (o : Result (Unit {0}) Refusal). judged o (feed_accepted s d t) (refused s)) o

-- its sends go to the device that the envelope came from
from_it : (s : Session) (d : Dated) (t : ℕ) → dsp_done s ≡ true → (o : Result (Unit {0}) Refusal) → outcome_at d s.dsp.last t ≡ o
    → AllGo (byte_of d.envelope.src) (sends (fed_to s d t).outcome)
from_it s d t done (Ok u) o = rw (takes s d t done o) (avr_sends d t s.avr, (pi_sends (bare d.envelope) s.pi, tt))
from_it s d t done (Err r) o = rw (declines s d t r o) tt

-- ---- two feeds

-- both orders, but for the devices
record Traded (s : Session) (a b : Dated) (t : ℕ) : Type 0 where
  state : (two s a b t).session ≡ (two s b a t).session
  first : (one s a b t).outcome ≡ (two s b a t).outcome
  second : (two s a b t).outcome ≡ (one s b a t).outcome

-- by what the four feeds answer
by_four : (s : Session) (a b : Dated) (t : ℕ) (p q x y : SessionAnswer) → fed_to s a t ≡ p → fed_to s b t ≡ q → fed_to p.session b t ≡ x → fed_to q.session a t ≡ y
    → x.session ≡ y.session → p.outcome ≡ y.outcome → x.outcome ≡ q.outcome → Traded s a b t
by_four s a b t p q x y e f g h i j k =
    let ab : two s a b t ≡ x = ap (λ (u : SessionAnswer). fed_to u.session b t) e ∙ g in
    let ba : two s b a t ≡ y = ap (λ (u : SessionAnswer). fed_to u.session a t) f ∙ h in
    record {
      state = ap (λ (u : SessionAnswer). u.session) ab ∙ i ∙ sym (ap (λ (u : SessionAnswer). u.session) ba);
      first = ap (λ (u : SessionAnswer). u.outcome) e ∙ j ∙ sym (ap (λ (u : SessionAnswer). u.outcome) ba);
      second = ap (λ (u : SessionAnswer). u.outcome) ab ∙ k ∙ sym (ap (λ (u : SessionAnswer). u.outcome) f);
    }

abbrev session : DspSequencer → Option AvrSequencer → Option PiSequencer → Session
session d v p = record { dsp = d; avr = v; pi = p }

same_session : {d : DspSequencer} {v w : Option AvrSequencer} {p q : Option PiSequencer} → v ≡ w → p ≡ q → session d v p ≡ session d w q
same_session h i = rw (h, i) refl

abbrev both : Option Action → Option Action → Result (List (Option Action)) Refusal
both x y = Ok (x ∷ y ∷ [])

same_sends : {x y z w : Option Action} → x ≡ y → z ≡ w → both x z ≡ both y w
same_sends h i = rw (h, i) refl

module _ (s : Session) (a b : Dated) (t : ℕ) (done : dsp_done s ≡ true) (apart_by : a.envelope.src ≢ b.envelope.src) where
  -- once a is accepted b is judged as before it
  later : (d e : Dated) → outcome_at d s.dsp.last t ≡ Ok tt → outcome_at e t t ≡ outcome_at e s.dsp.last t
  later d e h =
      sym (same_outcome e.envelope.text e.envelope.payload s.dsp.last t (fits d.envelope.text d.envelope.payload s.dsp.last t h).time)

  both_accepted : outcome_at a s.dsp.last t ≡ Ok tt → outcome_at b s.dsp.last t ≡ Ok tt → Traded s a b t
  both_accepted h i =
      let p = passed s a t in
      let q = passed s b t in
      let f = fits a.envelope.text a.envelope.payload s.dsp.last t h in
      let g = fits b.envelope.text b.envelope.payload s.dsp.last t i in
      let v = avr_trade a b t s.dsp.last f g apart_by s.avr in
      let w = pi_trade (bare a.envelope) (bare b.envelope) (bytes_fit a.envelope.text a.envelope.payload s.dsp.last t f)
      (bytes_fit b.envelope.text b.envelope.payload s.dsp.last t g) apart_by s.pi in
      by_four s a b t p q (passed p.session b t) (passed q.session a t) (takes s a t done h) (takes s b t done i)
      (takes p.session b t done (later a b h ∙ i)) (takes q.session a t done (later b a i ∙ h))
      (same_session v.state w.state) (same_sends v.first w.first) (same_sends v.second w.second)

  first_accepted : (r : Refusal) → outcome_at a s.dsp.last t ≡ Ok tt → outcome_at b s.dsp.last t ≡ Err r → Traded s a b t
  first_accepted r h i =
      let p = passed s a t in
      by_four s a b t p (refused s r) (refused p.session r) p (takes s a t done h) (declines s b t r i) (declines p.session b t r (later a b h ∙ i)) (takes s a t done h)
      refl refl refl

  both_refused : (r q : Refusal) → outcome_at a s.dsp.last t ≡ Err r → outcome_at b s.dsp.last t ≡ Err q → Traded s a b t
  both_refused r q h i =
      by_four s a b t (refused s r) (refused s q) (refused s q) (refused s r) (declines s a t r h) (declines s b t q i) (declines s b t q i) (declines s a t r h)
      refl refl refl

trades : (s : Session) (a b : Dated) (t : ℕ) → dsp_done s ≡ true → a.envelope.src ≢ b.envelope.src → Traded s a b t
trades s a b t done h = go (outcome_at a s.dsp.last t) (outcome_at b s.dsp.last t) refl refl
  where
    go : (x y : Result (Unit {0}) Refusal) → outcome_at a s.dsp.last t ≡ x → outcome_at b s.dsp.last t ≡ y → Traded s a b t
    go (Ok u) (Ok v) i j = both_accepted s a b t done h i j
    go (Ok u) (Err r) i j = first_accepted s a b t done h r i j
    go (Err r) (Err q) i j = both_refused s a b t done h r q i j
    go (Err r) (Ok v) i j =
        let w = first_accepted s b a t done (λ e. h (sym e)) r j i in
        record { state = sym w.state; first = sym w.second; second = sym w.first }

pub swaps : Swap
swaps s a b t done h =
    let w = trades s a b t done h in
    let l = sends (one s a b t).outcome in
    let m = sends (one s b a t).outcome in
    record {
      state = w.state;
      first = w.first;
      second = w.second;
      sends = λ d.
          ap (λ (o : Result (List (Option Action)) Refusal). to d (l ++ sends o)) w.second
          ∙ to_each d (byte_of a.envelope.src) (byte_of b.envelope.src) l m (from_it s a t done (outcome_at a s.dsp.last t) refl) (from_it s b t done (outcome_at b s.dsp.last t) refl)
          (apart (byte_of d) a.envelope.src b.envelope.src h)
          ∙ ap (λ (o : Result (List (Option Action)) Refusal). to d (m ++ sends o)) w.first;
    }
