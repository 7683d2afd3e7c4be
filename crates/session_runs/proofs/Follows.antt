-- Call by call: what a session's call makes of each of its sequences.
-- Assumes nothing.
use Prim.Native.Nat.{ℕ}
use mathlib.Core.Path.{◌≡◌, refl, sym, ap, ◌∙◌}
use mathlib.Core.Bool.{Bool, true, false, cond}
use mathlib.Core.List.{List, [], ◌∷◌, map}
use Rattle.std.specs.Prelude.{Option, Some, None, Result, Ok, Err}
use Rattle.protocol.specs.declared.Refusal.{Refusal}
use Rattle.device.specs.Model.{model_in}
use Rattle.matching.specs.Promise.{after_all}
use Rattle.sequence.specs.Accepted.{none, feed_refusals, check_refusals, feed_outcome, check_outcome}
use Rattle.sequence.specs.Events.{Event, fed, checked}
use Rattle.sequence.specs.Rows.{judged}
use Rattle.sequence.specs.declared.Answer.{Answer}
use Rattle.sequence.specs.Calls.{feed, check, ask}
use Rattle.sequence.proofs.Acceptance.{feed_accepted, check_accepted}
use Rattle.sequence.proofs.Events.{judge}
use Rattle.dsp.specs.declared.DspSequencer.{DspSequencer}
use Rattle.dsp.specs.Answers as dsps
use Rattle.dsp.specs.Calls as dsp
use Rattle.avr_table.specs.Stores.{Dated}
use Rattle.avr.specs.declared.AvrSequencer.{AvrSequencer}
use Rattle.avr.specs.Calls as avr
use Rattle.pi.specs.declared.PiSequencer.{PiSequencer}
use Rattle.pi.specs.Calls as pi
use Rattle.session.specs.declared.Session.{Session}
use Rattle.session.specs.declared.SessionAnswer.{SessionAnswer}
use Rattle.session.specs.Answers as answers
use Rattle.session.specs.Answers.{dsp_done}
use Rattle.session_runs.specs.Calls.{SessionCall, into_result, take_refused, sheet, after, event, dsp_call, avr_call, pi_calls}

-- ---- the DSP, at any session

led_dsp : (s : Session) (f : Answer DspSequencer) → (answers.led s f).session.dsp ≡ f.seq
led_dsp s f = go (dsps.is_done f.seq.state.step)
  where
    go : (b : Bool) → (cond b (answers.begun_for f.seq (model_in f.seq.state.replies.dev_info))
        (answers.accepted (answers.sent f.outcome) None (record { dsp = f.seq; avr = s.avr; pi = s.pi }))).session.dsp ≡ f.seq
    go true = refl
    go false = refl

branch_dsp : (b : Bool) (x y : SessionAnswer) (d : DspSequencer) → x.session.dsp ≡ d → y.session.dsp ≡ d → (cond b x y).session.dsp ≡ d
branch_dsp true x y d h i = h
branch_dsp false x y d h i = i

pub dsp_one : (s : Session) (c : SessionCall) → (after s c).dsp ≡ dsp.after s.dsp (dsp_call c)
dsp_one s (feed d t) = go (feed_outcome d.envelope.text d.envelope.payload s.dsp.last t) refl
  where
    go : (o : Result (Unit {0}) Refusal) → feed_outcome d.envelope.text d.envelope.payload s.dsp.last t ≡ o
        → (judged o (answers.feed_accepted s d t) (answers.refused s)).session.dsp ≡ (dsps.fed_to s.dsp d.envelope t).seq
    go (Ok u) e = branch_dsp (dsp_done s) _ (answers.led s (dsps.fed_to s.dsp d.envelope t)) _ refl (led_dsp s (dsps.fed_to s.dsp d.envelope t))
    go (Err r) e = sym (ap (λ (o : Result (Unit {0}) Refusal). (dsps.answered (model_in s.dsp.state.replies.dev_info) o s.dsp (fed d.envelope t)).seq) e)
dsp_one s (check t) = go (check_outcome s.dsp.last t) refl
  where
    go : (o : Result (Unit {0}) Refusal) → check_outcome s.dsp.last t ≡ o
        → (judged o (answers.check_accepted s t) (answers.refused s)).session.dsp ≡ (dsps.polled s.dsp t).seq
    go (Ok u) e = branch_dsp (dsp_done s) _ (answers.led s (dsps.polled s.dsp t)) _ refl (led_dsp s (dsps.polled s.dsp t))
    go (Err r) e = sym (ap (λ (o : Result (Unit {0}) Refusal). (dsps.answered (model_in s.dsp.state.replies.dev_info) o s.dsp (checked t)).seq) e)
dsp_one s (ask into_result) = refl
dsp_one s (ask take_refused) = refl
dsp_one s (ask (sheet k buf at)) = refl

pub dsp_all : (s : Session) (cs : List SessionCall) → (after_all after s cs).dsp ≡ after_all dsp.after s.dsp (map dsp_call cs)
dsp_all s [] = refl
dsp_all s (c ∷ cs) = dsp_all (after s c) cs ∙ ap (λ (d : DspSequencer). after_all dsp.after d (map dsp_call cs)) (dsp_one s c)

-- ---- the AVR and the Pi, once the DSP is done

abbrev pub avr_all : Option AvrSequencer → List (Event Dated) → Option AvrSequencer
avr_all None r = None
avr_all (Some v) r = Some (after_all avr.after v (map avr_call r))

abbrev pub pi_all : Option PiSequencer → List (Event Dated) → Option PiSequencer
pi_all None r = None
pi_all (Some v) r = Some (after_all pi.after v (pi_calls r))

-- what a call that is the events r makes of them
pub record Goes (s : Session) (u : Session) (r : List (Event Dated)) : Type 0 where
  pub avr : u.avr ≡ avr_all s.avr r
  pub pi : u.pi ≡ pi_all s.pi r

avr_fed : (o : Option AvrSequencer) (d : Dated) (t : ℕ) → (answers.avr_feed o d t).seq ≡ avr_all o (fed d t ∷ [])
avr_fed None d t = refl
avr_fed (Some v) d t = refl

avr_checked : (o : Option AvrSequencer) (t : ℕ) → (answers.avr_check o t).seq ≡ avr_all o (checked t ∷ [])
avr_checked None t = refl
avr_checked (Some v) t = refl

pi_fed : (o : Option PiSequencer) (d : Dated) (t : ℕ) → (answers.pi_feed o (answers.bare d.envelope)).seq ≡ pi_all o (fed d t ∷ [])
pi_fed None d t = refl
pi_fed (Some v) d t = refl

same_avr : (o : Option AvrSequencer) → o ≡ avr_all o []
same_avr None = refl
same_avr (Some v) = refl

same_pi : (o : Option PiSequencer) (r : List (Event Dated)) → pi_calls r ≡ [] → o ≡ pi_all o r
same_pi None r h = refl
same_pi (Some v) r h = sym (ap (λ (l : List pi.PiCall). Some (after_all pi.after v l)) h)

still : (s : Session) → Goes s s []
still s = record { avr = same_avr s.avr; pi = same_pi s.pi [] refl }

pub one : (s : Session) (c : SessionCall) → dsp_done s ≡ true → Goes s (after s c) (event s.dsp.last c)
one s (feed d t) h =
    judge (λ (f : SessionAnswer) r. Goes s f.session r) (answers.feed_accepted s d t) (answers.refused s) (fed d t) (feed_outcome d.envelope.text d.envelope.payload s.dsp.last t)
    (none (feed_refusals d.envelope.text d.envelope.payload s.dsp.last t)) (feed_accepted d.envelope.text d.envelope.payload s.dsp.last t)
    (λ p. rw h (record { avr = avr_fed s.avr d t; pi = pi_fed s.pi d t }))
    (λ p. still s)
one s (check t) h =
    judge (λ (f : SessionAnswer) r. Goes s f.session r) (answers.check_accepted s t) (answers.refused s) (checked t) (check_outcome s.dsp.last t)
    (none (check_refusals s.dsp.last t)) (check_accepted s.dsp.last t)
    (λ p. rw h (record { avr = avr_checked s.avr t; pi = same_pi s.pi (checked t ∷ []) refl }))
    (λ p. still s)
one s (ask into_result) h = still s
one s (ask take_refused) h = record { avr = same_avr s.avr; pi = same_pi s.pi [] refl }
one s (ask (sheet k buf at)) h = still s
