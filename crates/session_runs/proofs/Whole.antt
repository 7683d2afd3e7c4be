-- The theorem holds.
-- Assumes nothing.
use Prim.Native.Nat.{ℕ, zero-le}
use mathlib.Core.Path.{◌≡◌, refl, sym, ap, subst, subst⁻¹, ◌∙◌}
use mathlib.Core.Bool.{Bool, true, false, cond, true≢false}
use mathlib.Core.List.{List, [], ◌∷◌, ◌++◌, map, append_assoc, append-nil}
use Rattle.std.specs.Prelude.{Option, Some, None, Result, Ok, Err}
use Rattle.protocol.specs.declared.Refusal.{Refusal}
use Rattle.device.specs.declared.model.DeviceModel.{DeviceModel}
use Rattle.device.specs.Model.{model_in, has_camera}
use Rattle.matching.specs.Promise.{after_all, clock, events}
use Rattle.matching.proofs.Embeds.{clock-append}
use Rattle.matching.proofs.Called.{after_append, events-append}
use Rattle.sequence.specs.Accepted.{none, feed_refusals, check_refusals, feed_outcome, check_outcome}
use Rattle.sequence.specs.Events.{Envelope, Event, fed, checked, reading}
use Rattle.sequence.specs.Rows.{judged}
use Rattle.sequence.specs.declared.Answer.{Answer}
use Rattle.sequence.specs.Calls.{feed, check, ask}
use Rattle.sequence.proofs.Acceptance.{feed_accepted, check_accepted}
use Rattle.sequence.proofs.Events.{judge}
use Rattle.sheet.specs.Ticks.{tick_of}
use Rattle.dsp_table.specs.declared.DspStep.{DspStep}
use Rattle.dsp_table.specs.declared.DspStep.TheVariants as D
use Rattle.dsp_table.specs.declared.DspReplies.{DspReplies}
use Rattle.dsp_steps.specs.Answers as dsteps
use Rattle.dsp.specs.declared.DspSequencer.{DspSequencer}
use Rattle.dsp.specs.Answers as dsps
use Rattle.dsp.specs.Calls as dsp
use Rattle.avr_table.specs.Stores.{Dated}
use Rattle.avr.specs.declared.AvrSequencer.{AvrSequencer}
use Rattle.avr.specs.Answers as avrs
use Rattle.avr.specs.Calls as avr
use Rattle.pi.specs.declared.PiSequencer.{PiSequencer}
use Rattle.pi.specs.Answers as pis
use Rattle.pi.specs.Calls as pi
use Rattle.session.specs.declared.Session.{Session}
use Rattle.session.specs.Answers as answers
use Rattle.session.specs.Answers.{dsp_done}
use Rattle.session_runs.specs.Calls.{SessionCall, into_result, take_refused, sheet, after, event, state, run, dsp_call, avr_call, pi_calls}
use Rattle.session_runs.specs.Parts.{dsp_of, done, found, places, EndsIt, Theorem}
use Rattle.session_runs.proofs.Heard.{avr_kept, pi_kept}
use Rattle.session_runs.proofs.Follows.{dsp_one, dsp_all, avr_all, pi_all, Goes, one}

-- ---- a DSP that is done stays done, and every call leaves the last reading of its run

still : (m : DeviceModel) (k : DspStep) (y : DspReplies) (w : Option ℕ) (e : Event Envelope) → dsps.is_done k ≡ true
    → dsps.is_done (dsteps.advance m (record { step = k; replies = y; deadline = w }) e).state.step ≡ true
still m D.WaitStatus y w e h = absurd (true≢false (sym h))
still m D.WaitDspQuery y w e h = absurd (true≢false (sym h))
still m D.WaitDevInfo y w e h = absurd (true≢false (sym h))
still m D.WaitProdInfo0 y w e h = absurd (true≢false (sym h))
still m D.WaitProdInfo1 y w e h = absurd (true≢false (sym h))
still m D.WaitProdInfo2 y w e h = absurd (true≢false (sym h))
still m D.WaitConfig y w e h = absurd (true≢false (sym h))
still m D.WaitPowerMode y w e h = absurd (true≢false (sym h))
still m D.Done y w (fed a t) h = refl
still m D.Done y w (checked t) h = refl

stays : (o : Result (Unit {0}) Refusal) (m : DeviceModel) (v : DspSequencer) (e : Event Envelope) → dsps.is_done v.state.step ≡ true
    → dsps.is_done (dsps.answered m o v e).seq.state.step ≡ true
stays (Ok u) m v e h = still m v.state.step v.state.replies v.state.deadline e h
stays (Err r) m v e h = h

dsp_stays : (v : DspSequencer) (c : SessionCall) → dsps.is_done v.state.step ≡ true → dsps.is_done (dsp.after v (dsp_call c)).state.step ≡ true
dsp_stays v (feed d t) h = stays (feed_outcome d.envelope.text d.envelope.payload v.last t) (model_in v.state.replies.dev_info) v (fed d.envelope t) h
dsp_stays v (check t) h = stays (check_outcome v.last t) (model_in v.state.replies.dev_info) v (checked t) h
dsp_stays v (ask into_result) h = h
dsp_stays v (ask take_refused) h = h
dsp_stays v (ask (sheet k buf at)) h = h

done_stays : (s : Session) (c : SessionCall) → dsp_done s ≡ true → dsp_done (after s c) ≡ true
done_stays s c h = ap (λ (v : DspSequencer). dsps.is_done v.state.step) (dsp_one s c) ∙ dsp_stays s.dsp c h

dsp_clock : (v : DspSequencer) (c : SessionCall) → (dsp.after v (dsp_call c)).last ≡ clock reading v.last (event v.last c)
dsp_clock v (feed d t) =
    judge (λ (f : Answer DspSequencer) (r : List (Event Dated)). f.seq.last ≡ clock reading v.last r)
    (dsps.accepted v.ticks (dsteps.advance (model_in v.state.replies.dev_info) v.state (fed d.envelope t)) (tick_of (λ e. e) (fed d.envelope t))) (λ r. record { outcome = Err r; seq = v }) (fed d t)
    (feed_outcome d.envelope.text d.envelope.payload v.last t) (none (feed_refusals d.envelope.text d.envelope.payload v.last t))
    (feed_accepted d.envelope.text d.envelope.payload v.last t) (λ p. refl) (λ p. refl)
dsp_clock v (check t) =
    judge (λ (f : Answer DspSequencer) (r : List (Event Dated)). f.seq.last ≡ clock reading v.last r)
    (dsps.accepted v.ticks (dsteps.advance (model_in v.state.replies.dev_info) v.state (checked t)) (tick_of (λ (e : Envelope). e) (checked t))) (λ r. record { outcome = Err r; seq = v }) (checked t)
    (check_outcome v.last t) (none (check_refusals v.last t)) (check_accepted v.last t) (λ p. refl) (λ p. refl)
dsp_clock v (ask into_result) = refl
dsp_clock v (ask take_refused) = refl
dsp_clock v (ask (sheet k buf at)) = refl

last_one : (s : Session) (c : SessionCall) → (after s c).dsp.last ≡ clock reading s.dsp.last (event s.dsp.last c)
last_one s c = ap (λ (v : DspSequencer). v.last) (dsp_one s c) ∙ dsp_clock s.dsp c

last_all : (s : Session) (cs : List SessionCall) → (after_all after s cs).dsp.last ≡ clock reading s.dsp.last (events reading event s.dsp.last cs)
last_all s [] = refl
last_all s (c ∷ cs) =
    last_all (after s c) cs
    ∙ ap (λ (n : ℕ). clock reading n (events reading event n cs)) (last_one s c)
    ∙ sym (clock-append reading s.dsp.last (event s.dsp.last c) (events reading event (clock reading s.dsp.last (event s.dsp.last c)) cs))

-- ---- once the DSP is done the others go on by the run

map-append : {A B : Type 0} (f : A → B) (l m : List A) → map f (l ++ m) ≡ map f l ++ map f m
map-append f [] m = refl
map-append f (x ∷ l) m = ap (f x ∷◌) (map-append f l m)

pi_calls-append : (r q : List (Event Dated)) → pi_calls (r ++ q) ≡ pi_calls r ++ pi_calls q
pi_calls-append [] q = refl
pi_calls-append (fed d t ∷ r) q = rw (pi_calls-append r q) refl
pi_calls-append (checked t ∷ r) q = pi_calls-append r q

avr_on : (o : Option AvrSequencer) (r q : List (Event Dated)) → avr_all (avr_all o r) q ≡ avr_all o (r ++ q)
avr_on None r q = refl
avr_on (Some v) r q = ap Some (sym (ap (λ (l : List avr.AvrCall). after_all avr.after v l) (map-append avr_call r q) ∙ after_append avr.after v (map avr_call r) (map avr_call q)))

pi_on : (o : Option PiSequencer) (r q : List (Event Dated)) → pi_all (pi_all o r) q ≡ pi_all o (r ++ q)
pi_on None r q = refl
pi_on (Some v) r q = ap Some (sym (ap (λ (l : List pi.PiCall). after_all pi.after v l) (pi_calls-append r q) ∙ after_append pi.after v (pi_calls r) (pi_calls q)))

nothing : (s : Session) → Goes s s []
nothing s = record { avr = go s.avr; pi = on s.pi }
  where
    go : (o : Option AvrSequencer) → o ≡ avr_all o []
    go None = refl
    go (Some v) = refl

    on : (o : Option PiSequencer) → o ≡ pi_all o []
    on None = refl
    on (Some v) = refl

follow : (s : Session) (cs : List SessionCall) → dsp_done s ≡ true → Goes s (after_all after s cs) (events reading event s.dsp.last cs)
follow s [] h = nothing s
follow s (c ∷ cs) h =
    let g = one s c h in
    let k = follow (after s c) cs (done_stays s c h) in
    let r = event s.dsp.last c in
    let t = last_one s c in
    let q = events reading event (after s c).dsp.last cs in
    record {
      avr = k.avr ∙ ap (λ (o : Option AvrSequencer). avr_all o q) g.avr ∙ avr_on s.avr r q ∙ ap (λ (n : ℕ). avr_all s.avr (r ++ events reading event n cs)) t;
      pi = k.pi ∙ ap (λ (o : Option PiSequencer). pi_all o q) g.pi ∙ pi_on s.pi r q ∙ ap (λ (n : ℕ). pi_all s.pi (r ++ events reading event n cs)) t;
    }

-- ---- before, and at the call that ends the DSP

abbrev avr_begun : DeviceModel → Option AvrSequencer
avr_begun m = Some (avrs.begun m).seq

abbrev pi_begun : DeviceModel → Option PiSequencer
pi_begun m = cond (has_camera m) (Some pis.begun.seq) None

-- nothing else has begun, or, where the DSP is done by v, both have
record Stands (v : DspSequencer) (u : Session) : Type 0 where
  no_avr : dsps.is_done v.state.step ≡ false → u.avr ≡ None
  no_pi : dsps.is_done v.state.step ≡ false → u.pi ≡ None
  avr : dsps.is_done v.state.step ≡ true → u.avr ≡ avr_begun (model_in v.state.replies.dev_info)
  pi : dsps.is_done v.state.step ≡ true → u.pi ≡ pi_begun (model_in v.state.replies.dev_info)

led_stands : (s : Session) (f : Answer DspSequencer) → s.avr ≡ None → s.pi ≡ None → Stands f.seq (answers.led s f).session
led_stands s f h i = go (dsps.is_done f.seq.state.step) refl
  where
    go : (b : Bool) → dsps.is_done f.seq.state.step ≡ b
        → Stands f.seq (cond b (answers.begun_for f.seq (model_in f.seq.state.replies.dev_info)) (answers.accepted (answers.sent f.outcome) None (record { dsp = f.seq; avr = s.avr; pi = s.pi }))).session
    go true e = record { no_avr = λ n. absurd (true≢false (sym e ∙ n)); no_pi = λ n. absurd (true≢false (sym e ∙ n)); avr = λ y. refl; pi = λ y. refl }
    go false e = record { no_avr = λ n. h; no_pi = λ n. i; avr = λ y. absurd (true≢false (sym y ∙ e)); pi = λ y. absurd (true≢false (sym y ∙ e)) }

quiet : (v : DspSequencer) (u : Session) → dsps.is_done v.state.step ≡ false → u.avr ≡ None → u.pi ≡ None → Stands v u
quiet v u e h i = record { no_avr = λ n. h; no_pi = λ n. i; avr = λ y. absurd (true≢false (sym y ∙ e)); pi = λ y. absurd (true≢false (sym y ∙ e)) }

stands_one : (s : Session) (c : SessionCall) → dsp_done s ≡ false → s.avr ≡ None → s.pi ≡ None → Stands (dsp.after s.dsp (dsp_call c)) (after s c)
stands_one s (feed d t) e h i = go (feed_outcome d.envelope.text d.envelope.payload s.dsp.last t) refl
  where
    go : (o : Result (Unit {0}) Refusal) → feed_outcome d.envelope.text d.envelope.payload s.dsp.last t ≡ o
        → Stands (dsps.fed_to s.dsp d.envelope t).seq (judged o (answers.feed_accepted s d t) (answers.refused s)).session
    go (Ok u) j =
        let f = dsps.fed_to s.dsp d.envelope t in
        let v = answers.avr_feed s.avr d t in
        let p = answers.pi_feed s.pi (answers.bare d.envelope) in
        subst⁻¹ (λ (b : Bool). Stands f.seq (cond b (answers.accepted v.action p.action (record { dsp = f.seq; avr = v.seq; pi = p.seq })) (answers.led s f)).session) e (led_stands s f h i)
    go (Err r) j =
        subst⁻¹ (λ (o : Result (Unit {0}) Refusal). Stands (dsps.answered (model_in s.dsp.state.replies.dev_info) o s.dsp (fed d.envelope t)).seq s) j (quiet s.dsp s e h i)
stands_one s (check t) e h i = go (check_outcome s.dsp.last t) refl
  where
    go : (o : Result (Unit {0}) Refusal) → check_outcome s.dsp.last t ≡ o → Stands (dsps.polled s.dsp t).seq (judged o (answers.check_accepted s t) (answers.refused s)).session
    go (Ok u) j =
        let f = dsps.polled s.dsp t in
        let v = answers.avr_check s.avr t in
        subst⁻¹ (λ (b : Bool). Stands f.seq (cond b (answers.accepted v.action None (record { dsp = f.seq; avr = v.seq; pi = s.pi })) (answers.led s f)).session) e (led_stands s f h i)
    go (Err r) j = subst⁻¹ (λ (o : Result (Unit {0}) Refusal). Stands (dsps.answered (model_in s.dsp.state.replies.dev_info) o s.dsp (checked t)).seq s) j (quiet s.dsp s e h i)
stands_one s (ask into_result) e h i = quiet s.dsp s e h i
stands_one s (ask take_refused) e h i = quiet (dsp.after s.dsp (dsp_call (ask take_refused))) (after s (ask take_refused)) e h i
stands_one s (ask (sheet k buf at)) e h i = quiet s.dsp s e h i

done_all : (s : Session) (cs : List SessionCall) → dsp_done s ≡ true → dsp_done (after_all after s cs) ≡ true
done_all s [] h = h
done_all s (c ∷ cs) h = done_all (after s c) cs (done_stays s c h)

record Quiet (s : Session) : Type 0 where
  avr : s.avr ≡ None
  pi : s.pi ≡ None

before : (s : Session) → Quiet s → dsp_done s ≡ false → (cs : List SessionCall) → dsp_done (after_all after s cs) ≡ false → Quiet (after_all after s cs)
before s w e [] h = w
before s w e (c ∷ cs) h = go (λ k i. before (after s c) k i cs h) (dsp_done (after s c)) refl
  where
    go : (Quiet (after s c) → dsp_done (after s c) ≡ false → Quiet (after_all after (after s c) cs)) → (b : Bool) → dsp_done (after s c) ≡ b
        → Quiet (after_all after (after s c) cs)
    go ih true i = absurd (true≢false (sym (done_all (after s c) cs i) ∙ h))
    go ih false i =
        let k = stands_one s c e w.avr w.pi in
        let j : dsps.is_done (dsp.after s.dsp (dsp_call c)).state.step ≡ false = sym (ap (λ (v : DspSequencer). dsps.is_done v.state.step) (dsp_one s c)) ∙ i in
        ih (record { avr = k.no_avr j; pi = k.no_pi j }) i

-- ---- whole

is_dsp : (cs : List SessionCall) → (state cs).dsp ≡ dsp_of cs
is_dsp cs = dsp_all answers.begun.session cs

pub is_done : (cs : List SessionCall) → dsp_done (state cs) ≡ done cs
is_done cs = ap (λ (v : DspSequencer). dsps.is_done v.state.step) (is_dsp cs)

early : (cs : List SessionCall) → done cs ≡ false → Quiet (state cs)
early cs h = before answers.begun.session (record { avr = refl; pi = refl }) refl cs (is_done cs ∙ h)

-- c ends the DSP after pre
begins : (pre : List SessionCall) (c : SessionCall) → done pre ≡ false → done (pre ++ c ∷ []) ≡ true
    → ((state (pre ++ c ∷ [])).avr ≡ avr_begun (found (pre ++ c ∷ []))) × ((state (pre ++ c ∷ [])).pi ≡ pi_begun (found (pre ++ c ∷ [])))
begins pre c h i =
    let s = state pre in
    let w = early pre h in
    let k = stands_one s c (is_done pre ∙ h) w.avr w.pi in
    let on : state (pre ++ c ∷ []) ≡ after s c = after_append after answers.begun.session pre (c ∷ []) in
    let same : dsp.after s.dsp (dsp_call c) ≡ dsp_of (pre ++ c ∷ []) = sym (dsp_one s c) ∙ sym (ap (λ (u : Session). u.dsp) on) ∙ is_dsp (pre ++ c ∷ []) in
    let over : dsps.is_done (dsp.after s.dsp (dsp_call c)).state.step ≡ true = ap (λ (v : DspSequencer). dsps.is_done v.state.step) same ∙ i in (
      ap (λ (u : Session). u.avr) on ∙ k.avr over ∙ ap (λ (v : DspSequencer). avr_begun (model_in v.state.replies.dev_info)) same,
      ap (λ (u : Session). u.pi) on ∙ k.pi over ∙ ap (λ (v : DspSequencer). pi_begun (model_in v.state.replies.dev_info)) same,
    )

-- the calls after it
since : (first post : List SessionCall) → done first ≡ true → Goes (state first) (state (first ++ post)) (places first post)
since first post h =
    let s = state first in
    subst⁻¹ (λ (u : Session). Goes s u (places first post)) (after_append after answers.begun.session first post)
    (subst (λ (n : ℕ). Goes s (after_all after s post) (events reading event n post)) (ap (λ (v : DspSequencer). v.last) (is_dsp first)) (follow s post (is_done first ∙ h)))

pi_since : (m : DeviceModel) (r : List (Event Dated)) → pi_all (pi_begun m) r ≡ cond (has_camera m) (Some (after_all pi.after pis.begun.seq (pi_calls r))) None
pi_since m r = go (has_camera m)
  where
    go : (b : Bool) → pi_all (cond b (Some pis.begun.seq) None) r ≡ cond b (Some (after_all pi.after pis.begun.seq (pi_calls r))) None
    go true = refl
    go false = refl

-- the run of a whole list, from that of its beginning on
places_since : (first later : List SessionCall) → run (first ++ later) ≡ run first ++ places first later
places_since first later =
    events-append reading event 0 first later
    ∙ ap (λ (n : ℕ). run first ++ events reading event n later) (sym (last_all answers.begun.session first) ∙ ap (λ (v : DspSequencer). v.last) (is_dsp first))

-- some call ends a DSP that is done
ended : (pre post : List SessionCall) → done pre ≡ false → done (pre ++ post) ≡ true
    → (a : List SessionCall) × (c : SessionCall) × (b : List SessionCall) × EndsIt (pre ++ post) a c b
ended pre [] h i = absurd (true≢false (sym i ∙ ap done (append-nil pre) ∙ h))
ended pre (c ∷ post) h i = go (ended (pre ++ c ∷ []) post) (done (pre ++ c ∷ [])) refl
  where
    same : (pre ++ c ∷ []) ++ post ≡ pre ++ c ∷ post
    same = append_assoc pre (c ∷ []) post

    go : (done (pre ++ c ∷ []) ≡ false → done ((pre ++ c ∷ []) ++ post) ≡ true
        → (a : List SessionCall) × (x : SessionCall) × (b : List SessionCall) × EndsIt ((pre ++ c ∷ []) ++ post) a x b)
        → (b : Bool) → done (pre ++ c ∷ []) ≡ b → (a : List SessionCall) × (x : SessionCall) × (b : List SessionCall) × EndsIt (pre ++ c ∷ post) a x b
    go ih true p = (pre, c, post, record { split = sym same; before = h; from = p })
    go ih false p =
        let w = ih p (ap done same ∙ i) in
        (w.0, w.1, w.2, record { split = sym same ∙ w.3.split; before = w.3.before; from = w.3.from })

pub right : Theorem
right cs =
    record {
      is_dsp = is_dsp cs;
      no_avr = λ h. (early cs h).avr;
      no_pi = λ h. (early cs h).pi;
      ended = λ h. ended [] cs refl h;
      is_avr = λ pre c post e.
          let first = pre ++ c ∷ [] in
          let b = begins pre c e.before e.from in
          let w = since first post e.from in
          ap (λ (l : List SessionCall). (state l).avr) e.split ∙ w.avr ∙ ap (λ (o : Option AvrSequencer). avr_all o (places first post)) b.0;
      is_pi = λ pre c post e.
          let first = pre ++ c ∷ [] in
          let b = begins pre c e.before e.from in
          let w = since first post e.from in
          ap (λ (l : List SessionCall). (state l).pi) e.split ∙ w.pi ∙ ap (λ (o : Option PiSequencer). pi_all o (places first post)) b.1 ∙ pi_since (found first) (places first post);
      places_since = λ first later e. ap run e ∙ places_since first later;
      avr_run = λ first later e. avr_kept 0 (dsp_of first).last zero-le later;
      pi_run = λ first later e. pi_kept (dsp_of first).last later;
    }
