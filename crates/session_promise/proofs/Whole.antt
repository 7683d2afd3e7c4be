-- A session's Done, and its result.
-- Assumes nothing.
use Prim.Native.Nat.{ℕ}
use mathlib.Core.Path.{◌≡◌, refl, sym, ap, subst, subst⁻¹, ◌∙◌}
use mathlib.Core.Logic.{◌↔◌}
use mathlib.Core.Bool.{Bool, true, false, cond, ◌&&◌, true≢false}
use mathlib.Core.List.{List, [], ◌∷◌, ◌++◌, map}
use Rattle.std.specs.Prelude.{Option, Some, None, Result, Ok, Err}
use Rattle.std.proofs.lemmas.List.{map-append}
use Rattle.protocol.specs.declared.Refusal.{Refusal}
use Rattle.protocol.specs.Refusals.{outcome, lowest}
use Rattle.device.specs.declared.model.DeviceModel.{DeviceModel}
use Rattle.device.specs.Model.{has_camera, has_factory_cal}
use Rattle.matching.specs.Matching.{Matching, Earliest}
use Rattle.matching.specs.Promise.{events, tick}
use Rattle.matching.proofs.Leftmost.{earliest_unique}
use Rattle.matching.proofs.Called.{events-append}
use Rattle.sequence.specs.Accepted.{result_refusals}
use Rattle.sequence.specs.Events.{Envelope, Event, fed, checked, reading}
use Rattle.sequence.specs.Rows.{judged}
use Rattle.sequence.specs.Calls.{ask, Untimed}
use Rattle.dsp_table.specs.Table as dsp_table
use Rattle.dsp.specs.declared.DspSequencer.{DspSequencer}
use Rattle.dsp.specs.declared.DspSync.{DspSync}
use Rattle.dsp.specs.Answers as dsps
use Rattle.dsp.specs.Calls as dsp
use Rattle.dsp_runs.specs.Theorem as dsp_theorem
use Rattle.dsp_runs.proofs.Whole as dsp_runs
use Rattle.avr_table.specs.Stores.{Dated}
use Rattle.avr_table.specs.Table as avr_table
use Rattle.avr_table.specs.declared.AvrStep.{AvrStep}
use Rattle.avr_table.specs.declared.AvrStep.TheVariants as A
use Rattle.avr.specs.declared.AvrSequencer.{AvrSequencer}
use Rattle.avr.specs.declared.AvrSync.{AvrSync}
use Rattle.avr.specs.Answers as avr
use Rattle.avr.specs.Calls as avr_calls
use Rattle.avr_runs.specs.Theorem as avr_theorem
use Rattle.avr_runs.proofs.Whole as avr_runs
use Rattle.pi_table.specs.Table as pi_table
use Rattle.pi_table.specs.declared.PiStep.{PiStep}
use Rattle.pi_table.specs.declared.PiStep.TheVariants as P
use Rattle.pi.specs.declared.PiSequencer.{PiSequencer}
use Rattle.pi.specs.declared.PiSync.{PiSync}
use Rattle.pi.specs.Answers as pi
use Rattle.pi.specs.Calls as pi_asked
use Rattle.pi_runs.specs.Theorem as pi_theorem
use Rattle.pi_runs.proofs.Whole as pi_runs
use Rattle.session.specs.declared.SessionSync.{SessionSync}
use Rattle.session.specs.Answers as answers
use Rattle.session.specs.Answers.{dsp_done, avr_done, pi_done, is_done, pi_sync, finished_with, finished}
use Rattle.session_runs.specs.Calls.{SessionCall, into_result, state, after, dsp_call, avr_call, pi_calls, pi_events}
use Rattle.session_runs.specs.Parts.{places}
use Rattle.session_promise.specs.Places.{dsp_event, Names, DspFirst, part, AvrTicked, AvrFirst, PiTicked, PiFirst}
use Rattle.session_promise.specs.Whole.{at, AllTicked, AllFirst, result_of, Theorem}
use Rattle.session_promise.proofs.Start.{follows, names_beginning, dsp_ends, done_iff, stays, part_grows}
use Rattle.session_promise.proofs.Ticking.{avr_of, pi_of, is_avr, is_pi, no_camera, avr_part, pi_part, avr_run, pi_run}
use Rattle.session_promise.proofs.Through as through

-- ---- the test of a step, and the step

avr_is : (k : AvrStep) → avr.is_done k ≡ true → k ≡ A.Done
avr_is A.WaitStatus1 h = absurd (true≢false (sym h))
avr_is A.WaitStatus2 h = absurd (true≢false (sym h))
avr_is A.WaitDevInfo1 h = absurd (true≢false (sym h))
avr_is A.WaitDevInfo2 h = absurd (true≢false (sym h))
avr_is A.WaitParam0C h = absurd (true≢false (sym h))
avr_is A.WaitParam0D h = absurd (true≢false (sym h))
avr_is A.WaitConfig h = absurd (true≢false (sym h))
avr_is A.WaitFactoryCal h = absurd (true≢false (sym h))
avr_is A.WaitIfCal h = absurd (true≢false (sym h))
avr_is A.WaitAvrConfig h = absurd (true≢false (sym h))
avr_is A.WaitParam64 h = absurd (true≢false (sym h))
avr_is A.WaitTimeSync h = absurd (true≢false (sym h))
avr_is A.Done h = refl

pi_is : (k : PiStep) → pi.is_done k ≡ true → k ≡ P.Done
pi_is P.WaitStatus h = absurd (true≢false (sym h))
pi_is P.WaitDevInfo h = absurd (true≢false (sym h))
pi_is P.WaitParam0A h = absurd (true≢false (sym h))
pi_is P.WaitCamConfig1 h = absurd (true≢false (sym h))
pi_is P.WaitCamConfig2 h = absurd (true≢false (sym h))
pi_is P.WaitNetConfig h = absurd (true≢false (sym h))
pi_is P.WaitNetConfigPw h = absurd (true≢false (sym h))
pi_is (P.WaitParams i) h = absurd (true≢false (sym h))
pi_is P.Done h = refl

-- ---- done

both : (a b : Bool) → a && b ≡ true → (a ≡ true) × (b ≡ true)
both true b h = (refl, h)
both false b h = absurd (true≢false (sym h))

module _ (m : DeviceModel) (cs : List SessionCall) (n : Names m cs) where
  avr_iff : (ps : List ℕ) → DspFirst m cs ps → avr_done (state cs).avr ≡ true ↔ AvrTicked m cs ps
  avr_iff ps f =
      let w = avr_part m cs n ps f in (
        λ h. w.done.0 (avr_is w.seq.state.step (sym (ap avr_done w.there) ∙ h)),
        λ k. ap avr_done w.there ∙ ap avr.is_done (w.done.1 k),
      )

  pi_iff : (ps : List ℕ) → DspFirst m cs ps → pi_done (state cs).pi ≡ true ↔ (has_camera m ≡ true → PiTicked m cs ps)
  pi_iff ps f = (
    λ h camera. let w = pi_part m cs n ps f camera in w.done.0 (pi_is w.seq.step (sym (ap pi_done w.there) ∙ h)),
    λ k. go k (has_camera m) refl,
  )
    where
      go : (has_camera m ≡ true → PiTicked m cs ps) → (b : Bool) → has_camera m ≡ b → pi_done (state cs).pi ≡ true
      go k true h = let w = pi_part m cs n ps f h in ap pi_done w.there ∙ ap pi.is_done (w.done.1 (k h))
      go k false h = ap pi_done (no_camera m cs n h)

  done : is_done (state cs) ≡ true ↔ AllTicked m cs
  done = (
    λ h.
        let two = both (dsp_done (state cs) && avr_done (state cs).avr) (pi_done (state cs).pi) h in
        let one = both (dsp_done (state cs)) (avr_done (state cs).avr) two.0 in
        let q = (dsp_ends m cs n).first ((done_iff m cs n).0 one.0) in
        (q.0, q.1, (avr_iff q.0 q.1).0 one.1, (pi_iff q.0 q.1).0 two.1),
    λ k. rw ((done_iff m cs n).1 (k.0, k.1.matching), (avr_iff k.0 k.1).1 k.2, (pi_iff k.0 k.1).1 k.3) refl,
  )

  first : AllTicked m cs → (ps : List ℕ) × (qs : List ℕ) × (rs : List ℕ) × AllFirst m cs ps qs rs
  first k =
      let q = (avr_part m cs n k.0 k.1).first k.2 in
      go k.0 k.1 k.3 q.0 q.1 (has_camera m) refl
    where
      go : (ps : List ℕ) (f : DspFirst m cs ps) → (has_camera m ≡ true → PiTicked m cs ps) → (qs : List ℕ) → AvrFirst m cs ps qs → (b : Bool) → has_camera m ≡ b
          → (ps : List ℕ) × (qs : List ℕ) × (rs : List ℕ) × AllFirst m cs ps qs rs
      go ps f t qs g true h =
          let r = (pi_part m cs n ps f h).first (t h) in
          (ps, qs, r.0, record { dsp = f; avr = g; pi = λ i. r.1 })
      go ps f t qs g false h = (ps, qs, [], record { dsp = f; avr = g; pi = λ i. absurd (true≢false (sym i ∙ h)) })

-- ---- the results of the three

abbrev from_ok : {X : Type 0} → X → Result X Refusal → X
from_ok d (Ok x) = x
from_ok d (Err r) = d

dsp_sync : (v : DspSequencer) (r : DspSync) → dsps.is_done v.state.step ≡ true → dsps.finished v ≡ Ok r → dsps.sync_of v.state.replies ≡ r
dsp_sync v r h e =
    ap (from_ok r) (sym (ap (λ (b : Bool). judged (outcome (lowest (result_refusals b))) (Ok (dsps.sync_of v.state.replies)) (λ q. Err q)) h) ∙ e)

avr_sync : (v : AvrSequencer) (r : AvrSync) → avr.is_done v.state.step ≡ true → avr.finished v ≡ Ok r → avr.sync_of v.state.replies ≡ r
avr_sync v r h e =
    ap (from_ok r) (sym (ap (λ (b : Bool). judged (outcome (lowest (result_refusals b))) (Ok (avr.sync_of v.state.replies)) (λ q. Err q)) h) ∙ e)

pi_synced : (v : PiSequencer) (r : PiSync) → pi.is_done v.step ≡ true → pi.finished v ≡ Ok r → pi.sync_of v.replies ≡ r
pi_synced v r h e =
    ap (from_ok r) (sym (ap (λ (b : Bool). judged (outcome (lowest (result_refusals b))) (Ok (pi.sync_of v.replies)) (λ q. Err q)) h) ∙ e)

-- a run with a result asked for inside
avr_asking : (a b : List avr_calls.AvrCall) → events reading avr_calls.event 0 (a ++ ask avr_calls.into_result ∷ b) ≡ events reading avr_calls.event 0 (a ++ b)
avr_asking a b = events-append reading avr_calls.event 0 a (ask avr_calls.into_result ∷ b) ∙ sym (events-append reading avr_calls.event 0 a b)

pi_asking : (a b : List pi_asked.PiCall) → events reading pi_asked.event 0 (a ++ Untimed.ask pi_asked.into_result ∷ b) ≡ events reading pi_asked.event 0 (a ++ b)
pi_asking a b = events-append reading pi_asked.event 0 a (Untimed.ask pi_asked.into_result ∷ b) ∙ sym (events-append reading pi_asked.event 0 a b)

pi_calls-append : (r q : List (Event Dated)) → pi_calls (r ++ q) ≡ pi_calls r ++ pi_calls q
pi_calls-append [] q = refl
pi_calls-append (fed d t ∷ r) q = rw (pi_calls-append r q) refl
pi_calls-append (checked t ∷ r) q = pi_calls-append r q

-- of a part r, and what comes after it; the run is that of both
avr_result : (m : DeviceModel) (r q whole : List (Event Dated)) (qs : List ℕ) → whole ≡ r ++ q
    → events reading avr_calls.event 0 (map avr_call r) ≡ r → events reading avr_calls.event 0 (map avr_call whole) ≡ whole
    → (ks : List ℕ) × Matching reading (checked 0) (avr_table.table m) r ks → Earliest reading (checked 0) (avr_table.table m) whole qs
    → avr.finished (avr_of m r) ≡ Ok (avr_theorem.result_of (has_factory_cal m) (at whole qs))
avr_result m r q whole qs e mine all k f =
    let a = map avr_call r in
    let b = map avr_call q in
    let cs = a ++ ask avr_calls.into_result ∷ b in
    let runs : events reading avr_calls.event 0 cs ≡ whole =
    avr_asking a b ∙ ap (events reading avr_calls.event 0) (sym (map-append avr_call r q) ∙ ap (map avr_call) (sym e)) ∙ all in
    let ticked = subst⁻¹ (λ (l : List (Event Dated)). (ks : List ℕ) × Matching reading (checked 0) (avr_table.table m) l ks) mine k in
    let first = subst⁻¹ (λ (l : List (Event Dated)). Earliest reading (checked 0) (avr_table.table m) l qs) runs f in
    (avr_runs.right m cs).asked.from a b refl ticked qs first
    ∙ ap (λ (l : List (Event Dated)). Ok (avr_theorem.result_of (has_factory_cal m) (at l qs))) runs

pi_result : (r q whole : List (Event Dated)) (rs : List ℕ) → whole ≡ r ++ q
    → events reading pi_asked.event 0 (pi_calls r) ≡ pi_events r → events reading pi_asked.event 0 (pi_calls whole) ≡ pi_events whole
    → (ks : List ℕ) × Matching reading (checked 0) pi_table.table (pi_events r) ks → Earliest reading (checked 0) pi_table.table (pi_events whole) rs
    → pi.finished (pi_of r) ≡ Ok (pi_theorem.result_of (at (pi_events whole) rs))
pi_result r q whole rs e mine all k f =
    let a = pi_calls r in
    let b = pi_calls q in
    let cs = a ++ Untimed.ask pi_asked.into_result ∷ b in
    let runs : events reading pi_asked.event 0 cs ≡ pi_events whole =
    pi_asking a b ∙ ap (events reading pi_asked.event 0) (sym (pi_calls-append r q) ∙ ap pi_calls (sym e)) ∙ all in
    let ticked = subst⁻¹ (λ (l : List (Event Envelope)). (ks : List ℕ) × Matching reading (checked 0) pi_table.table l ks) mine k in
    let first = subst⁻¹ (λ (l : List (Event Envelope)). Earliest reading (checked 0) pi_table.table l rs) runs f in
    (pi_runs.right cs).asked.from a b refl ticked rs first
    ∙ ap (λ (l : List (Event Envelope)). Ok (pi_theorem.result_of (at l rs))) runs

-- ---- the session's

abbrev sync_with : DspSync → AvrSync → Option PiSync → SessionSync
sync_with a b c = record { dsp = a; avr = b; pi = c }

same_sync : {a x : DspSync} {b y : AvrSync} {c z : Option PiSync} → a ≡ x → b ≡ y → c ≡ z → sync_with a b c ≡ sync_with x y z
same_sync h i j = rw (h, i, j) refl

module _ (m : DeviceModel) (cs : List SessionCall) (n : Names m cs) (pre post : List SessionCall) (e : cs ≡ pre ++ ask into_result ∷ post) where
  names : Names m pre
  names = names_beginning pre (ask into_result ∷ post) e n

  too_early : (AllTicked m pre → ⊥) → finished (state pre) ≡ Err Refusal.NotDone
  too_early un = go (is_done (state pre)) refl
    where
      go : (b : Bool) → is_done (state pre) ≡ b → cond b (finished_with (state pre) (state pre).avr) (Err Refusal.NotDone) ≡ Err Refusal.NotDone
      go true h = absurd (un ((done m pre names).0 h))
      go false h = refl

  abbrev rest : List (Event Dated)
  rest = places pre (ask into_result ∷ post)

  module _ (ps : List ℕ) (whole : DspFirst m cs ps) (f : DspFirst m pre ps) where
    dsp_given : dsps.sync_of (state pre).dsp.state.replies
        ≡ dsp_theorem.result_of m (tick reading (checked 0) dsp_event answers.begun.session after cs ps)
    dsp_given =
        dsp_sync (state pre).dsp _ ((done_iff m pre names).1 (ps, f.matching))
        ((through.answers reading (checked 0) dsp.event answers.begun.session after dsps.begun.seq dsp.after (dsp_table.table m) dsp_call (λ s. s.dsp) follows
        (ask into_result) dsps.finished (Err Refusal.NotDone) (λ later is. Ok (dsp_theorem.result_of m is)) cs
        (dsp_runs.right.right m (map dsp_call cs) n).asked).from pre post e (ps, f.matching) ps whole)

    avr_given : (qs : List ℕ) → AvrTicked m pre ps → AvrFirst m cs ps qs
        → avr.sync_of (avr_of m (part m pre ps)).state.replies ≡ avr_theorem.result_of (has_factory_cal m) (at (part m cs ps) qs)
    avr_given qs k g =
        avr_sync (avr_of m (part m pre ps)) _ (sym (ap avr_done (is_avr m pre names ps f)) ∙ (avr_iff m pre names ps f).1 k)
        (avr_result m (part m pre ps) rest (part m cs ps) qs (part_grows m pre (ask into_result ∷ post) ps e f)
        (avr_run m pre names ps f) (avr_run m cs n ps whole) k g)

    pi_given : (rs : List ℕ) → (has_camera m ≡ true → PiTicked m pre ps) → (has_camera m ≡ true → PiFirst m cs ps rs)
        → pi_sync (state pre).pi ≡ cond (has_camera m) (Some (pi_theorem.result_of (at (pi_events (part m cs ps)) rs))) None
    pi_given rs k g = go (has_camera m) refl
      where
        go : (b : Bool) → has_camera m ≡ b → pi_sync (state pre).pi ≡ cond b (Some (pi_theorem.result_of (at (pi_events (part m cs ps)) rs))) None
        go false h = ap pi_sync (no_camera m pre names h)
        go true h =
            ap pi_sync (is_pi m pre names ps f h)
            ∙ ap Some (pi_synced (pi_of (part m pre ps)) _ (sym (ap pi_done (is_pi m pre names ps f h)) ∙ (pi_iff m pre names ps f).1 k)
            (pi_result (part m pre ps) rest (part m cs ps) rs (part_grows m pre (ask into_result ∷ post) ps e f)
            (pi_run m pre names ps f) (pi_run m cs n ps whole) (k h) (g h)))

  ready : AllTicked m pre → (ps qs rs : List ℕ) → AllFirst m cs ps qs rs → finished (state pre) ≡ Ok (result_of m cs ps qs rs)
  ready k ps qs rs f =
      let g = stays m pre (ask into_result ∷ post) e (k.0, k.1.matching) f.dsp in
      let same = earliest_unique k.1 g in
      let avr_ticked = subst (λ (l : List ℕ). AvrTicked m pre l) same k.2 in
      let pi_ticked = subst (λ (l : List ℕ). has_camera m ≡ true → PiTicked m pre l) same k.3 in
      ap (λ (b : Bool). cond b (finished_with (state pre) (state pre).avr) (Err Refusal.NotDone)) ((done m pre names).1 k)
      ∙ ap (finished_with (state pre)) (is_avr m pre names ps g)
      ∙ ap Ok (same_sync (dsp_given ps f.dsp g) (avr_given ps f.dsp g qs avr_ticked f.avr) (pi_given ps f.dsp g rs pi_ticked f.pi))

pub whole : Theorem
whole m cs n =
    record {
      done = done m cs n;
      first = first m cs n;
      before = λ pre post e un. too_early m cs n pre post e un;
      from = λ pre post e k ps qs rs f. ready m cs n pre post e k ps qs rs f;
    }
