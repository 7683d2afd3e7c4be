-- The place that ends the DSP's earliest ticking is the one that the call is which ends the DSP; and what is known of the DSP's tickings over a
-- beginning of a list of calls.
-- Assumes nothing.
use Prim.Native.Nat.{ℕ, suc, ◌+◌, ◌-◌, ◌≤◌, ◌<◌}
use native.Mathlib.Decide.{dec_lt}
use native.Mathlib.Omega.{arith}
use mathlib.Core.Path.{◌≡◌, refl, sym, ap, subst, subst⁻¹, ◌∙◌}
use mathlib.Core.Logic.{◌↔◌}
use mathlib.Core.Bool.{Bool, true, false, cond, true≢false}
use mathlib.Core.List.{List, [], ◌∷◌, ◌++◌, map, append-nil}
use lib.ListN.{length, get_or, drop, length-append, get_or-append}
use Rattle.std.proofs.lemmas.List.{map-append, drop-append-le}
use Rattle.std.proofs.Math.Seq.{drop-append_seam}
use Rattle.device.specs.declared.model.DeviceModel.{DeviceModel}
use Rattle.device.specs.Model.{model_of}
use Rattle.matching.specs.Matching.{Earliest}
use Rattle.matching.specs.Promise.{Each, after_all, clock, events, Ends}
use Rattle.matching.proofs.Machine.{Antitone, Rising}
use Rattle.matching.proofs.Leftmost.{leftmost_earliest, earliest_unique}
use Rattle.matching.proofs.Ticked.{earliest_prefix}
use Rattle.matching.proofs.Called.{events-append, events_rise}
use Rattle.matching.proofs.Spelled.{spelled}
use Rattle.sequence.specs.Accepted.{none, feed_refusals, check_refusals}
use Rattle.sequence.specs.Events.{Envelope, Event, fed, checked, reading}
use Rattle.sequence.specs.Calls.{feed, check, ask}
use Rattle.sequence.proofs.Events.{few, rises}
use Rattle.sequence.proofs.Standing as rows
use Rattle.dsp_table.specs.declared.DspStep.{DspStep}
use Rattle.dsp_table.specs.declared.DspStep.TheVariants as D
use Rattle.dsp_table.specs.Table.{row, next, steps_for, table}
use Rattle.dsp.specs.declared.DspSequencer.{DspSequencer}
use Rattle.dsp.specs.Answers as dsps
use Rattle.dsp.specs.Calls as dsp
use Rattle.dsp_runs.specs.Theorem as dsp_theorem
use Rattle.dsp_runs.specs.Theorem.{opening, payload_in}
use Rattle.dsp_runs.proofs.OneModel.{opening_antitone, agree, knows_done}
use Rattle.dsp_runs.proofs.Whole as dsp_runs
use Rattle.avr_table.specs.Stores.{Dated}
use Rattle.session.specs.Answers as answers
use Rattle.session.specs.Answers.{dsp_done}
use Rattle.session_runs.specs.Calls.{SessionCall, into_result, take_refused, sheet, state, after, event, run, dsp_call}
use Rattle.session_runs.specs.Parts.{dsp_of, done, found, places, EndsIt}
use Rattle.session_runs.proofs.Whole as parts
use Rattle.session_promise.specs.Places.{dsp_event, Names, DspTicked, DspFirst, start, part}
use Rattle.session_promise.proofs.Prefix.{restrict}
use Rattle.session_promise.proofs.Through as through

abbrev nil : Event Envelope
nil = checked 0

abbrev pub dsp_run : List SessionCall → List (Event Envelope)
dsp_run cs = events reading dsp_event 0 cs

-- ---- a list whose beginning names a model

names_first : (m : DeviceModel) (xs ys : List dsp.DspCall) → dsp_theorem.Names m (xs ++ ys) → dsp_theorem.Names m xs
names_first m xs ys n ps f =
    let a = events reading dsp.event 0 xs in
    let b = events reading dsp.event (clock reading 0 a) ys in
    let r = events reading dsp.event 0 (xs ++ ys) in
    let same : r ≡ a ++ b = events-append reading dsp.event 0 xs ys in
    let up : Rising reading 0 r = events_rise reading dsp.event (rises (λ e. e)) 0 (xs ++ ys) in
    let whole = earliest_prefix reading nil opening opening_antitone a b (subst (λ (l : List (Event Envelope)). Rising reading 0 l) same up) f in
    let third : (l : List (Event Envelope)) → get_or (map (λ p. get_or l p nil) ps) 2 nil ≡ get_or l (get_or ps 2 0) nil =
    λ l. ap (λ (qs : List ℕ). get_or (map (λ p. get_or l p nil) qs) 2 nil) (spelled 0 ps 3 f.matching.one) in
    ap (λ (e : Event Envelope). model_of (payload_in e))
    (third a ∙ sym (get_or-append a b nil (get_or ps 2 0) (f.matching.inside 2 (omega (arith, f.matching.one)))) ∙ ap (λ (l : List (Event Envelope)). get_or l (get_or ps 2 0) nil) (sym same) ∙ sym (third r))
    ∙ n ps (subst⁻¹ (λ (l : List (Event Envelope)). Earliest reading nil opening l ps) same whole)

pub names_beginning : {m : DeviceModel} {cs : List SessionCall} (pre post : List SessionCall) → cs ≡ pre ++ post → Names m cs → Names m pre
names_beginning {m} pre post e n =
    names_first m (map dsp_call pre) (map dsp_call post) (subst (λ (l : List dsp.DspCall). dsp_theorem.Names m l) (ap (map dsp_call) e ∙ map-append dsp_call pre post) n)

-- ---- when the DSP is done

pub follows : (cs : List SessionCall) → (state cs).dsp ≡ after_all dsp.after dsps.begun.seq (map dsp_call cs)
follows cs = (parts.right cs).is_dsp

pub dsp_ends : (m : DeviceModel) (cs : List SessionCall) → Names m cs
    → Ends reading (checked 0) dsp_event answers.begun.session after (table m) (λ s. s.dsp.state.step ≡ DspStep.Done) cs
dsp_ends m cs n =
    through.ends reading nil dsp.event answers.begun.session after dsps.begun.seq dsp.after (table m) dsp_call (λ s. s.dsp) follows
    (λ v. v.state.step ≡ DspStep.Done) cs (dsp_runs.right.right m (map dsp_call cs) n).ends

dsp_is : (k : DspStep) → dsps.is_done k ≡ true → k ≡ D.Done
dsp_is D.WaitStatus h = absurd (true≢false (sym h))
dsp_is D.WaitDspQuery h = absurd (true≢false (sym h))
dsp_is D.WaitDevInfo h = absurd (true≢false (sym h))
dsp_is D.WaitProdInfo0 h = absurd (true≢false (sym h))
dsp_is D.WaitProdInfo1 h = absurd (true≢false (sym h))
dsp_is D.WaitProdInfo2 h = absurd (true≢false (sym h))
dsp_is D.WaitConfig h = absurd (true≢false (sym h))
dsp_is D.WaitPowerMode h = absurd (true≢false (sym h))
dsp_is D.Done h = refl

pub done_iff : (m : DeviceModel) (cs : List SessionCall) → Names m cs → dsp_done (state cs) ≡ true ↔ DspTicked m cs
done_iff m cs n =
    let w = (dsp_ends m cs n).done in
    (λ h. w.0 (dsp_is (state cs).dsp.state.step h), λ k. ap dsps.is_done (w.1 k))

-- the same of the DSP start-up of these calls
pub same_done : (cs : List SessionCall) → done cs ≡ dsp_done (state cs)
same_done cs = sym (ap (λ (v : DspSequencer). dsps.is_done v.state.step) (follows cs))

-- ---- its tickings over a beginning of the list

anti : (m : DeviceModel) → Each Antitone (table m)
anti m = rows.table_antitone (row m) (next m) DspStep.Done (steps_for m)

dsp_rises : (cs : List SessionCall) → Rising reading 0 (dsp_run cs)
dsp_rises cs = events_rise reading dsp_event (λ t c. rises (λ e. e) t (dsp_call c)) 0 cs

module _ (m : DeviceModel) {cs : List SessionCall} (pre post : List SessionCall) (e : cs ≡ pre ++ post) where
  abbrev behind : List (Event Envelope)
  behind = events reading dsp_event (clock reading 0 (dsp_run pre)) post

  pub split_run : dsp_run cs ≡ dsp_run pre ++ behind
  split_run = ap dsp_run e ∙ events-append reading dsp_event 0 pre post

  -- once the table is ticked off, the earliest ticking stays
  pub stays : DspTicked m pre → {ps : List ℕ} → DspFirst m cs ps → DspFirst m pre ps
  stays k {ps} f =
      let x = leftmost_earliest (anti m) (dsp_rises pre) k.0 k.1 in
      let up = subst (λ (l : List (Event Envelope)). Rising reading 0 l) split_run (dsp_rises cs) in
      let whole = earliest_prefix reading nil (table m) (anti m) (dsp_run pre) behind up x in
      let here = subst (λ (l : List (Event Envelope)). Earliest reading nil (table m) l ps) split_run f in
      subst (λ (qs : List ℕ). Earliest reading nil (table m) (dsp_run pre) qs) (earliest_unique whole here) x

  -- and one whose last place is in the beginning is its
  pub begins : {ps : List ℕ} → DspFirst m cs ps → start m cs ps < length (dsp_run pre) → DspTicked m pre
  begins {ps} f h =
      (ps, restrict (dsp_run pre) behind (subst (λ (l : List (Event Envelope)). Earliest reading nil (table m) l ps) split_run f).matching h)

-- ---- as many places as the session's run

abbrev from_dsp : ℕ → List SessionCall → List (Event Envelope)
from_dsp l cs = events reading dsp_event l cs

abbrev from_all : ℕ → List SessionCall → List (Event Dated)
from_all l cs = events reading event l cs

abbrev dsp_clock : ℕ → List (Event Envelope) → ℕ
dsp_clock l r = clock reading l r

abbrev all_clock : ℕ → List (Event Dated) → ℕ
all_clock l r = clock reading l r

same_length : (l : ℕ) (cs : List SessionCall) → length (from_dsp l cs) ≡ length (from_all l cs)
same_length l [] = refl
same_length l (feed d t ∷ cs) = go (none (feed_refusals d.envelope.text d.envelope.payload l t)) (same_length t cs) (same_length l cs)
  where
    go : (b : Bool) → length (from_dsp t cs) ≡ length (from_all t cs) → length (from_dsp l cs) ≡ length (from_all l cs)
        → length (cond b (fed d.envelope t ∷ []) [] ++ from_dsp (dsp_clock l (cond b (fed d.envelope t ∷ []) [])) cs)
        ≡ length (cond b (fed d t ∷ []) [] ++ from_all (all_clock l (cond b (fed d t ∷ []) [])) cs)
    go true ih jh = ap suc ih
    go false ih jh = jh
same_length l (check t ∷ cs) = go (none (check_refusals l t)) (same_length t cs) (same_length l cs)
  where
    go : (b : Bool) → length (from_dsp t cs) ≡ length (from_all t cs) → length (from_dsp l cs) ≡ length (from_all l cs)
        → length (cond b (checked t ∷ []) [] ++ from_dsp (dsp_clock l (cond b (checked t ∷ []) [])) cs)
        ≡ length (cond b (checked t ∷ []) [] ++ from_all (all_clock l (cond b (checked t ∷ []) [])) cs)
    go true ih jh = ap suc ih
    go false ih jh = jh
same_length l (ask into_result ∷ cs) = same_length l cs
same_length l (ask take_refused ∷ cs) = same_length l cs
same_length l (ask (sheet k buf at) ∷ cs) = same_length l cs

pub same_places : (cs : List SessionCall) → length (dsp_run cs) ≡ length (run cs)
same_places cs = same_length 0 cs

-- ---- the start

module _ (m : DeviceModel) (cs : List SessionCall) (n : Names m cs) (ps : List ℕ) (f : DspFirst m cs ps) where
  pub inside : start m cs ps < length (run cs)
  inside = omega (arith, f.matching.inside (length (table m) - 1) (omega (arith, f.matching.one)), same_places cs)

  module _ (pre : List SessionCall) (c : SessionCall) (post : List SessionCall) (e : EndsIt cs pre c post) where
    abbrev first : List SessionCall
    first = pre ++ c ∷ []

    names : Names m first
    names = names_beginning first post e.split n

    ticked : DspTicked m first
    ticked = (done_iff m first names).0 (sym (same_done first) ∙ e.from)

    there : DspFirst m first ps
    there = stays m first post e.split ticked f

    not_yet : DspTicked m pre → ⊥
    not_yet k =
        true≢false (sym ((done_iff m pre (names_beginning pre (c ∷ []) refl names)).1 k) ∙ (sym (same_done pre) ∙ e.before))

    last_call : length (run first) ≤ length (run pre) + 1
    last_call =
        omega (
          arith,
          same_places first,
          same_places pre,
          ap length (split_run m pre (c ∷ []) refl),
          length-append (dsp_run pre) (behind m pre (c ∷ []) refl),
          ap length (append-nil (dsp_event (clock reading 0 (dsp_run pre)) c)),
          few (λ (v : Envelope). v) (clock reading 0 (dsp_run pre)) (dsp_call c),
        )

    pub is_start : (start m cs ps ≡ length (run pre)) × (length (run first) ≡ length (run pre) + 1)
    is_start = go (dec_lt (start m cs ps) (length (run pre)))
      where
        before_end : start m cs ps < length (run first)
        before_end = omega (arith, there.matching.inside (length (table m) - 1) (omega (arith, there.matching.one)), same_places first)

        go : Dec (start m cs ps < length (run pre)) → (start m cs ps ≡ length (run pre)) × (length (run first) ≡ length (run pre) + 1)
        go (yes h) = absurd (not_yet (begins m pre (c ∷ []) refl there (omega (arith, same_places pre))))
        go (no h) = (omega (arith, before_end, last_call), omega (arith, before_end, last_call))

    -- the part since is what the calls after it are
    pub is_part : part m cs ps ≡ places first post
    is_part =
        let many : suc (start m cs ps) ≡ length (run first) = omega (arith, is_start.0, is_start.1) in
        ap (λ (k : ℕ). drop k (run cs)) many ∙ ap (drop (length (run first))) ((parts.right cs).places_since first post e.split)
        ∙ drop-append_seam (run first) (places first post)

    -- and the model found is m
    pub is_model : found first ≡ m
    is_model =
        let split = ap (map dsp_call) e.split ∙ map-append dsp_call first post in
        knows_done m (dsp_of first).state (agree m (map dsp_call cs) n (map dsp_call first) (map dsp_call post) split).1 e.from

-- the part grows with the list
pub part_grows : (m : DeviceModel) {cs : List SessionCall} (pre post : List SessionCall) (ps : List ℕ) → cs ≡ pre ++ post → DspFirst m pre ps
    → part m cs ps ≡ part m pre ps ++ places pre post
part_grows m {cs} pre post ps e f =
    ap (drop (suc (start m cs ps))) ((parts.right cs).places_since pre post e)
    ∙ drop-append-le (suc (start m cs ps)) (run pre) (places pre post)
    (omega (arith, f.matching.inside (length (table m) - 1) (omega (arith, f.matching.one)), same_places pre))
