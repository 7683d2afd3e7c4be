-- The sequencer goes by the model that it has stored. From the device info on that is the model that the list names, and before it the
-- model doesn't matter: so after every beginning of the list it stands as if it went by that model from the start.
-- Assumes nothing.
use Prim.Native.Nat.{ℕ, zero, suc, ◌≤◌}
use native.Mathlib.Omega.{arith}
use mathlib.Core.Path.{◌≡◌, refl, sym, ap, subst⁻¹, ◌∙◌}
use mathlib.Core.Bool.{Bool, true, false, cond, true≢false}
use mathlib.Core.List.{List, [], ◌∷◌, ◌++◌, map, append_assoc, append-nil}
use lib.ListN.{length, get_or}
use lib.Seq.{get_or_at}
use Rattle.std.specs.Prelude.{Option, None, Result, Ok, Err}
use Rattle.protocol.specs.declared.Refusal.{Refusal}
use Rattle.protocol.proofs.StoredBytes.{content_stored}
use Rattle.device.specs.declared.model.DeviceModel.{DeviceModel}
use Rattle.device.specs.Model.{model_of, model_in, has_power_mode, mevo}
use Rattle.matching.specs.Promise.{Each, after_all, clock, events}
use Rattle.matching.proofs.Machine.{Antitone, reading_of, ticks, ticked_from, ticked as tickedIn, leftmost}
use Rattle.matching.proofs.Embeds.{length-snoc}
use Rattle.matching.proofs.Leftmost.{leftmost_earliest}
use Rattle.matching.proofs.Ticked.{ticked_from-append, ticked_full, ticked_all, ticked_earliest, ticked_part}
use Rattle.matching.proofs.Entries.{each_at}
use Rattle.matching.proofs.Spelled.{spelled}
use Rattle.matching.proofs.Called.{after_append, events-append, called, run_rises}
use Rattle.sequence.specs.Accepted.{none, feed_refusals, check_refusals, feed_outcome, check_outcome}
use Rattle.sequence.specs.Events.{Envelope, Event, fed, checked, reading}
use Rattle.sequence.specs.declared.Moved.{Moved}
use Rattle.sequence.specs.Rows.{test, passes, ticked, idle}
use Rattle.sequence.specs.Calls.{feed, check, ask}
use Rattle.sequence.proofs.Acceptance.{accepted, feed_accepted, check_accepted, feed_fits}
use Rattle.sequence.proofs.Standing as rows
use Rattle.sheet.specs.Ticks.{tick_of, then_tick}
use Rattle.dsp_table.specs.declared.DspStep.{DspStep}
use Rattle.dsp_table.specs.declared.DspStep.TheVariants.{WaitStatus, WaitDspQuery, WaitDevInfo, WaitProdInfo0, WaitProdInfo1, WaitProdInfo2, WaitConfig, WaitPowerMode, Done}
use Rattle.dsp_steps.specs.declared.DspState.{DspState}
use Rattle.dsp_table.specs.Table.{row, next, steps_for, table, entry3}
use Rattle.dsp_steps.specs.Answers.{view, made, advance, arm_at}
use Rattle.dsp_steps.proofs.Rows.{at_step}
use Rattle.dsp.specs.declared.DspSequencer.{DspSequencer}
use Rattle.dsp.specs.Answers.{answered, begun, is_done}
use Rattle.dsp.specs.Calls.{DspCall, into_result, take_refused, sheet, after, event}
use Rattle.dsp_runs.specs.Theorem.{opening, payload_in, Says, Names}
use Rattle.dsp_runs.proofs.States.{after_for, sequencer}

-- the steps at which no device info has come yet: the model doesn't matter
abbrev early : DspStep → Bool
early WaitStatus = true
early WaitDspQuery = true
early WaitDevInfo = true
early WaitProdInfo0 = false
early WaitProdInfo1 = false
early WaitProdInfo2 = false
early WaitConfig = false
early WaitPowerMode = false
early Done = false

-- from the device info on the stored model is m
abbrev pub Knows : DeviceModel → DspState → Type 0
Knows m s = early s.step ≡ false → model_in s.replies.dev_info ≡ m

pub knows_done : (m : DeviceModel) (s : DspState) → Knows m s → is_done s.step ≡ true → model_in s.replies.dev_info ≡ m
knows_done m s h d = h (late s.step d)
  where
    late : (k : DspStep) → is_done k ≡ true → early k ≡ false
    late WaitStatus i = absurd (true≢false (sym i))
    late WaitDspQuery i = absurd (true≢false (sym i))
    late WaitDevInfo i = absurd (true≢false (sym i))
    late WaitProdInfo0 i = refl
    late WaitProdInfo1 i = refl
    late WaitProdInfo2 i = refl
    late WaitConfig i = refl
    late WaitPowerMode i = refl
    late Done i = refl

-- ---- an event

same : (m n : DeviceModel) (s : DspState) (e : Event Envelope) → (early s.step ≡ false → m ≡ n) → advance m s e ≡ advance n s e
same m n s e h = go s.step refl h
  where
    -- the row at such a step is the same
    still : (k : DspStep) → s.step ≡ k → arm_at (row m k) (next m k) (row m (next m k)) s e ≡ arm_at (row n k) (next n k) (row n (next n k)) s e
        → advance m s e ≡ advance n s e
    still k i q = sym (at_step m s e k i) ∙ q ∙ at_step n s e k i

    go : (k : DspStep) → s.step ≡ k → (early k ≡ false → m ≡ n) → advance m s e ≡ advance n s e
    go WaitStatus i p = still WaitStatus i refl
    go WaitDspQuery i p = still WaitDspQuery i refl
    go WaitDevInfo i p = still WaitDevInfo i refl
    go WaitProdInfo0 i p = ap (λ (j : DeviceModel). advance j s e) (p refl)
    go WaitProdInfo1 i p = ap (λ (j : DeviceModel). advance j s e) (p refl)
    go WaitProdInfo2 i p = ap (λ (j : DeviceModel). advance j s e) (p refl)
    go WaitConfig i p = ap (λ (j : DeviceModel). advance j s e) (p refl)
    go WaitPowerMode i p = ap (λ (j : DeviceModel). advance j s e) (p refl)
    go Done i p = ap (λ (j : DeviceModel). advance j s e) (p refl)

-- if the event ticks entry 3 at s, it names m
abbrev Told : DeviceModel → DspState → Event Envelope → Type 0
Told m s e = s.step ≡ WaitDevInfo → passes (row m WaitDevInfo) s.deadline e ≡ true → model_of (payload_in e) ≡ m

-- once a row is ticked
module _ (m : DeviceModel) (s : DspState) (e : Event Envelope) (fits : length (payload_in e) ≤ 256) (n : Told m s e) where
  abbrev After : DspStep → Type 0
  After k = Knows m (made (ticked (row m k) (next m k) (row m (next m k)) (view s) e)).state

  row_knows : (k : DspStep) → s.step ≡ k → (early k ≡ false → model_in s.replies.dev_info ≡ m) → passes (row m k) s.deadline e ≡ true → After k
  row_knows WaitStatus i h p = λ l. absurd (true≢false l)
  row_knows WaitDspQuery i h p = λ l. absurd (true≢false l)
  row_knows WaitDevInfo i h p = info e fits (n i p) p
    where
      info : (e : Event Envelope) → length (payload_in e) ≤ 256 → model_of (payload_in e) ≡ m → passes (row m WaitDevInfo) s.deadline e ≡ true
          → Knows m (made (ticked (row m WaitDevInfo) WaitProdInfo0 (row m WaitProdInfo0) (view s) e)).state
      info (fed v t) f q p = λ l. ap model_of (content_stored v.payload f) ∙ q
      info (checked t) f q p = absurd (true≢false (sym p))
  row_knows WaitProdInfo0 i h p = λ l. h refl
  row_knows WaitProdInfo1 i h p = λ l. h refl
  row_knows WaitProdInfo2 i h p = λ l. h refl
  row_knows WaitConfig i h p = λ l. h refl
  row_knows WaitPowerMode i h p = λ l. h refl
  row_knows Done i h p = λ l. h refl

  -- ticked or not
  event_knows : Knows m s → Knows m (advance m s e).state
  event_knows h = go (passes (row m s.step) s.deadline e) refl
    where
      go : (b : Bool) → passes (row m s.step) s.deadline e ≡ b
          → Knows m (made (cond b (ticked (row m s.step) (next m s.step) (row m (next m s.step)) (view s) e) (idle (view s)))).state
      go true q = row_knows s.step refl h q
      go false q = h

-- ---- a call

-- what a call does to s: f is what it answers, f' what it would by the model m
record Goes (m : DeviceModel) (f f' : DspSequencer) : Type 0 where
  same_seq : f ≡ f'
  knows : Knows m f.state

accepts : (m : DeviceModel) (s : DspSequencer) (e : Event Envelope) → Knows m s.state → length (payload_in e) ≤ 256 → Told m s.state e
    → Goes m (answered (model_in s.state.replies.dev_info) (Ok tt) s e).seq (answered m (Ok tt) s e).seq
accepts m s e h f n =
    let one = same (model_in s.state.replies.dev_info) m s.state e h in
    record {
      same_seq = ap (λ (w : Moved DspState). record { state = w.state; last = reading e; ticks = then_tick s.ticks w.ticked (tick_of (λ v. v) e) }) one;
      knows = subst⁻¹ (λ (w : Moved DspState). Knows m w.state) one (event_knows m s.state e f n h);
    }

by_outcome : (m : DeviceModel) (s : DspSequencer) (e : Event Envelope) → Knows m s.state → (o : Result (Unit {0}) Refusal) (b : Bool) → accepted o ≡ b
    → (b ≡ true → length (payload_in e) ≤ 256) → (b ≡ true → Told m s.state e)
    → Goes m (answered (model_in s.state.replies.dev_info) o s e).seq (answered m o s e).seq
by_outcome m s e h (Ok u) true p f n = accepts m s e h (f refl) (n refl)
by_outcome m s e h (Ok u) false p f n = absurd (true≢false p)
by_outcome m s e h (Err r) b p f n = record { same_seq = refl; knows = h }

goes : (m : DeviceModel) (s : DspSequencer) (c : DspCall) → Knows m s.state
    → ((e : Event Envelope) → event s.last c ≡ e ∷ [] → Told m s.state e)
    → Goes m (after s c) (after_for m s c)
goes m s (feed e t) h n =
    by_outcome m s (fed e t) h (feed_outcome e.text e.payload s.last t) (none (feed_refusals e.text e.payload s.last t))
    (feed_accepted e.text e.payload s.last t)
    (λ p. (feed_fits e.text e.payload s.last t p).payload) (λ p. n (fed e t) (rw p))
goes m s (check t) h n =
    by_outcome m s (checked t) h (check_outcome s.last t) (none (check_refusals s.last t)) (check_accepted s.last t)
    (λ p. omega arith) (λ p. n (checked t) (rw p))
goes m s (ask into_result) h n = record { same_seq = refl; knows = h }
goes m s (ask take_refused) h n = record { same_seq = refl; knows = h }
goes m s (ask (sheet buf at)) h n = record { same_seq = refl; knows = h }

begins : (m : DeviceModel) → Knows m begun.seq.state
begins m l = absurd (true≢false l)

-- ---- entries 1 to 3

abbrev nil : Event Envelope
nil = checked 0

abbrev run : List DspCall → List (Event Envelope)
run cs = events reading event 0 cs

pub opening_antitone : Each Antitone opening
opening_antitone = rows.table_antitone (row mevo) (next mevo) Done (WaitStatus ∷ WaitDspQuery ∷ WaitDevInfo ∷ [])

-- every list names a model
pub named : (cs : List DspCall) → (m : DeviceModel) × Names m cs
named cs = (
  model_of (payload_in (get_or (tickedIn reading opening (run cs)) 2 nil)),
  λ ps f. ap (λ (l : List (Event Envelope)). model_of (payload_in (get_or l 2 nil))) (sym (ticked_earliest reading nil opening opening_antitone (run_rises (sequencer mevo) cs) f)),
)

says : (m : DeviceModel) (t : ℕ) (e : Event Envelope) → Says m e → test entry3 t e ≡ true → model_of (payload_in e) ≡ m
says m t (fed v u) h p = h p
says m t (checked u) h p = absurd (true≢false (sym p))

-- and it is that of its device infos where they agree
pub agreed : (m : DeviceModel) (cs : List DspCall) → Each (Says m) (run cs) → Names m cs
agreed m cs h ps f =
    let x = f.matching in
    ap (λ (qs : List ℕ). model_of (payload_in (get_or (map (λ p. get_or (run cs) p nil) qs) 2 nil))) (spelled 0 ps 3 x.one)
    ∙ says m 0 (get_or (run cs) (get_or ps 2 0) nil) (each_at (Says m) (run cs) (get_or ps 2 0) nil h (x.inside 2 (omega (arith, x.one)))) (x.passes 2 (omega arith))

-- is entry 3 awaited at this step?
abbrev awaits : DspStep → Bool
awaits WaitStatus = false
awaits WaitDspQuery = false
awaits WaitDevInfo = true
awaits WaitProdInfo0 = false
awaits WaitProdInfo1 = false
awaits WaitProdInfo2 = false
awaits WaitConfig = false
awaits WaitPowerMode = false
awaits Done = false

module _ (m : DeviceModel) where
  -- what follows entry 3
  abbrev later : List DspStep
  later = WaitProdInfo0 ∷ WaitProdInfo1 ∷ WaitProdInfo2 ∷ WaitConfig ∷ cond (has_power_mode m) (WaitPowerMode ∷ []) []

  not_later : (k : ℕ) → awaits (get_or later k Done) ≡ false
  not_later zero = refl
  not_later (suc zero) = refl
  not_later (suc (suc zero)) = refl
  not_later (suc (suc (suc zero))) = refl
  not_later (suc (suc (suc (suc k)))) = go (has_power_mode m) k
    where
      go : (b : Bool) (k : ℕ) → awaits (get_or (cond b (WaitPowerMode ∷ []) []) k Done) ≡ false
      go true zero = refl
      go true (suc k) = refl
      go false k = refl

  -- it is at the third
  third : (k : ℕ) → get_or (steps_for m) k Done ≡ WaitDevInfo → k ≡ 2
  third zero h = absurd (true≢false (sym (ap awaits h)))
  third (suc zero) h = absurd (true≢false (sym (ap awaits h)))
  third (suc (suc zero)) h = refl
  third (suc (suc (suc k))) h = absurd (true≢false (sym (ap awaits h) ∙ not_later k))

-- ---- a list of calls

module _ (m : DeviceModel) (cs : List DspCall) (n : Names m cs) where
  abbrev Agrees : List DspCall → Type 0
  Agrees pre = (after_all after begun.seq pre ≡ after_all (after_for m) begun.seq pre) × Knows m (after_all after begun.seq pre).state

  -- an event that ticks entry 3, es having ticked before it, is the one whose device info the list names
  names : (r rest es : List (Event Envelope)) (e : Event Envelope) → run cs ≡ r ++ e ∷ rest → tickedIn reading (table m) r ≡ es → length es ≡ 2
      → test entry3 (reading_of reading es) e ≡ true → model_of (payload_in e) ≡ m
  names r rest es e q w two p =
      let part : tickedIn reading opening r ≡ es = ticked_part reading opening (map (λ k. test (row m k)) (later m)) [] r (omega (arith, ap length w)) ∙ w in
      let hit : ticks reading opening es e ≡ true = rw two p in
      let full : ticked_from reading opening (es ++ e ∷ []) rest ≡ es ++ e ∷ [] = ticked_full reading opening (es ++ e ∷ []) rest (omega (arith, length-snoc es e)) in
      let all : tickedIn reading opening (run cs) ≡ es ++ e ∷ [] =
      ap (tickedIn reading opening) q ∙ ticked_from-append reading opening [] r (e ∷ rest) ∙ rw (part, hit) full in
      let up = run_rises (sequencer m) cs in
      let d = (ticked_all reading nil opening opening_antitone (run cs) up).0 (ap length all ∙ length-snoc es e ∙ ap suc two) in
      let f = leftmost_earliest opening_antitone up d.0 d.1 in
      ap (λ (x : Event Envelope). model_of (payload_in x))
      (sym (get_or_at es e [] nil 2 two) ∙ ap (λ (l : List (Event Envelope)). get_or l 2 nil) (sym all ∙ ticked_earliest reading nil opening opening_antitone up f))
      ∙ n (leftmost reading opening (run cs)) f

  passes_tests : (d : Option ℕ) (t : ℕ) (e : Event Envelope) → passes entry3 d e ≡ test entry3 t e
  passes_tests d t (fed v u) = refl
  passes_tests d t (checked u) = refl

  told : (pre : List DspCall) (c : DspCall) (post : List DspCall) → cs ≡ pre ++ c ∷ post → Agrees pre
      → (e : Event Envelope) → event (after_all after begun.seq pre).last c ≡ e ∷ [] → Told m (after_all after begun.seq pre).state e
  told pre c post q w e own i p =
      let is = w.0 ∙ called (sequencer m) None pre in
      let t = clock reading 0 (run pre) in
      let now : event t c ≡ e ∷ [] = rw (ap (λ (s : DspSequencer). s.last) is) at own in
      let runs : run cs ≡ run pre ++ e ∷ events reading event (reading e) post = ap run q ∙ events-append reading event 0 pre (c ∷ post) ∙ rw now in
      let two = third m (length (tickedIn reading (table m) (run pre))) (sym (ap (λ (s : DspSequencer). s.state.step) is) ∙ i) in
      names (run pre) _ (tickedIn reading (table m) (run pre)) e runs refl two (sym (passes_tests (after_all after begun.seq pre).state.deadline t e) ∙ p)

  step : (pre : List DspCall) (c : DspCall) (post : List DspCall) → cs ≡ pre ++ c ∷ post → Agrees pre → Agrees (pre ++ c ∷ [])
  step pre c post q w =
      let g = goes m (after_all after begun.seq pre) c w.1 (told pre c post q w) in
      let on = after_append after begun.seq pre (c ∷ []) in (
        on ∙ g.same_seq ∙ ap (λ (z : DspSequencer). after_for m z c) w.0 ∙ sym (after_append (after_for m) begun.seq pre (c ∷ [])),
        subst⁻¹ (λ (z : DspSequencer). Knows m z.state) on g.knows,
      )

  walk : (pre a b : List DspCall) → cs ≡ pre ++ (a ++ b) → Agrees pre → Agrees (pre ++ a)
  walk pre [] b q w = subst⁻¹ Agrees (append-nil pre) w
  walk pre (c ∷ a) b q w =
      let on = walk (pre ++ c ∷ []) a b (q ∙ sym (append_assoc pre (c ∷ []) (a ++ b))) (step pre c (a ++ b) q w) in
      subst⁻¹ Agrees (sym (append_assoc pre (c ∷ []) a)) on

  -- after every beginning of the list
  pub agree : (pre post : List DspCall) → cs ≡ pre ++ post → Agrees pre
  agree pre post q = walk [] pre post q (refl, begins m)
