-- What a finished run has sent is what its settings send.
-- Assumes nothing.
use Rattle.std.proofs.Common.{◌≡◌, refl, sym, ap, ◌∙◌, subst, ℕ, zero, suc, Bool, true, false, cond, ltb, List, [], ◌∷◌, ◌++◌, get_or, drop, Option, Some, None, Result, Ok, Err, ◌⊎◌, inl, inr}
use mathlib.Core.Bool.{true≢false}
use Rattle.std.specs.Prelude.{is_some, ◌↔◌}
use Rattle.std.specs.List.{filter_map, cons_option}
use Rattle.protocol.specs.declared.Action.{Action}
use Rattle.protocol.specs.declared.Refusal.{Refusal}
use Rattle.matching.specs.Promise.{after_all, Each}
use Rattle.protocol.specs.Refusals.{outcome, lowest}
use Rattle.sequence.specs.Accepted.{applies, bytes_outcome, none}
use Rattle.sequence.specs.Events.{Envelope, fed}
use Rattle.sequence.specs.Calls.{Fed, Untimed}
use Rattle.sequence.proofs.Standing as rows
use Rattle.settings.specs.declared.AvrSettings.{AvrSettings}
use Rattle.settings.specs.Settings.{count, kept, mode_only}
use Rattle.settings.specs.Repeats.{counted, repeats}
use Rattle.avr_config_steps.specs.declared.AvrConfigStep.{AvrConfigStep}
use Rattle.avr_config_steps.specs.declared.AvrConfigStep.TheVariants.{WaitInitGateAck, WaitParamAck, WaitParamCommitAck, WaitModeEcho, WaitModeCommitAck, WaitRadarCalEcho, WaitRadarCalCommitAck, Done}
use Rattle.sequence.specs.declared.Answer.{Answer}
use Rattle.sequence.specs.Rows.{ticked, idle, judged, refused}
use Rattle.avr_config_steps.specs.Answers.{view, made}
use Rattle.avr_config_steps.specs.Table.{commit, request, row, next, steps_for, param_steps}
use Rattle.avr_config.specs.declared.AvrConfigSequencer.{AvrConfigSequencer}
use Rattle.avr_config.specs.Answers.{begun, running, fed_to, accepted}
use Rattle.avr_config.specs.Calls.{after}
use Rattle.avr_config_runs.proofs.Whole.{feeds, is_done}
use Rattle.settings_sends.specs.Sends.{sends_of}
use Rattle.settings_sends.specs.ReadBack.{answered}
use Rattle.settings_sends.specs.Inverse.{IsRun, Accepted}
use Rattle.settings_sends.specs.Ran.{sent_in, sent_by, run_sent, IsDone, Ran}
use Rattle.settings_sends.proofs.Inverse.{right as inverse}

module _ (q : AvrSettings) where
  abbrev at_step : AvrConfigStep → AvrConfigSequencer
  at_step k = record { step = k; settings = q }

  abbrev Chained : List AvrConfigStep → Type 0
  Chained l = rows.Chained (row q) (next q) Done (steps_for q) l

  -- a feed sends nothing and stays, or it sends the next step's request and goes there
  record Stays (k : AvrConfigStep) (f : Answer AvrConfigSequencer) : Type 0 where
    pub sends : sent_in f.outcome ≡ []
    pub seq : f.seq ≡ at_step k

  record Goes (k : AvrConfigStep) (f : Answer AvrConfigSequencer) : Type 0 where
    pub here : k ≡ Done → ⊥
    pub sends : f.outcome ≡ Ok (request q (next q k))
    pub seq : f.seq ≡ at_step (next q k)

  abbrev answer : Result (Unit {0}) Refusal → Bool → AvrConfigStep → Envelope → Answer AvrConfigSequencer
  answer o b k e = judged o (accepted q (made (cond b (ticked (row q k) (next q k) (row q (next q k)) (view k) (fed e 0)) (idle (view k))))) (refused (at_step k))

  moves : (o : Result (Unit {0}) Refusal) (b : Bool) (k : AvrConfigStep) (e : Envelope) → (row q k).reply e ≡ b → Stays k (answer o b k e) ⊎ Goes k (answer o b k e)
  moves (Err r) b k e h = inl (record { sends = refl; seq = refl })
  moves (Ok u) false k e h = inl (record { sends = refl; seq = refl })
  moves (Ok u) true WaitInitGateAck e h = inr (record { here = λ d. true≢false (sym (ap is_done d)); sends = refl; seq = refl })
  moves (Ok u) true (WaitParamAck i) e h = inr (record { here = λ d. true≢false (sym (ap is_done d)); sends = refl; seq = refl })
  moves (Ok u) true (WaitParamCommitAck i) e h = inr (record { here = λ d. true≢false (sym (ap is_done d)); sends = refl; seq = refl })
  moves (Ok u) true WaitModeEcho e h = inr (record { here = λ d. true≢false (sym (ap is_done d)); sends = refl; seq = refl })
  moves (Ok u) true WaitModeCommitAck e h = inr (record { here = λ d. true≢false (sym (ap is_done d)); sends = refl; seq = refl })
  moves (Ok u) true WaitRadarCalEcho e h = inr (record { here = λ d. true≢false (sym (ap is_done d)); sends = refl; seq = refl })
  moves (Ok u) true WaitRadarCalCommitAck e h = inr (record { here = λ d. true≢false (sym (ap is_done d)); sends = refl; seq = refl })
  moves (Ok u) true Done e h = absurd (true≢false (sym h))

  feed_moves : (k : AvrConfigStep) (e : Envelope) → Stays k (fed_to (at_step k) e) ⊎ Goes k (fed_to (at_step k) e)
  feed_moves k e = moves (bytes_outcome e.text e.payload) ((row q k).reply e) k e refl

  silent : (cs : List Fed) → sent_by (at_step Done) cs ≡ []
  silent [] = refl
  silent (Untimed.ask x ∷ cs) = silent cs
  silent (Untimed.feed e ∷ cs) = of (feed_moves Done e) (silent cs)
    where
      of : Stays Done (fed_to (at_step Done) e) ⊎ Goes Done (fed_to (at_step Done) e) → sent_by (at_step Done) cs ≡ [] → sent_in (fed_to (at_step Done) e).outcome ++ sent_by (fed_to (at_step Done) e).seq cs ≡ []
      of (inl t) h = rw (t.sends, t.seq) h
      of (inr t) h = absurd (t.here refl)

  first_of : (l : List AvrConfigStep) → sent_in (Ok (request q (get_or l 0 Done))) ++ filter_map (request q) (drop 1 l) ≡ filter_map (request q) l
  first_of [] = refl
  first_of (k ∷ l) = of (request q k)
    where
      of : (o : Option Action) → sent_in (Ok o) ++ filter_map (request q) l ≡ cons_option o (filter_map (request q) l)
      of None = refl
      of (Some a) = refl

  go : (l : List AvrConfigStep) → Chained l → Each (λ k. is_done k ≡ false) l → (cs : List Fed)
      → (after_all after (at_step (get_or l 0 Done)) cs).step ≡ Done → sent_by (at_step (get_or l 0 Done)) cs ≡ filter_map (request q) (drop 1 l)
  go [] ch o cs d = silent cs
  go (k ∷ l) ch o [] d = absurd (true≢false (sym (ap is_done d) ∙ o.0))
  go (k ∷ l) ch o (Untimed.ask x ∷ cs) d = go (k ∷ l) ch o cs d
  go (k ∷ l) ch o (Untimed.feed e ∷ cs) d = of (feed_moves k e) d (λ f. go (k ∷ l) ch o cs f) (λ f. go l ch.1 o.1 cs f)
    where
      of : Stays k (fed_to (at_step k) e) ⊎ Goes k (fed_to (at_step k) e) → (after_all after (fed_to (at_step k) e).seq cs).step ≡ Done
          → ((after_all after (at_step k) cs).step ≡ Done → sent_by (at_step k) cs ≡ filter_map (request q) l)
          → ((after_all after (at_step (get_or l 0 Done)) cs).step ≡ Done → sent_by (at_step (get_or l 0 Done)) cs ≡ filter_map (request q) (drop 1 l))
          → sent_in (fed_to (at_step k) e).outcome ++ sent_by (fed_to (at_step k) e).seq cs ≡ filter_map (request q) l
      of (inl t) d here there = rw (t.sends, t.seq) (here (subst (λ x. (after_all after x cs).step ≡ Done) t.seq d))
      of (inr t) d here there =
          let to : (fed_to (at_step k) e).seq ≡ at_step (get_or l 0 Done) = t.seq ∙ ap at_step ch.0 in
          let rest = there (subst (λ x. (after_all after x cs).step ≡ Done) to d) in
          ap (λ x. sent_in (fed_to (at_step k) e).outcome ++ sent_by x cs) to ∙ ap (λ x. sent_in (fed_to (at_step k) e).outcome ++ x) rest
          ∙ ap (λ x. sent_in x ++ filter_map (request q) (drop 1 l)) (t.sends ∙ ap (λ x. Ok (request q x)) ch.0) ∙ first_of l

  -- none of its steps is Done
  cal_others : (b : Bool) → Each (λ k. is_done k ≡ false) (cond b (WaitRadarCalEcho ∷ WaitRadarCalCommitAck ∷ []) [])
  cal_others true = (refl, (refl, tt))
  cal_others false = tt

  others : (n i : ℕ) → Each (λ k. is_done k ≡ false) (param_steps n i ++ WaitModeEcho ∷ WaitModeCommitAck ∷ cond (is_some q.radar_cal) (WaitRadarCalEcho ∷ WaitRadarCalCommitAck ∷ []) [])
  others zero i = (refl, (refl, cal_others (is_some q.radar_cal)))
  others (suc n) i = (refl, (refl, others n (suc i)))

  sends_all : (cs : List Fed) → (after_all after (at_step WaitInitGateAck) cs).step ≡ Done → commit ∷ sent_by (at_step WaitInitGateAck) cs ≡ sends_of q
  sends_all cs d = ap (λ x. commit ∷ x) (go (steps_for q) (feeds q).chained (refl, others (count q.len) 0) cs d)

-- of the start's refusals none applies, or the start is refused
abbrev start : Bool → Bool → Result (Option Action) Refusal
start b c = judged (outcome (lowest (applies 4 b ∷ applies 6 c ∷ []))) (Ok (Some commit)) (λ r. Err r)

accepted_start : (b c : Bool) → none (applies 4 b ∷ applies 6 c ∷ []) ≡ true → start b c ≡ Ok (Some commit)
accepted_start false false h = refl
accepted_start false true h = absurd (true≢false (sym h))
accepted_start true c h = absurd (true≢false (sym h))

abbrev is_ok : Result (Option Action) Refusal → Bool
is_ok (Ok o) = true
is_ok (Err r) = false

none_applies : (b c : Bool) → start b c ≡ Ok (Some commit) → none (applies 4 b ∷ applies 6 c ∷ []) ≡ true
none_applies false false h = refl
none_applies false true h = absurd (true≢false (sym (ap is_ok h)))
none_applies true c h = absurd (true≢false (sym (ap is_ok h)))

begins : (s : AvrSettings) → IsRun s ↔ ((begun s).outcome ≡ Ok (Some commit))
begins s = (accepted_start (ltb 32 s.len) (repeats (counted s)), none_applies (ltb 32 s.len) (repeats (counted s)))

-- what it leaves
starts : (s : AvrSettings) → IsRun s → begun s ≡ record { outcome = Ok (Some commit); seq = at_step (kept s) WaitInitGateAck }
starts s r =
    let sends = (begins s).0 r in
    let stores : running s ≡ kept s = ap (λ b. cond b (kept s) (mode_only 0)) r in
    λ i. record { outcome = sends i; seq = at_step (stores i) WaitInitGateAck }

sent : (s : AvrSettings) (cs : List Fed) → IsRun s → IsDone s cs → run_sent s cs ≡ sends_of (kept s)
sent s cs r d =
    let b = starts s r in
    ap (λ (f : Answer AvrConfigSequencer). sent_in f.outcome ++ sent_by f.seq cs) b
    ∙ sends_all (kept s) cs (subst (λ (f : Answer AvrConfigSequencer). (after_all after f.seq cs).step ≡ Done) b d)

-- what is stored is sent again just so
sent_again : (s : AvrSettings) → Accepted s → answered (sends_of (kept s)) ≡ Ok (kept s)
sent_again s a =
    let t = inverse.exact (sends_of s) (kept s) (inverse.back s a) in
    ap answered (sym t.2) ∙ inverse.back s a

pub right : Ran
right = record {
  begins = begins;
  sent = sent;
  read_back = λ s cs a d. ap answered (sent s cs a.is_run d) ∙ sent_again s a;
}
