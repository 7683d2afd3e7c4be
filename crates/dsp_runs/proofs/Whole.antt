-- The theorem holds. The promise is proved once, for any sequence that goes by rows (crates matching and sequence); what is shown here is
-- the DSP's own: its result, written out, and the nack.
-- Assumes nothing.
use Prim.Native.Nat.{ℕ, zero, suc, ◌-◌, ◌≤◌, ◌<◌}
use native.Mathlib.Omega.{arith}
use mathlib.Core.Path.{◌≡◌, refl, sym, ap, subst⁻¹, ◌∙◌}
use mathlib.Core.Logic.{◌↔◌}
use mathlib.Core.Bool.{Bool, true, false, cond}
use mathlib.Core.List.{List, [], ◌∷◌, ◌++◌, map, nil≢cons, append-nil}
use lib.ListN.{length, get_or, length-map}
use Rattle.std.specs.Prelude.{Option, None, unwrap_or, Result, Ok, Err}
use Rattle.protocol.specs.declared.Nack.{Nack}
use Rattle.protocol.specs.declared.Refusal.{Refusal}
use Rattle.protocol.specs.declared.Refusal.TheVariants.{NotDone}
use Rattle.protocol.specs.Carried.{no_dev_info, no_config}
use Rattle.protocol.specs.Refusals.{outcome, lowest}
use Rattle.device.specs.declared.model.DeviceModel.{DeviceModel}
use Rattle.device.specs.Model.{tag_place_in, has_power_mode}
use Rattle.matching.specs.Promise.{Each, after_all, Keeps}
use Rattle.matching.proofs.Machine.{Antitone, ticks as ticksIn, ticked_from}
use Rattle.matching.proofs.Embeds.{length-snoc}
use Rattle.matching.proofs.Ticked.{ticked_from_grows}
use Rattle.matching.proofs.Leftmost.{ticks_none}
use Rattle.matching.proofs.Spelled.{spelled}
use Rattle.matching.proofs.Promised as promised
use Rattle.matching.proofs.Kept.{keeps, same_keeps, answers_so_far}
use Rattle.sequence.specs.Accepted.{result_refusals}
use Rattle.sequence.specs.Events.{Envelope, Event, checked, reading}
use Rattle.sequence.specs.Rows.{judged}
use Rattle.sequence.specs.Calls.{feed, check, ask}
use Rattle.sequence.proofs.Events.{few}
use Rattle.sequence.proofs.Standing as rows
use Rattle.sheet.specs.declared.StartUp.{StartUp}
use Rattle.sheet.specs.Sheet as text
use Rattle.sheet.specs.Ticks.{kept}
use Rattle.sheet.proofs.Stored.{kept_stored}
use Rattle.dsp_table.specs.declared.DspStep.{DspStep}
use Rattle.dsp_table.specs.Stores.{nack_in, no_status}
use Rattle.dsp_table.specs.Table.{row, next, steps_for, table}
use Rattle.dsp.specs.declared.DspSequencer.{DspSequencer}
use Rattle.dsp.specs.declared.DspSync.{DspSync}
use Rattle.dsp.specs.Answers.{begun, finished, taken, is_done}
use Rattle.dsp.specs.Calls.{DspCall, into_result, take_refused, sheet, after, event, takes}
use Rattle.dsp_runs.specs.Theorem.{result_of, nack_of, Names, Right, Theorem}
use Rattle.dsp_runs.proofs.States.{ticks, state_of, keep, kept_all, extra, sequencer, others}
use Rattle.dsp_runs.proofs.OneModel.{Knows, knows_done, agree, named, agreed}

-- the result with the model m
abbrev finished_for : DeviceModel → DspSequencer → Result DspSync Refusal
finished_for m s =
    let y = s.state.replies in
    judged (outcome (lowest (result_refusals (is_done s.state.step))))
    (Ok (record {
      status = (unwrap_or y.status no_status).status;
      status_payload = (unwrap_or y.status no_status).payload;
      hw_info = y.hw_info;
      dev_info = unwrap_or y.dev_info no_dev_info;
      prod_info = y.prod_info;
      config = unwrap_or y.config no_config;
      model = m;
      tag_place = tag_place_in y.dev_info;
      power_mode_unanswered = y.power_mode_unanswered;
    }))
    (λ r. Err r)

-- a call that is no event leaves the nack, but for a taking
abbrev more : Option Nack → DspCall → Option Nack
more x (feed e t) = x
more x (check t) = x
more x (ask into_result) = x
more x (ask take_refused) = None
more x (ask (sheet buf at)) = x

cond_same : (b : Bool) (x : Option Nack) → cond b x x ≡ x
cond_same true x = refl
cond_same false x = refl

more_takes : (x : Option Nack) (cs : List DspCall) → after_all more x cs ≡ cond (takes cs) None x
more_takes x [] = refl
more_takes x (feed e t ∷ cs) = more_takes x cs
more_takes x (check t ∷ cs) = more_takes x cs
more_takes x (ask into_result ∷ cs) = more_takes x cs
more_takes x (ask take_refused ∷ cs) = more_takes None cs ∙ cond_same (takes cs) None
more_takes x (ask (sheet buf at) ∷ cs) = more_takes x cs

module _ (m : DeviceModel) where
  abbrev nil : Event Envelope
  nil = checked 0

  abbrev E : Type 0
  E = Event Envelope

  anti : Each Antitone (table m)
  anti = rows.table_antitone (row m) (next m) DspStep.Done (steps_for m)

  done_iff : (k : ℕ) → k ≤ length (table m) → (get_or (steps_for m) k DspStep.Done ≡ DspStep.Done) ↔ (k ≡ length (table m))
  done_iff = rows.done_iff (row m) (next m) DspStep.Done (steps_for m) is_done refl (others m)

  -- ---- the result, written out

  with_step : (a b c d e f g h : E) (t : ℕ) (x : Option Nack) → has_power_mode m ≡ true
      → finished_for m (state_of m (a ∷ b ∷ c ∷ d ∷ e ∷ f ∷ g ∷ h ∷ []) t x)
      ≡ Ok (result_of m (λ k. get_or (a ∷ b ∷ c ∷ d ∷ e ∷ f ∷ g ∷ h ∷ []) (k - 1) nil))
  with_step a b c d e f g h t x p = rw p

  without : (a b c d e f g : E) (t : ℕ) (x : Option Nack) → has_power_mode m ≡ false
      → finished_for m (state_of m (a ∷ b ∷ c ∷ d ∷ e ∷ f ∷ g ∷ []) t x)
      ≡ Ok (result_of m (λ k. get_or (a ∷ b ∷ c ∷ d ∷ e ∷ f ∷ g ∷ []) (k - 1) nil))
  without a b c d e f g t x p = rw p

  written : (es : List E) (t : ℕ) (x : Option Nack) → length es ≡ length (table m)
      → finished_for m (state_of m es t x) ≡ Ok (result_of m (λ k. get_or es (k - 1) nil))
  written es t x h = go (has_power_mode m) refl
    where
      Is : List E → Type 0
      Is l = finished_for m (state_of m l t x) ≡ Ok (result_of m (λ k. get_or l (k - 1) nil))

      at : ℕ → E
      at k = get_or es k nil

      go : (b : Bool) → has_power_mode m ≡ b → Is es
      go true p = subst⁻¹ Is (spelled nil es 8 (rw p at h)) (with_step (at 0) (at 1) (at 2) (at 3) (at 4) (at 5) (at 6) (at 7) t x p)
      go false p = subst⁻¹ Is (spelled nil es 7 (rw p at h)) (without (at 0) (at 1) (at 2) (at 3) (at 4) (at 5) (at 6) t x p)

  too_early : (es : List E) (t : ℕ) (x : Option Nack) → length es < length (table m)
      → finished_for m (state_of m es t x) ≡ Err NotDone
  too_early es t x h = rw (rows.before_done (row m) (next m) DspStep.Done (steps_for m) is_done refl (others m) (length es) h)

  -- ---- the nack

  abbrev keeps_for : Bool → E → Option Nack
  keeps_for true e = nack_in e None
  keeps_for false e = None

  -- the seven rows that every model has keep it
  keep_early : (k : ℕ) (e : E) (x : Option Nack) → k < 7 → keep m (get_or (steps_for m) k DspStep.Done) e x ≡ x
  keep_early zero e x h = refl
  keep_early (suc zero) e x h = refl
  keep_early (suc (suc zero)) e x h = refl
  keep_early (suc (suc (suc zero))) e x h = refl
  keep_early (suc (suc (suc (suc zero)))) e x h = refl
  keep_early (suc (suc (suc (suc (suc zero))))) e x h = refl
  keep_early (suc (suc (suc (suc (suc (suc zero)))))) e x h = refl
  keep_early (suc (suc (suc (suc (suc (suc (suc k))))))) e x h = absurd (omega arith)

  few_rows : length (table m) ≤ 8
  few_rows = go (has_power_mode m) refl
    where
      go : (b : Bool) → has_power_mode m ≡ b → length (table m) ≤ 8
      go true p = rw p (omega arith)
      go false p = rw p (omega arith)

  keep_last : (k : ℕ) (e : E) → suc k ≡ length (table m) → keep m (get_or (steps_for m) k DspStep.Done) e None ≡ keeps_for (has_power_mode m) e
  keep_last k e h = go (has_power_mode m) refl
    where
      go : (b : Bool) → has_power_mode m ≡ b → keep m (get_or (steps_for m) k DspStep.Done) e None ≡ keeps_for b e
      go true p = let i : k ≡ 7 = omega (arith, rw p at h) in rw (i, p)
      go false p = keep_early k e None (omega (arith, rw p at h))

  quiet : (es l : List E) → length (ticked_from reading (table m) es l) < length (table m) → kept_all m es None l ≡ None
  quiet es [] h = refl
  quiet es (e ∷ l) h = go (ticksIn reading (table m) es e) refl
    where
      go : (b : Bool) → ticksIn reading (table m) es e ≡ b → cond b (keep m (get_or (steps_for m) (length es) DspStep.Done) e None) None ≡ None
      go true p =
          keep_early (length es) e None
          (omega (arith, few_rows, length-snoc es e, ticked_from_grows reading (table m) (es ++ e ∷ []) l, rw p at h))
      go false p = refl

  still : (es : List E) (x : Option Nack) (l : List E) → length (table m) ≤ length es → kept_all m es x l ≡ x
  still es x [] h = refl
  still es x (e ∷ l) h = rw (ticks_none reading (table m) es e h)

  hits : (es l : List E) (e : E) → l ≡ e ∷ [] → ticksIn reading (table m) es e ≡ true → suc (length es) ≡ length (table m)
      → kept_all m es None l ≡ keeps_for (has_power_mode m) e
  hits es l e i p h = ap (kept_all m es None) i ∙ ap (λ (b : Bool). cond b (keep m (get_or (steps_for m) (length es) DspStep.Done) e None) None) p ∙ keep_last (length es) e h

  holds : promised.Holds nil anti (sequencer m) None (keeps_for (has_power_mode m)) more
  holds = record { quiet = q; hit = i; settled = s }
    where
      q : (es : List E) (t : ℕ) (c : DspCall) → length (ticked_from reading (table m) es (event t c)) < length (table m) → extra m es t None c ≡ None
      q es t (feed e u) h = quiet es (event t (feed e u)) h
      q es t (check u) h = quiet es (event t (check u)) h
      q es t (ask into_result) h = refl
      q es t (ask take_refused) h = refl
      q es t (ask (sheet buf at)) h = refl

      i : (es : List E) (t : ℕ) (c : DspCall) (e : E) → event t c ≡ e ∷ [] → ticksIn reading (table m) es e ≡ true
          → suc (length es) ≡ length (table m) → extra m es t None c ≡ keeps_for (has_power_mode m) e
      i es t (feed v u) e h p n = hits es (event t (feed v u)) e h p n
      i es t (check u) e h p n = hits es (event t (check u)) e h p n
      i es t (ask into_result) e h p n = absurd (nil≢cons h)
      i es t (ask take_refused) e h p n = absurd (nil≢cons h)
      i es t (ask (sheet buf at)) e h p n = absurd (nil≢cons h)

      s : (es : List E) (t : ℕ) (y : Option Nack) (c : DspCall) → length (table m) ≤ length es → extra m es t y c ≡ more y c
      s es t y (feed e u) h = still es y (event t (feed e u)) h
      s es t y (check u) h = still es y (event t (check u)) h
      s es t y (ask into_result) h = refl
      s es t y (ask take_refused) h = refl
      s es t y (ask (sheet buf at)) h = refl

  some : 0 < length (table m)
  some = omega arith

  given : (later : List DspCall) (f : ℕ → E) → after_all more (keeps_for (has_power_mode m) (f (length (table m)))) later ≡ nack_of (has_power_mode m) later f
  given later f = go (has_power_mode m) refl
    where
      go : (b : Bool) → has_power_mode m ≡ b → after_all more (keeps_for (has_power_mode m) (f (length (table m)))) later ≡ nack_of (has_power_mode m) later f
      go true p = rw p (more_takes (nack_in (f 8) None) later)
      go false p = rw p (more_takes None later ∙ cond_same (takes later) None)

  -- ---- from the sequencer that goes by m to the one that goes by what it stored

  by_model : (s : DspSequencer) → Knows m s.state → finished s ≡ finished_for m s
  by_model s h = go (is_done s.state.step) refl
    where
      go : (b : Bool) → is_done s.state.step ≡ b → finished s ≡ finished_for m s
      go true p = rw (p, knows_done m s.state h p)
      go false p = rw p

  -- the ticks so far, after each beginning of a list
  keeping : (cs : List DspCall) → Names m cs → (pre post : List DspCall) → cs ≡ pre ++ post
      → Keeps reading nil event begun.seq after (table m) (λ s. kept s.ticks) (ticks m) pre
  keeping cs n pre post e =
      same_keeps (table m) pre (λ s. kept s.ticks) (ticks m) (agree m cs n pre post e).0
      (keeps nil anti (sequencer m) None pre (λ s. kept s.ticks) (ticks m) (λ es t y h. kept_stored (map (ticks m) es) (rw length-map (omega (arith, few_rows)))))

  all : (cs : List DspCall) → Names m cs → Right m cs
  all cs n =
      record {
        ends = promised.same_ends (table m) cs (λ s. s.state.step ≡ DspStep.Done) (agree m cs n cs [] (sym (append-nil cs))).0
            (promised.ends nil anti (sequencer m) None (λ s. s.state.step ≡ DspStep.Done) (λ es t y h. done_iff (length es) h) cs);
        asked = promised.same_answers (table m) cs (ask into_result) finished (finished_for m) _ _ _
            (λ pre post e. let w = agree m cs n pre post e in by_model (after_all after begun.seq pre) w.1 ∙ ap (finished_for m) w.0)
            (λ later f. refl)
            (promised.answers nil anti (sequencer m) None (ask into_result) (finished_for m) (Err NotDone)
            (λ f. Ok (result_of m f)) too_early written cs);
        took = promised.same_answers (table m) cs (ask take_refused) (λ s. (taken s).refused) (λ s. (taken s).refused) None (nack_of (has_power_mode m)) _
            (λ pre post e. ap (λ (s : DspSequencer). (taken s).refused) (agree m cs n pre post e).0)
            given
            (promised.answers_held nil anti (sequencer m) None holds (few (λ e. e)) some (ask take_refused) (λ s. (taken s).refused) (λ x. x) (λ es t y. refl) cs);
        ticks = keeping cs n cs [] (sym (append-nil cs));
        sheets = λ buf at. answers_so_far (ask (sheet buf at)) _ _ (ticks m) (λ ts. text.given (text.sheet StartUp.Dsp ts) at buf) (λ s. refl) (keeping cs n);
      }

pub right : Theorem
right = record { named = named; agreed = agreed; right = all }
