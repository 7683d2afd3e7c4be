-- What the figures are read off a start-up: its model, whether it is done, and its ticks, as the theorems of DSP and AVR say.
-- Assumes nothing.
use Prim.Native.Nat.{ℕ, zero, suc, ◌≤◌}
use native.Mathlib.Omega.{arith}
use mathlib.Core.Path.{◌≡◌, refl, sym, ap, subst, subst⁻¹, ◌∙◌}
use mathlib.Core.Bool.{Bool, true, false, cond, true≢false}
use mathlib.Core.List.{List, [], ◌∷◌, ◌++◌, map, append-nil}
use lib.Dec.{leb}
use lib.ListN.{length, get_or, length-map}
use borrow.Author.Tests.{le-leb}
use Rattle.std.specs.Prelude.{Option, Some, None}
use Rattle.protocol.specs.declared.DevInfoResp.{DevInfoResp}
use Rattle.protocol.specs.declared.Nack.{Nack}
use Rattle.device.specs.declared.model.DeviceModel.{DeviceModel}
use Rattle.device.specs.Model.{model_in, has_power_mode, has_factory_cal}
use Rattle.matching.specs.Promise.{after_all, clock, events, Ends}
use Rattle.matching.proofs.Machine.{ticks, heard, ticked_from, ticked as tickedIn, extras}
use Rattle.matching.proofs.Called.{called, run_rises}
use Rattle.matching.proofs.Ticked.{ticked-length}
use Rattle.sequence.specs.Events.{Envelope, Event, fed, checked, reading}
use Rattle.sequence.proofs.Standing as rows
use Rattle.sheet.specs.declared.Tick.{Tick}
use Rattle.sheet.specs.Ticks.{tick_of, kept}
use Rattle.sheet.proofs.Stored.{kept_stored}
use Rattle.dsp_table.specs.declared.DspStep.{DspStep}
use Rattle.dsp_table.specs.declared.DspStep.TheVariants.{WaitStatus, WaitDspQuery, WaitDevInfo, WaitProdInfo0, WaitProdInfo1, WaitProdInfo2, WaitConfig, WaitPowerMode, Done}
use Rattle.dsp_table.specs.declared.DspReplies.{DspReplies}
use Rattle.dsp_table.specs.Stores.{no_replies}
use Rattle.dsp_table.specs.Table as dsp_rows
use Rattle.dsp.specs.declared.DspSequencer.{DspSequencer}
use Rattle.dsp.specs.Answers as dsp
use Rattle.dsp.specs.Calls as dsp_calls
use Rattle.dsp_runs.specs.Theorem.{Names}
use Rattle.dsp_runs.proofs.States as dsp_states
use Rattle.dsp_runs.proofs.OneModel.{Knows, agree, named}
use Rattle.dsp_runs.proofs.Whole as dsp_runs
use Rattle.avr_table.specs.declared.AvrStep.{AvrStep}
use Rattle.avr_table.specs.declared.AvrStep.TheVariants as avr_step
use Rattle.avr_table.specs.Table as avr_rows
use Rattle.avr_table.specs.Stores.{env}
use Rattle.avr.specs.declared.AvrSequencer.{AvrSequencer}
use Rattle.avr.specs.Answers as avr
use Rattle.avr.specs.Calls as avr_calls
use Rattle.avr_runs.proofs.States as avr_states
use Rattle.avr_runs.proofs.Whole as avr_runs
use Rattle.report.specs.declared.Sequencer.TheVariants.{Dsp, Avr}
use Rattle.report.specs.Report.{named_by, model_of, is_done, readings}
use Rattle.report_runs.specs.Theorem.{StartUp, of_dsp, of_avr, made, ticked_at, DspRight, AvrRight}
use Rattle.report_runs.proofs.Ticks.{reads, rise, few}
use Rattle.report_runs.proofs.Sums.{Fits}

-- ---- DSP: the device info is stored at the third tick

abbrev E : Type 0
E = Event Envelope

-- the third is no check
abbrev Good : List E → Type 0
Good [] = Unit {0}
Good (a ∷ []) = Unit {0}
Good (a ∷ b ∷ []) = Unit {0}
Good (a ∷ b ∷ fed v t ∷ l) = Unit {0}
Good (a ∷ b ∷ checked t ∷ l) = ⊥

module _ (m : DeviceModel) where
  good_more : (es : List E) (e : E) → Good es → Good (heard reading (dsp_rows.table m) es e)
  good_more [] e h = go (ticks reading (dsp_rows.table m) [] e)
    where
      go : (b : Bool) → Good (cond b (e ∷ []) [])
      go true = tt
      go false = tt
  good_more (a ∷ []) e h = go (ticks reading (dsp_rows.table m) (a ∷ []) e)
    where
      go : (b : Bool) → Good (cond b (a ∷ e ∷ []) (a ∷ []))
      go true = tt
      go false = tt
  good_more (a ∷ b ∷ []) (fed v t) h = go (ticks reading (dsp_rows.table m) (a ∷ b ∷ []) (fed v t))
    where
      go : (c : Bool) → Good (cond c (a ∷ b ∷ fed v t ∷ []) (a ∷ b ∷ []))
      go true = tt
      go false = tt
  good_more (a ∷ b ∷ []) (checked t) h = tt
  good_more (a ∷ b ∷ fed v t ∷ l) e h = go (ticks reading (dsp_rows.table m) (a ∷ b ∷ fed v t ∷ l) e)
    where
      go : (c : Bool) → Good (cond c (a ∷ b ∷ fed v t ∷ (l ++ e ∷ [])) (a ∷ b ∷ fed v t ∷ l))
      go true = tt
      go false = tt
  good_more (a ∷ b ∷ checked t ∷ l) e h = absurd h

  good : (es r : List E) → Good es → Good (ticked_from reading (dsp_rows.table m) es r)
  good es [] h = h
  good es (e ∷ r) h = good (heard reading (dsp_rows.table m) es e) r (good_more es e h)

  -- no later row stores one
  abbrev step : ℕ → DspStep
  step k = get_or (dsp_rows.steps_for m) k Done

  leaves : (k : ℕ) (e : E) (y : DspReplies) → ((dsp_rows.row m (step (suc (suc (suc k))))).store e y).dev_info ≡ y.dev_info
  leaves zero e y = refl
  leaves (suc zero) e y = refl
  leaves (suc (suc zero)) e y = refl
  leaves (suc (suc (suc zero))) e y = refl
  leaves (suc (suc (suc (suc k)))) e y = go (has_power_mode m) k
    where
      go : (b : Bool) (k : ℕ) → ((dsp_rows.row m (get_or (cond b (WaitPowerMode ∷ []) []) k Done)).store e y).dev_info ≡ y.dev_info
      go true zero = refl
      go true (suc k) = refl
      go false k = refl

  still : (k : ℕ) (es : List E) (y : DspReplies)
      → (rows.stored (dsp_rows.row m) (dsp_rows.next m) Done (dsp_rows.steps_for m) (suc (suc (suc k))) es y).dev_info ≡ y.dev_info
  still k [] y = refl
  still k (e ∷ es) y = still (suc k) es ((dsp_rows.row m (step (suc (suc (suc k))))).store e y) ∙ leaves k e y

  abbrev first_three : E → E → Envelope → ℕ → DspReplies
  first_three a b v u = rows.stored (dsp_rows.row m) (dsp_rows.next m) Done (dsp_rows.steps_for m) 0 (a ∷ b ∷ fed v u ∷ []) no_replies

  -- at the steps after the third tick the stored one names m
  knows : (k : ℕ) (y : DspReplies) (d : Option ℕ) → Knows m (record { step = step (suc (suc (suc k))); replies = y; deadline = d }) → model_in y.dev_info ≡ m
  knows zero y d w = w refl
  knows (suc zero) y d w = w refl
  knows (suc (suc zero)) y d w = w refl
  knows (suc (suc (suc zero))) y d w = w refl
  knows (suc (suc (suc (suc k)))) y d w = go (has_power_mode m) k w
    where
      go : (b : Bool) (k : ℕ) → Knows m (record { step = get_or (cond b (WaitPowerMode ∷ []) []) k Done; replies = y; deadline = d }) → model_in y.dev_info ≡ m
      go true zero v = v refl
      go true (suc k) v = v refl
      go false k v = v refl

  named_so : (o : Option DevInfoResp) (i : DevInfoResp) → o ≡ Some i → model_in o ≡ m → named_by o ≡ Some m
  named_so o i h w = ap named_by h ∙ ap Some (sym (ap model_in h) ∙ w)

  abbrev Third : DspSequencer → Type 0
  Third s = model_of (Dsp s) ≡ cond (leb 3 (length (ticked_at (Dsp s)))) (Some m) None

  counts : (es : List E) (t : ℕ) (x : Option Nack) → length es ≤ 16 → length (ticked_at (Dsp (dsp_states.state_of m es t x))) ≡ length es
  counts es t x h = ap (λ (l : List Tick). length (readings l)) (kept_stored (map (dsp_states.ticks m) es) (rw length-map h)) ∙ rw (length-map, length-map) refl

  third : (es : List E) (t : ℕ) (x : Option Nack) → length es ≤ 16 → Good es → Knows m (dsp_states.state_of m es t x).state → Third (dsp_states.state_of m es t x)
  third es t x h g w = go es g w ∙ ap (λ (n : ℕ). cond (leb 3 n) (Some m) None) (sym (counts es t x h))
    where
      go : (es : List E) → Good es → Knows m (dsp_states.state_of m es t x).state
          → model_of (Dsp (dsp_states.state_of m es t x)) ≡ cond (leb 3 (length es)) (Some m) None
      go [] g w = refl
      go (a ∷ []) g w = refl
      go (a ∷ b ∷ []) g w = refl
      go (a ∷ b ∷ fed v u ∷ l) g w =
          let s = (dsp_states.state_of m (a ∷ b ∷ fed v u ∷ l) t x).state in
          let late : leb 3 (suc (suc (suc (length l)))) ≡ true = le-leb 3 (suc (suc (suc (length l)))) (omega arith) in
          named_so s.replies.dev_info _ (still 0 l (first_three a b v u)) (knows (length l) s.replies s.deadline w)
          ∙ ap (λ (b : Bool). cond b (Some m) None) (sym late)
      go (a ∷ b ∷ checked u ∷ l) g w = absurd g

  few_rows : length (dsp_rows.table m) ≤ 8
  few_rows = go (has_power_mode m) refl
    where
      go : (b : Bool) → has_power_mode m ≡ b → length (dsp_rows.table m) ≤ 8
      go true p = rw p (omega arith)
      go false p = rw p (omega arith)

  module _ (cs : List dsp_calls.DspCall) (n : Names m cs) where
    abbrev r : List E
    r = events reading dsp_calls.event 0 cs

    its_model : Third (after_all dsp_calls.after dsp.begun.seq cs)
    its_model =
        let w = agree m cs n cs [] (sym (append-nil cs)) in
        let is = w.0 ∙ called (dsp_states.sequencer m) None cs in
        let short = ticked-length reading (dsp_rows.table m) r in
        let nack = extras reading dsp_calls.event (dsp_rows.table m) (dsp_states.extra m) [] 0 None cs in
        subst⁻¹ Third is
        (third (tickedIn reading (dsp_rows.table m) r) (clock reading 0 r) nack (omega (arith, short, few_rows)) (good [] r tt)
        (subst (λ (s : DspSequencer). Knows m s.state) is w.1))

    its_end : Ends reading (checked 0) dsp_calls.event dsp.begun.seq dsp_calls.after (dsp_rows.table m) (λ s. is_done (Dsp s) ≡ true) cs
    its_end =
        let e = (dsp_runs.right.right m cs n).ends in
        record { done = (λ h. e.done.0 (at_end _ h), λ w. ap dsp.is_done (e.done.1 w)); first = e.first }
      where
        at_end : (k : DspStep) → dsp.is_done k ≡ true → k ≡ Done
        at_end WaitStatus h = absurd (true≢false (sym h))
        at_end WaitDspQuery h = absurd (true≢false (sym h))
        at_end WaitDevInfo h = absurd (true≢false (sym h))
        at_end WaitProdInfo0 h = absurd (true≢false (sym h))
        at_end WaitProdInfo1 h = absurd (true≢false (sym h))
        at_end WaitProdInfo2 h = absurd (true≢false (sym h))
        at_end WaitConfig h = absurd (true≢false (sym h))
        at_end WaitPowerMode h = absurd (true≢false (sym h))
        at_end Done h = refl

    pub dsp_right : DspRight m cs
    dsp_right = record {
      model = its_model;
      ends = its_end;
      ticks = reads (λ s. kept s.ticks) (tick_of (λ v. v)) (λ k. k.reading) (λ e. refl) (dsp_runs.right.right m cs n).ticks;
    }

-- ---- AVR

module _ (m : DeviceModel) where
  few_entries : length (avr_rows.table m) ≤ 12
  few_entries = go (has_factory_cal m) refl
    where
      go : (b : Bool) → has_factory_cal m ≡ b → length (avr_rows.table m) ≤ 12
      go true p = rw p (omega arith)
      go false p = rw p (omega arith)

  avr_end : (cs : List avr_calls.AvrCall)
      → Ends reading (checked 0) avr_calls.event (avr.begun m).seq avr_calls.after (avr_rows.table m) (λ s. is_done (Avr s) ≡ true) cs
  avr_end cs =
      let e = (avr_runs.right m cs).ends in
      record { done = (λ h. e.done.0 (at_end _ h), λ w. ap avr.is_done (e.done.1 w)); first = e.first }
    where
      at_end : (k : AvrStep) → avr.is_done k ≡ true → k ≡ AvrStep.Done
      at_end avr_step.WaitStatus1 h = absurd (true≢false (sym h))
      at_end avr_step.WaitStatus2 h = absurd (true≢false (sym h))
      at_end avr_step.WaitDevInfo1 h = absurd (true≢false (sym h))
      at_end avr_step.WaitDevInfo2 h = absurd (true≢false (sym h))
      at_end avr_step.WaitParam0C h = absurd (true≢false (sym h))
      at_end avr_step.WaitParam0D h = absurd (true≢false (sym h))
      at_end avr_step.WaitConfig h = absurd (true≢false (sym h))
      at_end avr_step.WaitFactoryCal h = absurd (true≢false (sym h))
      at_end avr_step.WaitIfCal h = absurd (true≢false (sym h))
      at_end avr_step.WaitAvrConfig h = absurd (true≢false (sym h))
      at_end avr_step.WaitParam64 h = absurd (true≢false (sym h))
      at_end avr_step.WaitTimeSync h = absurd (true≢false (sym h))
      at_end avr_step.Done h = refl

  pub avr_right : (cs : List avr_calls.AvrCall) → AvrRight m cs
  avr_right cs = record {
    model = ap (λ (s : AvrSequencer). Some s.state.model) (called (avr_states.sequencer m) None cs);
    ends = avr_end cs;
    ticks = reads (λ s. kept s.ticks) (tick_of env) (λ k. k.reading) (λ e. refl) (avr_runs.right m cs).ticks;
  }

-- ---- the ticks of either

pub fits : (s : StartUp) → Fits (ticked_at (made s))
fits (of_dsp cs) =
    let n = named cs in
    let k = (dsp_right n.0 cs n.1).ticks in
    let short = few (λ s. ticked_at (Dsp s)) k in
    (rise (λ s. ticked_at (Dsp s)) k (run_rises (dsp_states.sequencer n.0) cs), omega (arith, short, few_rows n.0))
fits (of_avr m cs) =
    let k = (avr_right m cs).ticks in
    let short = few (λ s. ticked_at (Avr s)) k in
    (rise (λ s. ticked_at (Avr s)) k (run_rises (avr_states.sequencer m) cs), omega (arith, short, few_entries m))
