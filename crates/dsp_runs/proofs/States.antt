-- With one model given, a DSP start-up is a sequence that goes by rows: its state is a function of the events that ticked, the last
-- accepted reading and the nack that is kept.
-- Assumes nothing.
use Prim.Native.Nat.{ℕ, zero, suc, ◌≤◌, ◌<◌}
use native.Mathlib.Omega.{arith}
use mathlib.Core.Path.{◌≡◌, refl, ap, ◌∙◌}
use mathlib.Core.Bool.{Bool, true, false, cond}
use mathlib.Core.List.{List, [], ◌∷◌, map}
use lib.ListN.{length, get_or}
use Rattle.std.specs.Prelude.{Option, None, Ok}
use Rattle.protocol.specs.declared.Nack.{Nack}
use Rattle.device.specs.declared.model.DeviceModel.{DeviceModel}
use Rattle.device.specs.Model.{has_power_mode}
use Rattle.matching.specs.Promise.{Each, clock}
use Rattle.matching.proofs.Machine as machine
use Rattle.matching.proofs.Machine.{ticked_from}
use Rattle.matching.proofs.Called.{Called, events_rise}
use Rattle.sequence.specs.Accepted.{none, feed_refusals, check_refusals, feed_outcome, check_outcome}
use Rattle.sequence.specs.Events.{Envelope, Event, fed, checked, reading}
use Rattle.sequence.specs.declared.Answer.{Answer}
use Rattle.sequence.specs.Rows.{State, refused}
use Rattle.sequence.specs.Calls.{feed, check, ask}
use Rattle.sequence.proofs.Acceptance.{feed_accepted, check_accepted, feed_fits, check_fits}
use Rattle.sequence.proofs.Events.{rises, judge}
use Rattle.sequence.proofs.Standing as rows
use Rattle.sheet.specs.declared.Tick.{Tick}
use Rattle.sheet.specs.Ticks.{tick_of, stored, then_tick}
use Rattle.sheet.proofs.Stored.{next as kept_next}
use Rattle.dsp_table.specs.declared.DspStep.{DspStep}
use Rattle.dsp_table.specs.declared.DspStep.TheVariants.{WaitStatus, WaitDspQuery, WaitDevInfo, WaitProdInfo0, WaitProdInfo1, WaitProdInfo2, WaitConfig, WaitPowerMode, Done}
use Rattle.dsp_table.specs.declared.DspReplies.{DspReplies}
use Rattle.dsp_table.specs.Stores.{no_replies}
use Rattle.dsp_table.specs.Table.{row, next, steps_for, table}
use Rattle.dsp_steps.specs.Answers.{unview}
use Rattle.dsp.specs.declared.DspSequencer.{DspSequencer}
use Rattle.dsp.specs.Answers.{answered, taken, with_nack, is_done}
use Rattle.dsp.specs.Calls.{DspCall, into_result, take_refused, sheet, event}

-- the sequencer after a call, if it went by the model m
abbrev pub after_for : DeviceModel → DspSequencer → DspCall → DspSequencer
after_for m s (feed e t) = (answered m (feed_outcome e.text e.payload s.last t) s (fed e t)).seq
after_for m s (check t) = (answered m (check_outcome s.last t) s (checked t)).seq
after_for m s (ask into_result) = s
after_for m s (ask take_refused) = (taken s).seq
after_for m s (ask (sheet buf at)) = s

module _ (m : DeviceModel) where
  -- the nack that is kept once a row is ticked, x being kept before
  abbrev pub keep : DspStep → Event Envelope → Option Nack → Option Nack
  keep k e x = ((row m k).store e (with_nack x no_replies)).refused

  keeps : (k : DspStep) (e : Event Envelope) (x : Option Nack) (y : DspReplies)
      → (row m k).store e (with_nack x y) ≡ with_nack (keep k e x) ((row m k).store e y)
  keeps WaitStatus e x y = refl
  keeps WaitDspQuery e x y = refl
  keeps WaitDevInfo e x y = refl
  keeps WaitProdInfo0 e x y = refl
  keeps WaitProdInfo1 e x y = refl
  keeps WaitProdInfo2 e x y = refl
  keeps WaitConfig e x y = refl
  keeps WaitPowerMode e x y = refl
  keeps Done e x y = refl

  -- the steps follow one another, with a power-mode step or without
  follows : (k : ℕ) → k < length (steps_for m) → next m (get_or (steps_for m) k Done) ≡ get_or (steps_for m) (suc k) Done
  follows zero h = refl
  follows (suc zero) h = refl
  follows (suc (suc zero)) h = refl
  follows (suc (suc (suc zero))) h = refl
  follows (suc (suc (suc (suc zero)))) h = refl
  follows (suc (suc (suc (suc (suc zero))))) h = refl
  follows (suc (suc (suc (suc (suc (suc zero)))))) h = go (has_power_mode m)
    where
      go : (b : Bool) → cond b WaitPowerMode Done ≡ get_or (cond b (WaitPowerMode ∷ []) []) 0 Done
      go true = refl
      go false = refl
  follows (suc (suc (suc (suc (suc (suc (suc k))))))) h = go (has_power_mode m) k
    where
      go : (b : Bool) (k : ℕ) → next m (get_or (cond b (WaitPowerMode ∷ []) []) k Done) ≡ get_or (cond b (WaitPowerMode ∷ []) []) (suc k) Done
      go true zero = refl
      go true (suc k) = refl
      go false k = refl

  path : rows.Path (row m) (next m) Done (steps_for m) no_replies with_nack keep
  path = record { follows = follows; ended = refl; keeps = keeps }

  abbrev pub standing : List (Event Envelope) → Option Nack → State DspStep DspReplies
  standing es x = rows.standing (row m) (next m) Done (steps_for m) no_replies with_nack keep es x

  abbrev pub ticks : Event Envelope → Tick
  ticks = tick_of (λ v. v)

  abbrev pub state_of : List (Event Envelope) → ℕ → Option Nack → DspSequencer
  state_of es t x = record { state = unview (standing es x); last = t; ticks = stored (map ticks es) }

  -- the nack that is kept after a call's event, or after none
  abbrev pub kept_all : List (Event Envelope) → Option Nack → List (Event Envelope) → Option Nack
  kept_all es x [] = x
  kept_all es x (e ∷ l) = rows.kept (row m) (next m) Done (steps_for m) no_replies with_nack keep es x e

  abbrev pub extra : List (Event Envelope) → ℕ → Option Nack → DspCall → Option Nack
  extra es t x (feed e u) = kept_all es x (event t (feed e u))
  extra es t x (check u) = kept_all es x (event t (check u))
  extra es t x (ask into_result) = x
  extra es t x (ask take_refused) = None
  extra es t x (ask (sheet buf at)) = x

  -- what a call that is the events l makes of the state
  abbrev Goes : List (Event Envelope) → ℕ → Option Nack → Answer DspSequencer → List (Event Envelope) → Type 0
  Goes es t x f l = f.seq ≡ state_of (ticked_from reading (table m) es l) (clock reading t l) (kept_all es x l)

  goes : (es : List (Event Envelope)) (t : ℕ) (x : Option Nack) (e : Event Envelope) → reading e ≤ 18_446_744_071_709_551_615
      → Goes es t x (answered m (Ok tt) (state_of es t x) e) (e ∷ [])
  goes es t x e h =
      let moved = rows.moves (row m) (next m) Done (steps_for m) no_replies with_nack keep path es x e (omega arith) in
      let told = ap (λ (b : Bool). then_tick (stored (map ticks es)) b (ticks e))
      (rows.tells (row m) (next m) Done (steps_for m) no_replies with_nack keep path es x e (omega arith))
      ∙ kept_next ticks es e (machine.ticks reading (table m) es e) in
      λ i. record { state = unview (moved i); last = reading e; ticks = told i }

  one : (es : List (Event Envelope)) (t : ℕ) (x : Option Nack) (c : DspCall)
      → after_for m (state_of es t x) c ≡ state_of (ticked_from reading (table m) es (event t c)) (clock reading t (event t c)) (extra es t x c)
  one es t x (feed e u) =
      let s = state_of es t x in
      judge (Goes es t x) (answered m (Ok tt) s (fed e u)) (refused s) (fed e u) (feed_outcome e.text e.payload t u)
      (none (feed_refusals e.text e.payload t u)) (feed_accepted e.text e.payload t u)
      (λ p. goes es t x (fed e u) (feed_fits e.text e.payload t u p).time.small)
      (λ o. refl)
  one es t x (check u) =
      let s = state_of es t x in
      judge (Goes es t x) (answered m (Ok tt) s (checked u)) (refused s) (checked u) (check_outcome t u)
      (none (check_refusals t u)) (check_accepted t u)
      (λ p. goes es t x (checked u) (check_fits t u p).small)
      (λ o. refl)
  one es t x (ask into_result) = refl
  one es t x (ask take_refused) = refl
  one es t x (ask (sheet buf at)) = refl

  pub sequencer : Called reading (table m) (after_for m) event state_of extra
  sequencer = record { rises = events_rise reading event (rises (λ e. e)) 0; one = λ es t x c h. one es t x c }

  -- Done is none of the table's steps
  pub others : Each (λ k. is_done k ≡ false) (steps_for m)
  others = (refl, (refl, (refl, (refl, (refl, (refl, (refl, go (has_power_mode m))))))))
    where
      go : (b : Bool) → Each (λ k. is_done k ≡ false) (cond b (WaitPowerMode ∷ []) [])
      go true = (refl, tt)
      go false = tt
