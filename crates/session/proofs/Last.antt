-- The feed or check that ends a DSP sends nothing.
-- Assumes nothing.
use mathlib.Core.Path.{◌≡◌, refl, sym, ap, ◌∙◌}
use mathlib.Core.Bool.{Bool, true, false, cond, true≢false}
use Rattle.std.specs.Prelude.{Some, None, Result, Ok, Err}
use Rattle.protocol.specs.declared.Refusal.{Refusal}
use Rattle.device.specs.declared.model.DeviceModel.{DeviceModel}
use Rattle.device.specs.Model.{model_in, has_power_mode}
use Rattle.sequence.specs.Accepted.{feed_outcome, check_outcome}
use Rattle.sequence.specs.Events.{Envelope, Event, fed, checked}
use Rattle.sequence.specs.Rows.{passes, ticked, idle}
use Rattle.dsp_table.specs.declared.DspStep.{DspStep}
use Rattle.dsp_table.specs.declared.DspStep.TheVariants as D
use Rattle.dsp_table.specs.Stores.{power_mode}
use Rattle.dsp_table.specs.Table.{row, next}
use Rattle.dsp_steps.specs.declared.DspState.{DspState}
use Rattle.dsp_steps.specs.Answers.{view, made, advance}
use Rattle.dsp.specs.declared.DspSequencer.{DspSequencer}
use Rattle.dsp.specs.Answers.{is_done, answered}
use Rattle.session.specs.HandOver.{Theorem}

-- the row before Done
silent : (m : DeviceModel) (k : DspStep) (e : Event Envelope) → is_done k ≡ false → is_done (next m k) ≡ true → (row m k).send e ≡ None
silent m D.WaitStatus e h i = absurd (true≢false (sym i))
silent m D.WaitDspQuery e h i = absurd (true≢false (sym i))
silent m D.WaitDevInfo e h i = absurd (true≢false (sym i))
silent m D.WaitProdInfo0 e h i = absurd (true≢false (sym i))
silent m D.WaitProdInfo1 e h i = absurd (true≢false (sym i))
silent m D.WaitProdInfo2 e h i = absurd (true≢false (sym i))
silent m D.WaitConfig e h i = go (has_power_mode m) i
  where
    go : (b : Bool) → is_done (cond b D.WaitPowerMode D.Done) ≡ true → cond b (Some power_mode) None ≡ None
    go true i = absurd (true≢false (sym i))
    go false i = refl
silent m D.WaitPowerMode e h i = refl
silent m D.Done e h i = absurd (true≢false h)

ends : (m : DeviceModel) (s : DspState) (e : Event Envelope) → is_done s.step ≡ false → is_done (advance m s e).state.step ≡ true → (advance m s e).action ≡ None
ends m s e h i = go (passes (row m s.step) s.deadline e) i
  where
    go : (b : Bool) → is_done (made (cond b (ticked (row m s.step) (next m s.step) (row m (next m s.step)) (view s) e) (idle (view s)))).state.step ≡ true
        → (made (cond b (ticked (row m s.step) (next m s.step) (row m (next m s.step)) (view s) e) (idle (view s)))).action ≡ None
    go true i = silent m s.step e h i
    go false i = absurd (true≢false (sym i ∙ h))

by_outcome : (o : Result (Unit {0}) Refusal) (s : DspSequencer) (e : Event Envelope) → is_done s.state.step ≡ false
    → is_done (answered (model_in s.state.replies.dev_info) o s e).seq.state.step ≡ true
    → (answered (model_in s.state.replies.dev_info) o s e).outcome ≡ Ok None
by_outcome (Ok u) s e h i = ap Ok (ends (model_in s.state.replies.dev_info) s.state e h i)
by_outcome (Err r) s e h i = absurd (true≢false (sym i ∙ h))

pub last : Theorem
last = record {
  by_a_feed = λ s e t h i. by_outcome (feed_outcome e.text e.payload s.last t) s (fed e t) h i;
  by_a_check = λ s t h i. by_outcome (check_outcome s.last t) s (checked t) h i;
}
