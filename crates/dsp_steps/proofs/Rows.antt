-- The rows at a step: which row decides, and when none passes.
-- Assumes nothing.
use mathlib.Core.Path.{◌≡◌, refl, sym, ap, ◌∙◌}
use mathlib.Core.Bool.{true, false}
use lib.Dec.{eqb}
use Rattle.std.specs.Prelude.{ℕ, Option}
use Rattle.protocol.specs.Addr.{byte_of}
use Rattle.device.specs.declared.model.DeviceModel.{DeviceModel}
use Rattle.device.specs.Model.{model_in}
use Rattle.sequence.specs.Events.{Envelope, Event, checked, Wait, forever, nanos}
use Rattle.sequence.specs.Rows.{idle, ticked, passes, past, reached, due}
use Rattle.sequence.proofs.Arms.{at_ticks, at_idles}
use Rattle.dsp_table.specs.declared.DspStep.{DspStep}
use Rattle.dsp_table.specs.declared.DspStep.TheVariants.{WaitStatus, WaitDspQuery, WaitDevInfo, WaitProdInfo0, WaitProdInfo1, WaitProdInfo2, WaitConfig, WaitPowerMode, Done}
use Rattle.dsp_steps.specs.declared.DspState.{DspState}
use Rattle.dsp_table.specs.Table.{DspRow, row, next, entry8}
use Rattle.dsp_steps.specs.Answers.{view, made, advance, answered, arm_at}

-- the row at the step decides
pub at_step : (m : DeviceModel) (s : DspState) (e : Event Envelope) (k : DspStep) → s.step ≡ k
    → arm_at (row m k) (next m k) (row m (next m k)) s e ≡ advance m s e
at_step m s e k h = ap (λ (j : DspStep). arm_at (row m j) (next m j) (row m (next m j)) s e) (sym h)

-- an event that does not pass the row changes nothing
pub idles : (r : DspRow) (k : DspStep) (r' : DspRow) (s : DspState) (e : Event Envelope) → passes r s.deadline e ≡ false
    → idle s ≡ arm_at r k r' s e
idles r k r' s e h = ap made (sym (at_idles r k r' (view s) e h))

-- one that passes ticks it
pub ticks : (r : DspRow) (k : DspStep) (r' : DspRow) (s : DspState) (e : Event Envelope) → passes r s.deadline e ≡ true
    → made (ticked r k r' (view s) e) ≡ arm_at r k r' s e
ticks r k r' s e h = ap made (sym (at_ticks r k r' (view s) e h))

-- before the deadline a check ticks no row
not_due : (w : Wait) (d : Option ℕ) (t : ℕ) → reached d t ≡ false → due w d t ≡ false
not_due forever d t h = refl
not_due (nanos n) d t h = h

-- and so it changes nothing
pub early : (s : DspState) (t : ℕ) → reached s.deadline t ≡ false → idle s ≡ answered s (checked t)
early s t h =
    let m = model_in s.replies.dev_info in
    idles (row m s.step) (next m s.step) (row m (next m s.step)) s (checked t) (not_due (row m s.step).wait s.deadline t h)

-- from then on, where the reply to the power-mode write is awaited, it ticks entry 8
pub unanswered : (s : DspState) (t : ℕ) → s.step ≡ WaitPowerMode → reached s.deadline t ≡ true
    → made (ticked entry8 Done past (view s) (checked t)) ≡ answered s (checked t)
unanswered s t k h = ticks entry8 Done past s (checked t) h ∙ at_step (model_in s.replies.dev_info) s (checked t) WaitPowerMode k

-- no row has a reply from another device
pub foreign : (m : DeviceModel) (k : DspStep) (e : Envelope) → eqb (byte_of e.src) 0x40 ≡ false → (row m k).reply e ≡ false
foreign m WaitStatus e h = rw h
foreign m WaitDspQuery e h = rw h
foreign m WaitDevInfo e h = rw h
foreign m WaitProdInfo0 e h = rw h
foreign m WaitProdInfo1 e h = rw h
foreign m WaitProdInfo2 e h = rw h
foreign m WaitConfig e h = rw h
foreign m WaitPowerMode e h = rw h
foreign m Done e h = refl
