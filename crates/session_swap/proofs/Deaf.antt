-- What a sequence makes of an envelope from another source: its reading alone.
-- Assumes nothing.
use Prim.Native.Nat.{ℕ}
use mathlib.Core.Path.{◌≡◌, refl, sym, ap}
use mathlib.Core.Bool.{true, false, true≢false}
use lib.Dec.{eqb}
use Rattle.std.specs.Prelude.{Option, None, Ok}
use Rattle.protocol.specs.Addr.{byte_of}
use Rattle.device.specs.declared.model.DeviceModel.{DeviceModel}
use Rattle.sequence.specs.Events.{Envelope, fed}
use Rattle.sequence.specs.Rows.{idle}
use Rattle.sequence.specs.declared.Answer.{Answer}
use Rattle.sequence.proofs.Arms.{at_idles}
use Rattle.dsp_table.specs.declared.DspStep.{DspStep}
use Rattle.dsp_table.specs.declared.DspStep.TheVariants as D
use Rattle.dsp_table.specs.declared.DspReplies.{DspReplies}
use Rattle.dsp_steps.specs.declared.DspState.{DspState}
use Rattle.dsp_steps.specs.Answers as dsteps
use Rattle.dsp.specs.Answers as dsp
use Rattle.avr_table.specs.declared.AvrStep.{AvrStep}
use Rattle.avr_table.specs.declared.AvrStep.TheVariants as A
use Rattle.avr_table.specs.Stores.{Dated}
use Rattle.avr_table.specs.Table as avr_table
use Rattle.avr_steps.specs.declared.AvrState.{AvrState}
use Rattle.avr_steps.specs.Answers as asteps
use Rattle.pi_table.specs.declared.PiStep.{PiStep}
use Rattle.pi_table.specs.declared.PiStep.TheVariants as P
use Rattle.pi_table.specs.Table as pi_table
use Rattle.pi.specs.declared.PiSequencer.{PiSequencer}
use Rattle.pi.specs.Answers as pi

-- ---- a DSP that is done, of any envelope

abbrev dsp_at : DspStep → DspReplies → Option ℕ → DspState
dsp_at k y w = record { step = k; replies = y; deadline = w }

dsp_still : (m : DeviceModel) (k : DspStep) (y : DspReplies) (w : Option ℕ) (e : Envelope) (t : ℕ) → dsp.is_done k ≡ true
    → dsteps.advance m (dsp_at k y w) (fed e t) ≡ idle (dsp_at k y w)
dsp_still m D.WaitStatus y w e t h = absurd (true≢false (sym h))
dsp_still m D.WaitDspQuery y w e t h = absurd (true≢false (sym h))
dsp_still m D.WaitDevInfo y w e t h = absurd (true≢false (sym h))
dsp_still m D.WaitProdInfo0 y w e t h = absurd (true≢false (sym h))
dsp_still m D.WaitProdInfo1 y w e t h = absurd (true≢false (sym h))
dsp_still m D.WaitProdInfo2 y w e t h = absurd (true≢false (sym h))
dsp_still m D.WaitConfig y w e t h = absurd (true≢false (sym h))
dsp_still m D.WaitPowerMode y w e t h = absurd (true≢false (sym h))
dsp_still m D.Done y w e t h = refl

pub dsp_deaf : (m : DeviceModel) (s : DspState) (e : Envelope) (t : ℕ) → dsp.is_done s.step ≡ true → dsteps.advance m s (fed e t) ≡ idle s
dsp_deaf m s e t h = dsp_still m s.step s.replies s.deadline e t h

-- ---- an AVR

avr_row : (m : DeviceModel) (k : AvrStep) (d : Dated) → eqb (byte_of d.envelope.src) 0x30 ≡ false → (avr_table.row m k).reply d ≡ false
avr_row m A.WaitStatus1 d h = rw h refl
avr_row m A.WaitStatus2 d h = rw h refl
avr_row m A.WaitDevInfo1 d h = rw h refl
avr_row m A.WaitDevInfo2 d h = rw h refl
avr_row m A.WaitParam0C d h = rw h refl
avr_row m A.WaitParam0D d h = rw h refl
avr_row m A.WaitConfig d h = rw h refl
avr_row m A.WaitFactoryCal d h = rw h refl
avr_row m A.WaitIfCal d h = rw h refl
avr_row m A.WaitAvrConfig d h = rw h refl
avr_row m A.WaitParam64 d h = rw h refl
avr_row m A.WaitTimeSync d h = rw h refl
avr_row m A.Done d h = refl

pub avr_deaf : (s : AvrState) (d : Dated) (t : ℕ) → eqb (byte_of d.envelope.src) 0x30 ≡ false → asteps.answered s (fed d t) ≡ idle s
avr_deaf s d t h =
    let nack : asteps.is_nack (fed d t) ≡ false = rw h refl in
    rw nack
    (ap (asteps.made s.model)
    (at_idles (avr_table.row s.model s.step) (avr_table.next s.model s.step) (avr_table.row s.model (avr_table.next s.model s.step)) (asteps.view s) (fed d t)
    (avr_row s.model s.step d h)))

-- ---- a Pi

pi_row : (k : PiStep) (e : Envelope) → eqb (byte_of e.src) 0x12 ≡ false → (pi_table.row k).reply e ≡ false
pi_row P.WaitStatus e h = rw h refl
pi_row P.WaitDevInfo e h = rw h refl
pi_row P.WaitParam0A e h = rw h refl
pi_row P.WaitCamConfig1 e h = rw h refl
pi_row P.WaitCamConfig2 e h = rw h refl
pi_row P.WaitNetConfig e h = rw h refl
pi_row P.WaitNetConfigPw e h = rw h refl
pi_row (P.WaitParams i) e h = rw h refl
pi_row P.Done e h = refl

abbrev pub pi_idle : PiSequencer → Answer PiSequencer
pi_idle s = record { outcome = Ok None; seq = s }

pub pi_deaf : (s : PiSequencer) (e : Envelope) → eqb (byte_of e.src) 0x12 ≡ false → pi.advance s (fed e 0) ≡ pi_idle s
pi_deaf s e h =
    ap (pi.made s.ticks (fed e 0)) (at_idles (pi_table.row s.step) (pi_table.next s.step) (pi_table.row (pi_table.next s.step)) (pi.view s) (fed e 0) (pi_row s.step e h))
