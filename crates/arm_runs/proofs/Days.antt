-- The theorem at work: an arm of a Xi that is refused twice, and arms of the rig and of a Mevo, in which every part of it is read. A weaker
-- theorem would not give these.
-- Assumes nothing.
use Prim.Native.Nat.{ℕ}
use mathlib.Core.Path.{◌≡◌, refl, sym}
use mathlib.Core.Bool.{true, true≢false}
use mathlib.Core.List.{List, [], ◌∷◌, ◌++◌}
use Rattle.protocol.specs.declared.BusAddr.{BusAddr}
use Rattle.protocol.specs.declared.Message.{Message}
use Rattle.protocol.specs.declared.DspStatus.{DspStatus}
use Rattle.protocol.specs.Carried.{no_avr_status}
use Rattle.std.specs.Prelude.{codes}
use Rattle.device.specs.Model as models
use Rattle.sequence.specs.Events.{Envelope, plain}
use Rattle.arm_steps.specs.declared.ArmStep.{ArmStep}
use Rattle.arm_steps.specs.Armed.{armed_bytes}
use Rattle.arm_steps.specs.Answers.{cancelled_bytes}
use Rattle.arm_runs.specs.Theorem.{run, nacks, armed_since, state}
use Rattle.arm_runs.proofs.Whole.{right}

abbrev dsp : Envelope
dsp = plain BusAddr.Dsp (Message.DspStatus (DspStatus.V46 (record { state = 1; version = 0x46 }))) []

abbrev avr : Envelope
avr = plain BusAddr.Avr (Message.AvrStatus no_avr_status) []

abbrev nack : BusAddr → Envelope
nack b = plain b (Message.ConfigNack (record { bus_addr = 0x30; acked_cmd = 0x30 })) []

abbrev ack : Envelope
ack = plain BusAddr.Avr (Message.ConfigAck (record { bus_addr = 0x30; acked_cmd = 0x30 })) []

abbrev text : List ℕ → Envelope
text t = plain BusAddr.App Message.Text t

abbrev pi : Envelope
pi = plain BusAddr.App Message.PiStatus []

-- ---- a Xi: two nacks are counted, one from another device, one too early and one too late are not; the text alone is waited for

abbrev xi : List Envelope
xi =
    nack BusAddr.Avr ∷ dsp ∷ avr ∷ nack BusAddr.Dsp ∷ nack BusAddr.Avr ∷ ack ∷ text armed_bytes ∷ dsp ∷ avr ∷ nack BusAddr.Avr ∷ avr ∷ dsp ∷ avr ∷ ack
    ∷ nack BusAddr.Avr ∷ []

pub xi_retries : (state models.xi xi).retries ≡ 2
xi_retries = (right models.xi xi).retries

-- "DISARMED" alone is no armed text; with another "ARMED" behind a blank it is
abbrev xi_disarmed : List Envelope
xi_disarmed = xi ++ text (codes "DISARMED") ∷ []

pub xi_not_armed : (state models.xi xi_disarmed).step ≡ ArmStep.Done → ⊥
xi_not_armed d = true≢false (sym ((right models.xi xi_disarmed).done.0 d))

pub xi_done : (state models.xi (xi_disarmed ++ text (codes "DISARMED ARMED") ∷ [])).step ≡ ArmStep.Done
xi_done = (right models.xi (xi_disarmed ++ text (codes "DISARMED ARMED") ∷ [])).done.1 refl

-- "ARMED CANCELLED"
abbrev xi_cancelled : List Envelope
xi_cancelled = xi ++ text (armed_bytes ++ 0x20 ∷ cancelled_bytes) ∷ []

pub xi_waits : (state models.xi xi_cancelled).step ≡ ArmStep.Done → ⊥
xi_waits d = true≢false (sym ((right models.xi xi_cancelled).done.0 d))

-- ---- the practice rig: the text alone is waited for

pub rig_done : (state models.rig (dsp ∷ avr ∷ ack ∷ text armed_bytes ∷ [])).step ≡ ArmStep.Done
rig_done = (right models.rig (dsp ∷ avr ∷ ack ∷ text armed_bytes ∷ [])).done.1 refl

-- ---- a Mevo: the Pi's status too, in either order

abbrev mevo : List Envelope
mevo = pi ∷ dsp ∷ avr ∷ ack ∷ text armed_bytes ∷ []

pub mevo_waits : (state models.mevo mevo).step ≡ ArmStep.Done → ⊥
mevo_waits d = true≢false (sym ((right models.mevo mevo).done.0 d))

pub text_first : (state models.mevo (mevo ++ pi ∷ [])).step ≡ ArmStep.Done
text_first = (right models.mevo (mevo ++ pi ∷ [])).done.1 refl

pub pi_first : (state models.mevo (dsp ∷ avr ∷ ack ∷ pi ∷ text armed_bytes ∷ [])).step ≡ ArmStep.Done
pi_first = (right models.mevo (dsp ∷ avr ∷ ack ∷ pi ∷ text armed_bytes ∷ [])).done.1 refl

-- and back: what is done has been seen in the list
pub seen : armed_since models.mevo (nacks (run (mevo ++ pi ∷ []))).since ≡ true
seen = (right models.mevo (mevo ++ pi ∷ [])).done.0 text_first
