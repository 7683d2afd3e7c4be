-- What no step looks at: an answer is the same for an envelope without its numbers.
-- Assumes nothing.
use mathlib.Core.Path.{◌≡◌, refl}
use mathlib.Core.Bool.{Bool, true, false}
use mathlib.Core.List.{[]}
use Rattle.disarm.specs.declared.DisarmSequencer.{DisarmSequencer}
use Rattle.disarm.specs.declared.DisarmStep.{DisarmStep}
use Rattle.disarm.specs.declared.DisarmStep.TheVariants as D
use Rattle.disarm.specs.Answers as disarms
use Rattle.arm.specs.declared.ArmSequencer.{ArmSequencer}
use Rattle.arm_steps.specs.declared.ArmStep.{ArmStep}
use Rattle.arm_steps.specs.declared.ArmStep.TheVariants as A
use Rattle.arm.specs.Answers as arms
use Rattle.avr_config_steps.specs.declared.AvrConfigStep.{AvrConfigStep}
use Rattle.avr_config_steps.specs.declared.AvrConfigStep.TheVariants as C
use Rattle.avr_config.specs.declared.AvrConfigSequencer.{AvrConfigSequencer}
use Rattle.avr_config.specs.Answers as configs
use Rattle.pi.specs.declared.PiSequencer.{PiSequencer}
use Rattle.pi_table.specs.declared.PiStep.{PiStep}
use Rattle.pi_table.specs.declared.PiStep.TheVariants as P
use Rattle.pi.specs.Answers as pis
use Rattle.sequence.specs.Events as events
use Rattle.envelope.specs.Lent.{lent}
use Rattle.envelope.specs.declared.Envelope.{Envelope}

-- what the sequencer's feed is told of it: with the numbers, or without
abbrev pub told : Bool → Envelope → events.Envelope
told true e = record { src = e.src; type_id = e.type_id; message = e.message; params = e.params; text = e.text.now; payload = e.payload.now }
told false e = record { src = e.src; type_id = e.type_id; message = e.message; params = []; text = e.text.now; payload = e.payload.now }

-- the answer is the same
abbrev Same : {X : Type 0} → (events.Envelope → X) → Envelope → Type 0
Same g e = g (told false e) ≡ g (lent e)

pub disarm : (s : DisarmSequencer) (e : Envelope) → Same (disarms.fed_to s) e
disarm s e = at s.step
  where
    at : (k : DisarmStep) → Same (disarms.fed_to (record { step = k })) e
    at D.WaitAck = refl
    at D.WaitModeReset = refl
    at D.WaitStateIdle = refl
    at D.Done = refl

pub arm : (s : ArmSequencer) (e : Envelope) → Same (arms.fed_to s) e
arm s e = at s.step
  where
    at : (k : ArmStep) → Same (arms.fed_to (record { step = k; retries = s.retries; wait_pi = s.wait_pi })) e
    at A.WaitDspStatus = refl
    at A.WaitAvrStatus = refl
    at A.WaitArmAck = refl
    at (A.WaitPiAndArmed p a) = refl
    at A.Done = refl

pub avr_config : (s : AvrConfigSequencer) (e : Envelope) → Same (configs.fed_to s) e
avr_config s e = at s.step
  where
    at : (k : AvrConfigStep) → Same (configs.fed_to (record { step = k; settings = s.settings })) e
    at C.WaitInitGateAck = refl
    at (C.WaitParamAck i) = refl
    at (C.WaitParamCommitAck i) = refl
    at C.WaitModeEcho = refl
    at C.WaitModeCommitAck = refl
    at C.WaitRadarCalEcho = refl
    at C.WaitRadarCalCommitAck = refl
    at C.Done = refl

pub pi : (s : PiSequencer) (e : Envelope) → Same (pis.fed_to s) e
pi s e = at s.step
  where
    at : (k : PiStep) → Same (pis.fed_to (record { step = k; replies = s.replies; ticks = s.ticks })) e
    at P.WaitStatus = refl
    at P.WaitDevInfo = refl
    at P.WaitParam0A = refl
    at P.WaitCamConfig1 = refl
    at P.WaitCamConfig2 = refl
    at P.WaitNetConfig = refl
    at P.WaitNetConfigPw = refl
    at (P.WaitParams i) = refl
    at P.Done = refl
