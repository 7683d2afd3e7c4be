-- What the steps of an arm do, as laws, and what none of them looks at.
-- Assumes nothing.
use mathlib.Core.Path.{◌≡◌, refl}
use mathlib.Core.Bool.{Bool, false, ◌||◌}
use Rattle.sequence.specs.Events.{Envelope, plain}
use Rattle.arm_steps.specs.declared.ArmStep.{ArmStep}
use Rattle.arm_steps.specs.declared.ArmStep.TheVariants.{WaitDspStatus, WaitAvrStatus, WaitArmAck, WaitPiAndArmed, Done}
use Rattle.arm_steps.specs.Answers.{dsp_status, pi_status, armed, no_send, gathered, moved_at}

-- an envelope that the first step doesn't name changes nothing
pub dsp_idles : (k : ArmStep) (pi : Bool) (e : Envelope) → k ≡ WaitDspStatus → dsp_status e ≡ false → no_send k ≡ moved_at k pi e
dsp_idles k pi e s h = rw (s, h)

-- which of the Pi's status and the armed text have come then
pub gathers : (pi arm x y : Bool) (e : Envelope) → (x ≡ pi || pi_status e) × (y ≡ arm || armed e)
    → gathered x y ≡ moved_at (WaitPiAndArmed pi arm) false e
gathers pi arm x y e h = rw (h.0, h.1)

-- no step looks at more than the source, the message and the text
pub unread : (k : ArmStep) (pi : Bool) (e : Envelope) → moved_at k pi (plain e.src e.message e.text) ≡ moved_at k pi e
unread WaitDspStatus pi e = refl
unread WaitAvrStatus pi e = refl
unread WaitArmAck pi e = refl
unread (WaitPiAndArmed p a) pi e = refl
unread Done pi e = refl
