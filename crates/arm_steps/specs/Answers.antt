-- What an arm does with a feed, step by step (docs/SCOPE.md, "Arm"): which feeds lead on, what is sent, which step comes next, and whether a
-- nack is counted. Definitions only.
-- Assumes nothing.
use Rattle.std.specs.Prelude.{ℕ, Bool, true, false, not, cond, ◌&&◌, ◌||◌, List, Some, None, codes}
use Rattle.protocol.specs.declared.BusAddr.{BusAddr}
use Rattle.protocol.specs.declared.Action.{Action}
use Rattle.protocol.specs.Kinds as kinds
use Rattle.device.specs.Search.{contains}
use Rattle.arm_steps.specs.Armed.{says_armed}
use Rattle.requests.specs.Requests.{status_poll, avr_config_cmd}
use Rattle.sequence.specs.Events.{Envelope, of_kind, kind}
use Rattle.arm_steps.specs.declared.ArmStep.{ArmStep}
use Rattle.arm_steps.specs.declared.ArmStep.TheVariants.{WaitDspStatus, WaitAvrStatus, WaitArmAck, WaitPiAndArmed, Done}
use Rattle.arm_steps.specs.declared.ArmMoved.{ArmMoved}

-- ---- the feeds that lead on

abbrev pub dsp_status : Envelope → Bool
dsp_status = kind 0x40 kinds.dsp_status

abbrev pub avr_status : Envelope → Bool
avr_status = kind 0x30 kinds.avr_status

abbrev pub nack : Envelope → Bool
nack = kind 0x30 kinds.config_nack

abbrev pub ack : Envelope → Bool
ack = kind 0x30 kinds.config_ack

-- the last two from any source
abbrev pub pi_status : Envelope → Bool
pi_status = of_kind kinds.pi_status

abbrev pub cancelled_bytes : List ℕ
cancelled_bytes = codes "CANCELLED"

-- a text in which an occurrence of "ARMED" counts, and no "CANCELLED" stands
abbrev pub is_armed : List ℕ → Bool
is_armed text = says_armed text && not (contains cancelled_bytes text)

abbrev pub armed : Envelope → Bool
armed e = of_kind kinds.text e && is_armed e.text

-- ---- what they lead to

-- a send, and the step that it begins
abbrev pub send : Action → ArmStep → ArmMoved
send a k = record { action = Some a; step = k; nacked = false }

abbrev pub no_send : ArmStep → ArmMoved
no_send k = record { action = None; step = k; nacked = false }

-- the unit refused: one more is counted, and it goes back to the beginning
abbrev pub retried : ArmMoved
retried = record { action = Some (status_poll false BusAddr.Dsp); step = WaitDspStatus; nacked = true }

-- the unit took it: the Pi is polled if there is one
abbrev pub taken : Bool → ArmMoved
taken pi = cond pi (send (status_poll true BusAddr.Pi) (WaitPiAndArmed false false)) (no_send (WaitPiAndArmed true false))

-- which of the two have come
abbrev pub gathered : Bool → Bool → ArmMoved
gathered pi arm = no_send (cond (pi && arm) Done (WaitPiAndArmed pi arm))

-- ---- a feed at a step; pi: whether the Pi is waited for

-- DspStatus from Dsp, AvrStatus from Avr, ConfigNack or ConfigAck from Avr; last PiStatus and the armed text, in either order. Any other leads nowhere.
abbrev pub moved_at : ArmStep → Bool → Envelope → ArmMoved
moved_at WaitDspStatus pi e = cond (dsp_status e) (send (status_poll false BusAddr.Avr) WaitAvrStatus) (no_send WaitDspStatus)
moved_at WaitAvrStatus pi e = cond (avr_status e) (send (avr_config_cmd true) WaitArmAck) (no_send WaitAvrStatus)
moved_at WaitArmAck pi e = cond (nack e) retried (cond (ack e) (taken pi) (no_send WaitArmAck))
moved_at (WaitPiAndArmed p a) pi e = gathered (p || pi_status e) (a || armed e)
moved_at Done pi e = no_send Done
