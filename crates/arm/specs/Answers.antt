-- What the calls of an arm answer (docs/SCOPE.md, "Arm"): refused with the lowest number that applies, or by the step (crate arm_steps). There
-- is no clock. Definitions only.
-- Assumes nothing.
use Rattle.std.specs.Prelude.{◌+◌, false, cond, ◌&&◌, List, [], ◌∷◌, ◌++◌, eqb, Some, Ok}
use Rattle.protocol.specs.declared.BusAddr.{BusAddr}
use Rattle.protocol.specs.Refusals.{Applies, outcome, lowest}
use Rattle.device.specs.declared.model.DeviceModel.{DeviceModel}
use Rattle.device.specs.Model.{has_camera}
use Rattle.requests.specs.Requests.{status_poll}
use Rattle.sequence.specs.Accepted.{applies, bytes_refusals}
use Rattle.sequence.specs.Events.{Envelope}
use Rattle.sequence.specs.declared.Answer.{Answer}
use Rattle.sequence.specs.Rows.{judged, refused}
use Rattle.arm_steps.specs.declared.ArmStep.{ArmStep}
use Rattle.arm_steps.specs.declared.ArmMoved.{ArmMoved}
use Rattle.arm_steps.specs.Answers.{moved_at}
use Rattle.arm.specs.declared.ArmSequencer.{ArmSequencer}

-- new polls the Dsp; with a camera the Pi is waited for
abbrev pub begun : DeviceModel → Answer ArmSequencer
begun m = record { outcome = Ok (Some (status_poll false BusAddr.Dsp)); seq = record { step = ArmStep.WaitDspStatus; retries = 0; wait_pi = has_camera m } }

-- ---- a feed

-- an accepted one: what the step makes of it; a nack adds 1 to retries
abbrev pub accepted : ArmSequencer → ArmMoved → Answer ArmSequencer
accepted s w = record {
  outcome = Ok w.action;
  seq = record { step = w.step; retries = cond w.nacked (s.retries + 1) s.retries; wait_pi = s.wait_pi };
}

-- 13: a nack that would be counted while retries is 65,535
abbrev pub retries_refusals : ArmSequencer → ArmMoved → List Applies
retries_refusals s w = applies 13 (w.nacked && eqb s.retries 65_535) ∷ []

-- what the step makes of a feed
abbrev pub advance : ArmSequencer → Envelope → ArmMoved
advance s e = moved_at s.step s.wait_pi e

-- 1 and 2 first
abbrev pub arm_refusals : ArmSequencer → Envelope → List Applies
arm_refusals s e = bytes_refusals e.text e.payload ++ retries_refusals s (advance s e)

abbrev pub fed_to : ArmSequencer → Envelope → Answer ArmSequencer
fed_to s e = judged (outcome (lowest (arm_refusals s e))) (accepted s (advance s e)) (refused s)

-- the part of it that the step decides: of a feed to which 1 and 2 don't apply
abbrev pub counted : ArmSequencer → ArmMoved → Answer ArmSequencer
counted s w = judged (outcome (lowest (retries_refusals s w))) (accepted s w) (refused s)

-- the same, at a step
abbrev pub answered_at : ArmStep → ArmSequencer → Envelope → Answer ArmSequencer
answered_at k s e = counted s (moved_at k s.wait_pi e)
