-- What decides a feed of an arm: the bytes first, then the step.
-- Assumes nothing.
use mathlib.Core.Path.{◌≡◌, sym, ap}
use Prim.Native.Nat.{◌<◌}
use native.Mathlib.Omega.{arith}
use Rattle.protocol.specs.declared.Refusal.{Refusal}
use Rattle.std.specs.Prelude.{Result, Ok, Err}
use Rattle.protocol.specs.Refusals.{outcome, lowest}
use Rattle.protocol.proofs.Numbers.{Rises, end, then, gives_lowest}
use Rattle.sequence.specs.Accepted.{bytes_outcome}
use Rattle.sequence.specs.Events.{Envelope}
use Rattle.sequence.specs.Rows.{judged, refused}
use Rattle.sequence.proofs.Acceptance.{bytes_first, bytes_pass}
use Rattle.sequence.proofs.Arms.{judged_refused}
use Rattle.arm.specs.declared.ArmSequencer.{ArmSequencer}
use Rattle.arm.specs.Answers.{accepted, retries_refusals, advance, arm_refusals, answered_at, fed_to}
use Rattle.arm.specs.Lowest.{Theorem}

-- where 1 and 2 don't apply the step decides; where one does, it is refused
pub by_step : (s : ArmSequencer) (e : Envelope) → bytes_outcome e.text e.payload ≡ Ok tt → answered_at s.step s e ≡ fed_to s e
by_step s e h =
    ap (λ (o : Result (Unit {0}) Refusal). judged o (accepted s (advance s e)) (refused s))
    (sym (bytes_pass e.text e.payload (retries_refusals s (advance s e)) h))

pub by_bytes : (s : ArmSequencer) (e : Envelope) (r : Refusal) → bytes_outcome e.text e.payload ≡ Err r
    → refused s r ≡ fed_to s e
by_bytes s e r h =
    judged_refused (outcome (lowest (arm_refusals s e))) (accepted s (advance s e)) (refused s) r
    (bytes_first e.text e.payload (retries_refusals s (advance s e)) r h)

-- the numbers rise, so the one given is the lowest
arm_rise : (s : ArmSequencer) (e : Envelope) → Rises 0 (arm_refusals s e)
arm_rise s e =
    let one : 0 < 1 = omega arith in
    let two : 1 < 2 = omega arith in
    let thirteen : 2 < 13 = omega arith in
    then one (then two (then thirteen end))

pub lowest_given : Theorem
lowest_given s e = gives_lowest (arm_rise s e)
