-- What is left of `feed`: the step decides where the bytes don't.
-- Assumes nothing.
use Rattle.std.proofs.Common.{rules, [], ap, ◌∙◌}
use Rattle.sequence.specs.Events.{Envelope}
use Rattle.arm_steps.specs.declared.ArmMoved.{ArmMoved}
use Rattle.arm_steps.proofs.Steps.{unread}
use Rattle.arm.specs.Answers.{counted}
use Rattle.arm.proofs.Steps.{by_step}
use Rattle.arm.proofs.ArmSequencer.feed.Goals as goal

pub returns-in-Ok : goal.returns-in-Ok
returns-in-Ok c = let a = c.args in
    let e : Envelope = record { src = a.src; type_id = a.type_id; message = a.message; params = []; text = a.text.now; payload = a.payload.now } in
    c.counted.ensures ∙ ap (λ (w : ArmMoved). counted a.self w) (c.feed-moved.ensures ∙ unread a.self.step a.self.wait_pi e) ∙ by_step a.self e (search rules)
