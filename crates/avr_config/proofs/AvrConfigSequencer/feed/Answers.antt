-- What is left of `feed`: the row decides of an envelope from the AVR, where the bytes don't.
-- Assumes nothing.
use Rattle.std.proofs.Common.{rules, [], ap, ◌∙◌}
use Rattle.sequence.specs.Events.{Envelope}
use Rattle.avr_config.specs.Answers.{accepted}
use Rattle.avr_config.proofs.Feeds.{by_row}
use Rattle.avr_config.proofs.AvrConfigSequencer.feed.Goals as goal

pub returns : goal.returns
returns c = let a = c.args in
    let e : Envelope = record { src = a.src; type_id = a.type_id; message = a.message; params = []; text = a.text.now; payload = a.payload.now } in
    c.accepted-2.ensures ∙ ap (accepted a.self.settings) c.feed-moved.ensures ∙ by_row a.self e (search rules) (search rules)
