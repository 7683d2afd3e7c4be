-- While the DSP is not done it alone is fed.
-- Assumes nothing.
use Rattle.session.proofs.Leads.{leads}
use Rattle.session.proofs.Session.feed.Goals as goal

pub returns-in_default-step : goal.returns-in_default-step
returns-in_default-step c =
    let a = c.args in
    leads a.self (record { envelope = record { src = a.src; type_id = a.type_id; message = a.message; params = a.params; text = a.text.now; payload = a.payload.now }; wall = a.wall }) a.now
    c.feed-fed.result c.in_default.field-0 c.led.result c.feed-fed.ensures c.in_default.is c.in_default-step.not-Done c.led.ensures
