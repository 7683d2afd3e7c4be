-- The envelope that the rows of the sequences read, of a decoded envelope that refers to the lent bytes. Definitions only.
-- Assumes nothing.
use Rattle.sequence.specs.Events as events
use Rattle.envelope.specs.declared.Envelope.{Envelope}

abbrev pub lent : Envelope → events.Envelope
lent e = record { src = e.src; type_id = e.type_id; message = e.message; params = e.params; text = e.text.now; payload = e.payload.now }
