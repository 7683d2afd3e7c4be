-- What decides a feed of a settings run from the AVR, where the bytes don't: the row.
-- Assumes nothing.
use Rattle.std.proofs.Common.{[], ◌≡◌, sym, ap, ◌∙◌}
use Rattle.protocol.specs.declared.BusAddr.{BusAddr}
use Rattle.std.specs.Prelude.{Ok}
use Rattle.sequence.specs.Accepted.{bytes_outcome}
use Rattle.sequence.specs.Events.{Envelope, fed, plain}
use Rattle.sequence.specs.Rows.{refused}
use Rattle.sequence.proofs.Arms.{judged_accepted}
use Rattle.avr_config_steps.specs.Answers as steps
use Rattle.avr_config_steps.proofs.Rows.{unread}
use Rattle.avr_config.specs.declared.AvrConfigSequencer.{AvrConfigSequencer}
use Rattle.avr_config.specs.Answers.{accepted, advance, fed_to}

-- the row decides of an envelope from the AVR
pub by_row : (s : AvrConfigSequencer) (e : Envelope) → bytes_outcome e.text e.payload ≡ Ok tt → e.src ≡ BusAddr.Avr
    → accepted s.settings (steps.advance s.settings s.step (fed (plain BusAddr.Avr e.message []) 0)) ≡ fed_to s e
by_row s e o h =
    ap (λ (d : BusAddr). accepted s.settings (steps.advance s.settings s.step (fed (plain d e.message []) 0))) (sym h)
    ∙ ap (accepted s.settings) (unread s.settings s.step e)
    ∙ judged_accepted (bytes_outcome e.text e.payload) (advance s (fed e 0)) (refused s) o
