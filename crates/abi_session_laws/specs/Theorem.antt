-- What goes to a host and comes back is what it was, of a session: of each of its start-ups that may not have begun, and of the whole. Definitions
-- only.
-- Assumes nothing.
use Rattle.std.specs.Prelude.{◌≡◌, Option, Ok}
use Rattle.avr.specs.declared.AvrSequencer.{AvrSequencer}
use Rattle.pi.specs.declared.PiSequencer.{PiSequencer}
use Rattle.session.specs.declared.Session.{Session}
use Rattle.abi_session.specs.State.{option_avr_in, option_avr_out, option_pi_in, option_pi_out, session_in, session_out}

pub record Back : Type 0 where
  pub avr : (s : Option AvrSequencer) → option_avr_in (option_avr_out s) ≡ Ok s
  pub pi : (s : Option PiSequencer) → option_pi_in (option_pi_out s) ≡ Ok s
  pub session : (s : Session) → session_in (session_out s) ≡ Ok s
