-- There and back, by that of each start-up.
-- Assumes nothing.
use Rattle.std.proofs.Common.{◌≡◌, refl, Option, Some, None, Ok}
use Rattle.avr.specs.declared.AvrSequencer.{AvrSequencer}
use Rattle.pi.specs.declared.PiSequencer.{PiSequencer}
use Rattle.abi_laws.proofs.Back as laws
use Rattle.abi_session.specs.State.{option_avr_in, option_avr_out, option_pi_in, option_pi_out}
use Rattle.abi_session_laws.specs.Theorem.{Back}

avr_back : (s : Option AvrSequencer) → option_avr_in (option_avr_out s) ≡ Ok s
avr_back (Some s) = rw (laws.back.avr s)
avr_back None = refl

pi_back : (s : Option PiSequencer) → option_pi_in (option_pi_out s) ≡ Ok s
pi_back (Some s) = rw (laws.back.pi s)
pi_back None = refl

pub back : Back
back = record {
  avr = avr_back;
  pi = pi_back;
  session = λ s. rw (laws.back.dsp s.dsp, avr_back s.avr, pi_back s.pi);
}
