-- A session as a host holds it, and back: its three start-ups, known if each is. Beside one that hasn't begun stands a new one on the way out, of a
-- Mevo; on the way in its numbers must be known, and it is then not looked at. Definitions only.
-- Assumes nothing.
use Rattle.std.specs.Prelude.{ℕ, true, false, cond, eqb, Option, Some, None, Result, Ok}
use Rattle.std.specs.Bool.{then_some}
use Rattle.device.specs.Model.{mevo}
use Rattle.sheet.specs.declared.StartUp.{StartUp}
use Rattle.sheet.specs.declared.StartUp.TheVariants.{Dsp, Avr, Pi}
use Rattle.avr.specs.declared.AvrSequencer.{AvrSequencer}
use Rattle.avr.specs.Answers as avr
use Rattle.pi.specs.declared.PiSequencer.{PiSequencer}
use Rattle.pi.specs.Answers as pi
use Rattle.session.specs.declared.Session.{Session}
use Rattle.abi_values.specs.declared.UnknownNumber.{UnknownNumber}
use Rattle.abi_values.specs.Numbers.{unknown, and_then}
use Rattle.abi_dsp.specs.State.{dsp_in, dsp_out}
use Rattle.abi_avr.specs.State.{avr_in, avr_out}
use Rattle.abi_pi.specs.State.{pi_in, pi_out}
use Rattle.abi_session.specs.declared.COptionAvr.{COptionAvr}
use Rattle.abi_session.specs.declared.COptionPi.{COptionPi}
use Rattle.abi_session.specs.declared.CSession.{CSession}

-- ---- a start-up that may not have begun

abbrev pub option_avr_in : COptionAvr → Result (Option AvrSequencer) UnknownNumber
option_avr_in c = and_then (avr_in c.value) (λ s. Ok (then_some c.some s))

abbrev pub option_avr_out : Option AvrSequencer → COptionAvr
option_avr_out (Some s) = record { some = true; value = avr_out s }
option_avr_out None = record { some = false; value = avr_out (avr.begun mevo).seq }

abbrev pub option_pi_in : COptionPi → Result (Option PiSequencer) UnknownNumber
option_pi_in c = and_then (pi_in c.value) (λ s. Ok (then_some c.some s))

abbrev pub option_pi_out : Option PiSequencer → COptionPi
option_pi_out (Some s) = record { some = true; value = pi_out s }
option_pi_out None = record { some = false; value = pi_out (pi.begun).seq }

-- ---- the session

abbrev pub session_in : CSession → Result Session UnknownNumber
session_in c =
    and_then (dsp_in c.dsp) (λ d.
    and_then (option_avr_in c.avr) (λ v.
    and_then (option_pi_in c.pi) (λ p.
    Ok (record { dsp = d; avr = v; pi = p }))))

abbrev pub session_out : Session → CSession
session_out s = record { dsp = dsp_out s.dsp; avr = option_avr_out s.avr; pi = option_pi_out s.pi }

-- ---- of which start-up a sheet is

abbrev pub start_up_in : ℕ → Result StartUp UnknownNumber
start_up_in n = cond (eqb n 0) (Ok Dsp) (cond (eqb n 1) (Ok Avr) (cond (eqb n 2) (Ok Pi) unknown))
