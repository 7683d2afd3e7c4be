-- Readings at work: settings that are given, and lists of sends that lie near and are refused.
-- Assumes nothing.
use Rattle.std.proofs.Common.{◌≡◌, refl, ℕ, zero, suc, false, true, List, [], ◌∷◌, ◌++◌, replicate, Some, None, Ok, Err}
use Rattle.std.specs.Prelude.{ℤ}
use Rattle.std.specs.List.{flat_map}
use Rattle.protocol.specs.declared.BusAddr.{BusAddr}
use Rattle.protocol.specs.declared.Command.{Command}
use Rattle.protocol.specs.declared.Action.{Action}
use Rattle.protocol.specs.declared.ParamData.{ParamData}
use Rattle.protocol.specs.declared.ParamValue.{ParamValue}
use Rattle.protocol.specs.declared.RadarCal.{RadarCal}
use Rattle.protocol.specs.Action.{send_to}
use Rattle.requests.specs.Requests.{avr_config_cmd, status_poll}
use Rattle.settings.specs.declared.AvrSettings.{AvrSettings}
use Rattle.settings.specs.Settings.{no_param, mode_only}
use Rattle.avr_config_steps.specs.Table.{to_avr, commit}
use Rattle.settings_sends.specs.declared.SendsRefusal.TheVariants.{OfNoSettings}
use Rattle.settings_sends.specs.Sends.{sends_of}
use Rattle.settings_sends.specs.ReadBack.{answered}

abbrev int : ℕ → ℕ → ParamValue
int id n = record { param_id = id; value = ParamData.Int24 (ℤ.pos n) }

abbrev radar : RadarCal
radar = record { range_mm = 2438; height_mm = 25 }

-- a setting, and its commit behind it
abbrev param : ℕ → ℕ → List Action
param id n = to_avr (Command.ParamValue (int id n)) ∷ commit ∷ []

abbrev mode : ℕ → List Action
mode m = to_avr (Command.ModeSet (record { mode = m })) ∷ commit ∷ []

abbrev cal : List Action
cal = to_avr (Command.RadarCal radar) ∷ commit ∷ []

abbrev Refused : List Action → Type 0
Refused l = answered l ≡ Err OfNoSettings

-- ---- given

abbrev one : AvrSettings
one = record { mode = 9; params = int 0x06 1 ∷ replicate 31 no_param; len = 1; radar_cal = Some radar }

pub one_sends : sends_of one ≡ commit ∷ param 0x06 1 ++ mode 9 ++ cal
one_sends = refl

pub one_back : answered (commit ∷ param 0x06 1 ++ mode 9 ++ cal) ≡ Ok one
one_back = refl

pub mode_back : answered (commit ∷ mode 9) ≡ Ok (mode_only 9)
mode_back = refl

-- what a run of `one` has sent before its calibration, which it is not done with, is what a run without one sends
pub before_the_cal : answered (commit ∷ param 0x06 1 ++ mode 9) ≡ Ok (record one { radar_cal = None })
before_the_cal = refl

-- ---- refused: a send that is missing, or one too many

pub nothing : Refused []
nothing = refl

pub commit_alone : Refused (commit ∷ [])
commit_alone = refl

pub first_commit_missing : Refused (param 0x06 1 ++ mode 9 ++ cal)
first_commit_missing = refl

pub commit_of_a_parameter_missing : Refused (commit ∷ to_avr (Command.ParamValue (int 0x06 1)) ∷ mode 9 ++ cal)
commit_of_a_parameter_missing = refl

pub last_commit_missing : Refused (commit ∷ param 0x06 1 ++ mode 9 ++ to_avr (Command.RadarCal radar) ∷ [])
last_commit_missing = refl

pub last_commit_missing_after_the_mode : Refused (commit ∷ param 0x06 1 ++ to_avr (Command.ModeSet (record { mode = 9 })) ∷ [])
last_commit_missing_after_the_mode = refl

pub mode_missing : Refused (commit ∷ param 0x06 1 ++ cal)
mode_missing = refl

pub mode_twice : Refused (commit ∷ mode 9 ++ mode 9)
mode_twice = refl

pub cal_twice : Refused (commit ∷ mode 9 ++ cal ++ cal)
cal_twice = refl

pub a_commit_behind : Refused (commit ∷ mode 9 ++ cal ++ commit ∷ [])
a_commit_behind = refl

pub a_commit_behind_the_mode : Refused (commit ∷ mode 9 ++ commit ∷ [])
a_commit_behind_the_mode = refl

pub two_runs : Refused (commit ∷ mode 9 ++ commit ∷ mode 9)
two_runs = refl

-- ---- refused: in another order

pub mode_before_a_parameter : Refused (commit ∷ mode 9 ++ param 0x06 1)
mode_before_a_parameter = refl

pub cal_before_the_mode : Refused (commit ∷ param 0x06 1 ++ cal ++ mode 9)
cal_before_the_mode = refl

-- ---- refused: another send

pub to_the_dsp : Refused (commit ∷ send_to BusAddr.Dsp (Command.ParamValue (int 0x06 1)) ∷ commit ∷ mode 9)
to_the_dsp = refl

pub armed : Refused (commit ∷ mode 9 ++ to_avr (Command.RadarCal radar) ∷ avr_config_cmd true ∷ [])
armed = refl

pub polled : Refused (commit ∷ status_poll false BusAddr.Avr ∷ commit ∷ mode 9)
polled = refl

pub a_byte_of_payload : Refused (commit ∷ mode 9 ++ record { command = Command.RadarCal radar; dest = BusAddr.Avr; payload = replicate 9 0 ++ 1 ∷ []; tail = replicate 2 0 } ∷ commit ∷ [])
a_byte_of_payload = refl

pub a_byte_of_tail : Refused (record { command = Command.AvrConfigCmd (record { arm = false }); dest = BusAddr.Avr; payload = replicate 10 0; tail = 0 ∷ 1 ∷ [] } ∷ mode 9)
a_byte_of_tail = refl

-- ---- refused: settings that no run accepts

pub id_twice : Refused (commit ∷ param 0x06 1 ++ param 0x0F 2 ++ param 0x06 3 ++ mode 9)
id_twice = refl

-- n parameters, with ids from i on
abbrev from : ℕ → ℕ → List ParamValue
from zero i = []
from (suc n) i = int i 1 ∷ from n (suc i)

abbrev sent : ℕ → List Action
sent n = commit ∷ flat_map (λ p. to_avr (Command.ParamValue p) ∷ commit ∷ []) (from n 1) ++ mode 9

pub a_32nd : answered (sent 32) ≡ Ok (record { mode = 9; params = from 32 1; len = 32; radar_cal = None })
a_32nd = refl

pub a_33rd : Refused (sent 33)
a_33rd = refl
