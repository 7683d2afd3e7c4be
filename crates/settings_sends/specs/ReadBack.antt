-- SETTINGS READ BACK FROM SENDS (docs/SCOPE.md, "Settings read back"), send by send. What that comes to, without any of this: Inverse.antt.
-- Definitions only.
-- Assumes nothing.
use Rattle.std.specs.Prelude.{ℕ, ◌-◌, Bool, false, not, ◌&&◌, cond, eqb, length, List, [], ◌∷◌, ◌++◌, Option, Some, None, option_map, replicate, Result, Ok, Err}
use Rattle.std.specs.Cmp.Lexicographic.{pointwise}
use Rattle.protocol.specs.declared.Action.{Action}
use Rattle.protocol.specs.declared.Command.{Command}
use Rattle.protocol.specs.declared.Command.TheVariants as Cmd
use Rattle.protocol.specs.declared.ParamValue.{ParamValue}
use Rattle.protocol.specs.declared.RadarCal.{RadarCal}
use Rattle.protocol.specs.Addr.{byte_of}
use Rattle.sequence.specs.Accepted.{none}
use Rattle.settings.specs.declared.AvrSettings.{AvrSettings}
use Rattle.settings.specs.Settings.{no_param}
use Rattle.settings.specs.Repeats.{counted}
use Rattle.avr_config.specs.Answers.{settings_refusals}
use Rattle.settings_sends.specs.declared.Setting.{Setting}
use Rattle.settings_sends.specs.declared.Setting.TheVariants as S
use Rattle.settings_sends.specs.declared.SendsRefusal.{SendsRefusal}
use Rattle.settings_sends.specs.declared.SendsRefusal.TheVariants.{OfNoSettings}

-- ---- the refusal

abbrev pub number : SendsRefusal → ℕ
-- no settings that a run accepts send these commands
number OfNoSettings = 8

abbrev pub or_refused : {X : Type 0} → Option X → Result X SendsRefusal
or_refused (Some x) = Ok x
or_refused None = Err OfNoSettings

-- ---- settings without places

-- a mode, parameters of any number, and a calibration if there is one
pub record Contents : Type 0 where
  pub params : List ParamValue
  pub mode : ℕ
  pub cal : Option RadarCal

abbrev pub contents_of : AvrSettings → Contents
contents_of s = record { params = counted s; mode = s.mode; cal = s.radar_cal }

-- as memory holds them: nothing in unused places
abbrev pub settings_from : Contents → AvrSettings
settings_from c = record { mode = c.mode; params = c.params ++ replicate (32 - length c.params) no_param; len = length c.params; radar_cal = c.cal }

-- ---- one send

-- the command of a send that goes to the Avr with no bytes beside it
abbrev pub command_in : Action → Option Command
command_in a = cond (eqb (byte_of a.dest) 0x30 && (pointwise eqb a.payload (replicate 10 0) && pointwise eqb a.tail (replicate 2 0))) (Some a.command) None

-- a commit; what arms is none
abbrev pub commits : Option Command → Bool
commits (Some (Cmd.AvrConfigCmd c)) = not c.arm
commits _ = false

abbrev pub what : Option Command → Setting
what (Some (Cmd.ParamValue p)) = Setting.Param p
what (Some (Cmd.ModeSet m)) = Setting.Mode m
what _ = Setting.Other

abbrev pub cal_in : Option Command → Option RadarCal
cal_in (Some (Cmd.RadarCal c)) = Some c
cal_in _ = None

-- ---- the list, from its end

-- behind the mode and its commit: a calibration and a commit, or nothing
abbrev pub cal_read : List Action → Option (Option RadarCal)
cal_read [] = Some None
cal_read (a ∷ b ∷ []) = cond (commits (command_in b)) (option_map Some (cal_in (command_in a))) None
cal_read _ = None

abbrev pub cal_answered : List Action → Result (Option RadarCal) SendsRefusal
cal_answered l = or_refused (cal_read l)

abbrev pub with_param : ParamValue → Contents → Contents
with_param p c = record { params = p ∷ c.params; mode = c.mode; cal = c.cal }

abbrev pub of_mode : ℕ → Option RadarCal → Contents
of_mode m c = record { params = []; mode = m; cal = c }

-- behind the first commit: one setting, l behind its commit, and `rest`, as which l is read where it goes on like this
abbrev pub setting : Setting → List Action → Option Contents → Option Contents
setting (S.Param p) l rest = option_map (with_param p) rest
setting (S.Mode m) l rest = option_map (of_mode m.mode) (cal_read l)
setting S.Other l rest = None

abbrev pub read_on : List Action → Option Contents
read_on (a ∷ b ∷ l) = cond (commits (command_in b)) (setting (what (command_in a)) l (read_on l)) None
read_on _ = None

abbrev pub read : List Action → Option Contents
read (a ∷ l) = cond (commits (command_in a)) (read_on l) None
read [] = None

-- ---- settings that a run accepts

-- none of a start's refusals applies to them
abbrev pub if_run : AvrSettings → Option AvrSettings
if_run s = cond (none (settings_refusals s)) (Some s) None

abbrev pub run_or_refused : AvrSettings → Result AvrSettings SendsRefusal
run_or_refused s = or_refused (if_run s)

abbrev pub given : Option Contents → Option AvrSettings
given (Some c) = if_run (settings_from c)
given None = None

abbrev pub settings_read : List Action → Option AvrSettings
settings_read l = given (read l)

-- what the call answers
abbrev pub answered : List Action → Result AvrSettings SendsRefusal
answered l = or_refused (settings_read l)
