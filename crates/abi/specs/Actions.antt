-- A send, or none, as numbers: a command by its place in the enum, with what it carries. Definitions only.
-- Assumes nothing.
use Rattle.std.specs.Prelude.{ℕ, Bool, true, false, Option, Some, None, ℤ, replicate}
use Rattle.std.specs.Float.{binary64}
use Rattle.std.specs.Float.Ieee.{of_bits}
use Rattle.protocol.specs.declared.BusAddr.{BusAddr}
use Rattle.protocol.specs.declared.Command.{Command}
use Rattle.protocol.specs.declared.Command.TheVariants as Cmd
use Rattle.protocol.specs.declared.Action.{Action}
use Rattle.protocol.specs.Addr.{byte_of}
use Rattle.abi_values.specs.declared.CParamValue.{CParamValue}
use Rattle.abi_values.specs.Params.{param_out}
use Rattle.abi.specs.declared.action.CCommand.{CCommand}
use Rattle.abi.specs.declared.action.CAction.{CAction}

abbrev pub no_param : CParamValue
no_param = record { param_id = 0; format = 0; int24 = ℤ.pos 0; float40 = of_bits binary64 0 }

abbrev pub numbers : ℕ → Bool → ℕ → ℕ → ℕ → CCommand
numbers n flag byte acked wide = record { number = n; flag = flag; byte = byte; acked_cmd = acked; wide = wide; param = no_param }

abbrev pub command_out : Command → CCommand
command_out (Cmd.StatusPoll c) = numbers 0 c.pi_mode 0 0 0
command_out (Cmd.ModeSet c) = numbers 1 false c.mode 0 0
command_out (Cmd.AvrConfigCmd c) = numbers 2 c.arm 0 0 0
command_out (Cmd.ParamReadReq c) = numbers 3 false c.param_id 0 0
command_out (Cmd.ParamValue c) = record { number = 4; flag = false; byte = 0; acked_cmd = 0; wide = 0; param = param_out c }
command_out (Cmd.RadarCal c) = numbers 5 false c.height_mm 0 c.range_mm
command_out Cmd.DspQuery = numbers 6 false 0 0 0
command_out Cmd.ConfigQuery = numbers 7 false 0 0 0
command_out Cmd.AvrConfigQuery = numbers 8 false 0 0 0
command_out Cmd.DevInfoReq = numbers 9 false 0 0 0
command_out (Cmd.ProdInfoReq c) = numbers 10 false c.sub_query 0 0
command_out (Cmd.NetConfigReq c) = numbers 11 c.query_password 0 0 0
command_out Cmd.CalParamReq = numbers 12 false 0 0 0
command_out (Cmd.CalDataReq c) = numbers 13 false c.sub_cmd 0 0
command_out (Cmd.TimeSync c) = numbers 14 false c.session 0 c.epoch
command_out Cmd.CamConfigReq = numbers 15 false 0 0 0
command_out (Cmd.ConfigAck c) = numbers 16 false c.bus_addr c.acked_cmd 0

-- no send: each number is 0, and the device the app
abbrev pub nothing : CAction
nothing = record { some = false; command = numbers 0 false 0 0 0; dest = byte_of BusAddr.App; payload = replicate 10 0; tail = replicate 2 0 }

abbrev pub action_out : Option Action → CAction
action_out (Some a) = record { some = true; command = command_out a.command; dest = byte_of a.dest; payload = a.payload; tail = a.tail }
action_out None = nothing
