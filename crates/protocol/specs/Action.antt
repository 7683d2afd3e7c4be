-- A send (docs/SCOPE.md, "Records"). Definitions only.
-- Assumes nothing.
use Rattle.std.specs.Prelude.{replicate}
use Rattle.protocol.specs.declared.BusAddr.{BusAddr}
use Rattle.protocol.specs.declared.Command.{Command}
use Rattle.protocol.specs.declared.Action.{Action}

-- a command that has no bytes beside it
abbrev pub send_to : BusAddr → Command → Action
send_to d c = record { command = c; dest = d; payload = replicate 10 0; tail = replicate 2 0 }
