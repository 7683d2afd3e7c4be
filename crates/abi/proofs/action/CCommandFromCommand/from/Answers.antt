-- A command goes out by its number, with what it carries.
-- Assumes nothing.
use Rattle.std.proofs.Common.{refl}
use Rattle.abi.proofs.action.CCommandFromCommand.from.Goals as goal

pub returns-in-AvrConfigCmd : goal.returns-in-AvrConfigCmd
returns-in-AvrConfigCmd c = rw (c.in-AvrConfigCmd.is, c.numbers-in-AvrConfigCmd.ensures) refl

pub returns-in-RadarCal : goal.returns-in-RadarCal
returns-in-RadarCal c = rw (c.in-RadarCal.is, c.numbers-in-RadarCal.ensures) refl
