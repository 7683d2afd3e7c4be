-- The bytes of the devices on the unit's bus. Definitions only.
-- Assumes nothing.
use Rattle.std.specs.Prelude.{ℕ}
use Rattle.protocol.specs.declared.BusAddr.{BusAddr}
use Rattle.protocol.specs.declared.BusAddr.TheVariants.{App, Pi, Avr, Dsp}

abbrev pub byte_of : BusAddr → ℕ
byte_of App = 0x10
byte_of Pi = 0x12
byte_of Avr = 0x30
byte_of Dsp = 0x40
