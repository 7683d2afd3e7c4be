-- WHAT A SETTINGS RUN SENDS, in order and from the commit of `new` on: the requests of its steps, as its table has them (avr_config_steps,
-- Table.antt). Definitions only.
-- Assumes nothing.
use Rattle.std.specs.Prelude.{List}
use Rattle.std.specs.List.{filter_map}
use Rattle.protocol.specs.declared.Action.{Action}
use Rattle.settings.specs.declared.AvrSettings.{AvrSettings}
use Rattle.avr_config_steps.specs.Table.{request, steps_for}

abbrev pub sends_of : AvrSettings → List Action
sends_of s = filter_map (request s) (steps_for s)
