-- Of the starts of settings runs: which number is given, and that a Mevo's settings are not refused. Definitions only.
-- Assumes nothing.
use Rattle.std.specs.Prelude.{◌≡◌, Some, Ok}
use Rattle.protocol.specs.Lowest.{GivesLowest}
use Rattle.settings.specs.declared.AvrSettings.{AvrSettings}
use Rattle.settings.specs.declared.MevoSettings.{MevoSettings}
use Rattle.settings.specs.Settings.{from_mevo}
use Rattle.avr_config_steps.specs.Table.{commit}
use Rattle.avr_config.specs.Answers.{settings_refusals, begun}

abbrev pub LowestGiven : Type 0
LowestGiven = (s : AvrSettings) → GivesLowest (settings_refusals s)

abbrev pub MevoBegins : Type 0
MevoBegins = (m : MevoSettings) → (begun (from_mevo m)).outcome ≡ Ok (Some commit)
