-- The numbers rise, so the one given is the lowest.
-- Assumes nothing.
use Rattle.std.proofs.Common.{◌<◌, arith}
use Rattle.protocol.proofs.Numbers.{Rises, end, then, gives_lowest}
use Rattle.settings.specs.declared.AvrSettings.{AvrSettings}
use Rattle.avr_config.specs.Answers.{settings_refusals}
use Rattle.avr_config.proofs.lowest_number.Goals as goal

rise : (s : AvrSettings) → Rises 0 (settings_refusals s)
rise s =
    let four : 0 < 4 = omega arith in
    let six : 4 < 6 = omega arith in
    then four (then six end)

pub returns : goal.returns
returns c = λ s. gives_lowest (rise s)
