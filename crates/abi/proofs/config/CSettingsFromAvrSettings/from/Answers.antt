-- Settings go out with each of the 32 parameters as numbers.
-- Assumes nothing.
use Rattle.std.proofs.Common.{◌≡◌, length, rules}
use Rattle.abi_values.specs.Params.{param_out}
use Rattle.abi.proofs.Images.{images}
use Rattle.abi.proofs.config.CSettingsFromAvrSettings.from.Goals as goal

pub returns : goal.returns
returns c =
    let items = c.map.ensures.items in
    let there : length c.args.settings.params ≡ 32 = search rules in
    rw (images param_out c.args.settings.params c.map.result 32 there items.long (λ i d e h. (items.at i d e h).2.met), c.into.ensures)
