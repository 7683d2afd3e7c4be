-- Ticks go out with how each was ticked as a number.
-- Assumes nothing.
use Rattle.std.proofs.Common.{◌≡◌, length, rules}
use Rattle.abi_sheet.proofs.Places.{all_out}
use Rattle.abi_sheet.proofs.CTicksFromTicks.from.Goals as goal

pub returns : goal.returns
returns c =
    let items = c.map.ensures.items in
    let there : length c.args.ticks.ticks ≡ 16 = search rules in
    rw (all_out c.args.ticks.ticks c.map.result 16 there items.long (λ i d e h. (items.at i d e h).2.met))
