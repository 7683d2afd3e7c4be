-- The theorem, from proofs/Numbers.antt.
-- Assumes nothing.
use Rattle.protocol.proofs.Numbers.{outcome-number, gives_lowest}
use Rattle.protocol.proofs.number.lowest_number.Goals as goal

pub returns : goal.returns
returns c = record { lowest = λ l r. gives_lowest r; alone = outcome-number }
