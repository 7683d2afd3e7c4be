-- The theorem: what the machine finds is the earliest matching (proofs/Leftmost.antt).
-- Assumes nothing.
use Rattle.matching.proofs.Machine.{leftmost}
use Rattle.matching.proofs.Leftmost.{leftmost_earliest, earliest_unique}
use Rattle.matching.proofs.earliest_matching.Goals as goal

pub returns : goal.returns
returns g c = record {
  first = λ at d T r anti rise ps m. (leftmost at T r, leftmost_earliest anti rise ps m);
  one = λ at d T r ps qs x y. earliest_unique x y;
}
