-- A Pi start-up goes out with its step, what it has stored and its ticks.
-- Assumes nothing.
use Rattle.std.proofs.Common.{refl}
use Rattle.abi_pi.proofs.CPiFromPiSequencer.from.Goals as goal

pub returns : goal.returns
returns c = rw (c.into.ensures, c.into-2.ensures, c.into-3.ensures) refl
