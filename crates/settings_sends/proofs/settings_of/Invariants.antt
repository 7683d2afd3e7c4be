-- The loop over the pairs of a setting and its commit.
-- Assumes nothing.
use Rattle.std.proofs.Common.{◌≡◌, ◌-◌, ◌≤◌, length, take, drop, replicate}
use Rattle.settings.specs.Settings.{no_param}
use Rattle.settings_sends.specs.ReadBack.{read, read_on}
use Rattle.settings_sends.proofs.Reading.{before}
use Rattle.settings_sends.proofs.settings_of.Given as goal

abbrev pub decreases-loop-at : goal.decreases-loop-at
decreases-loop-at l = length l.sends - l.at

-- the parameters so far, and what is read from the sends that are left
abbrev pub invariant-loop-at : goal.invariant-loop-at
invariant-loop-at l = record {
  inside : l.at ≤ length l.sends;
  few : l.len ≤ 32;
  places : length l.params ≡ 32;
  empty : drop l.len l.params ≡ replicate (32 - l.len) no_param;
  same : read l.sends ≡ before (take l.len l.params) (read_on (drop l.at l.sends));
}
