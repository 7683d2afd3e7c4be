-- THE THEOREM of the settings run: the promise (crate matching, Promise.antt) with its table. Definitions only; the proof is
-- proofs/Whole.antt.
-- Assumes nothing.
use Rattle.std.specs.Prelude.{◌≡◌, ◌+◌, ◌*◌, List, length, is_some, if◌then◌else◌}
use Rattle.matching.specs.Promise.{Ends}
use Rattle.sequence.specs.Events.{checked, reading}
use Rattle.sequence.specs.Calls.{Fed, fed_event}
use Rattle.settings.specs.declared.AvrSettings.{AvrSettings}
use Rattle.settings.specs.Settings.{count}
use Rattle.avr_config_steps.specs.declared.AvrConfigStep.{AvrConfigStep}
use Rattle.avr_config_steps.specs.Table.{table}
use Rattle.avr_config.specs.Answers.{running, begun}
use Rattle.avr_config.specs.Calls.{after}

-- For every settings given at new, and every list of calls. A run begins as `new` leaves it, and has no result; after a refused start its
-- table is that of the empty settings.
abbrev pub Theorem : Type 0
Theorem =
    (s : AvrSettings) (cs : List Fed)
    → Ends reading (checked 0) fed_event (begun s).seq after (table (running s)) (λ q. q.step ≡ AvrConfigStep.Done) cs

-- With n parameters a run has 3 + 2n entries, 2 more with a calibration. (`count`: of a length above 32, which no call makes, 32 are run.)
abbrev pub Entries : Type 0
Entries = (s : AvrSettings) → length (table s) ≡ 3 + 2 * count s.len + (if is_some s.radar_cal then 2 else 0)
