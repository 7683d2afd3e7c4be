-- A RUN GOES ON whatever its settings are: the promise (crate matching, Promise.antt) of every settings that a state may hold, an id that occurs
-- twice and a length above 32 included. Definitions only; the proof is proofs/Whole.antt.
-- Assumes nothing.
use Rattle.std.specs.Prelude.{◌≡◌, List}
use Rattle.matching.specs.Promise.{Ends}
use Rattle.sequence.specs.Events.{checked, reading}
use Rattle.sequence.specs.Calls.{Fed, fed_event}
use Rattle.settings.specs.declared.AvrSettings.{AvrSettings}
use Rattle.avr_config_steps.specs.declared.AvrConfigStep.{AvrConfigStep}
use Rattle.avr_config_steps.specs.Table.{table}
use Rattle.avr_config.specs.declared.AvrConfigSequencer.{AvrConfigSequencer}
use Rattle.avr_config.specs.Calls.{after}

-- a run of these settings at its first step, as no start need have left it
abbrev pub running_on : AvrSettings → AvrConfigSequencer
running_on s = record { step = AvrConfigStep.WaitInitGateAck; settings = s }

-- over every list of calls it is done exactly when the table of its settings is ticked off in order
abbrev pub Going : Type 0
Going =
    (s : AvrSettings) (cs : List Fed)
    → Ends reading (checked 0) fed_event (running_on s) after (table s) (λ q. q.step ≡ AvrConfigStep.Done) cs
