-- WHAT A FINISHED RUN HAS SENT, over every list of its calls. Definitions only; the proof is proofs/Ran.antt.
-- Assumes nothing.
use Rattle.std.specs.Prelude.{◌≡◌, ◌↔◌, List, [], ◌∷◌, ◌++◌, Option, Some, None, Result, Ok, Err}
use Rattle.protocol.specs.declared.Action.{Action}
use Rattle.protocol.specs.declared.Refusal.{Refusal}
use Rattle.sequence.specs.Calls.{Fed, Untimed}
use Rattle.matching.specs.Promise.{after_all}
use Rattle.settings.specs.declared.AvrSettings.{AvrSettings}
use Rattle.settings.specs.Settings.{kept}
use Rattle.avr_config_steps.specs.declared.AvrConfigStep.{AvrConfigStep}
use Rattle.avr_config_steps.specs.Table.{commit}
use Rattle.avr_config.specs.declared.AvrConfigSequencer.{AvrConfigSequencer}
use Rattle.avr_config.specs.Answers.{begun, fed_to}
use Rattle.avr_config.specs.Calls.{after}
use Rattle.settings_sends.specs.Sends.{sends_of}
use Rattle.settings_sends.specs.ReadBack.{answered}
use Rattle.settings_sends.specs.Inverse.{IsRun, Accepted}

-- the send of a call, if there is one; a refused call has none
abbrev pub sent_in : Result (Option Action) Refusal → List Action
sent_in (Ok (Some a)) = a ∷ []
sent_in (Ok None) = []
sent_in (Err r) = []

-- what these calls send, in their order, each on what the one before it left: by what the contract of `feed` says
abbrev pub sent_by : AvrConfigSequencer → List Fed → List Action
sent_by q [] = []
sent_by q (Untimed.feed e ∷ cs) = sent_in (fed_to q e).outcome ++ sent_by (after q (Untimed.feed e)) cs
sent_by q (Untimed.ask x ∷ cs) = sent_by q cs

-- what a run has sent: the send of `new`, and those of the feeds
abbrev pub run_sent : AvrSettings → List Fed → List Action
run_sent s cs = sent_in (begun s).outcome ++ sent_by (begun s).seq cs

abbrev pub IsDone : AvrSettings → List Fed → Type 0
IsDone s cs = (after_all after (begun s).seq cs).step ≡ AvrConfigStep.Done

-- For every settings of an accepted start, and every list of calls that ends Done, whatever is refused or idle in it. A refused start is not
-- meant: what stands beside its number can be fed to its end, but no commit of `new` was sent.
pub record Ran : Type 0 where
  -- an accepted start is one that sends its commit
  pub begins : (s : AvrSettings) → IsRun s ↔ ((begun s).outcome ≡ Ok (Some commit))
  -- it has sent what its settings send, as it stores them
  pub sent : (s : AvrSettings) (cs : List Fed) → IsRun s → IsDone s cs → run_sent s cs ≡ sends_of (kept s)
  -- so from what it has sent its settings are read back
  pub read_back : (s : AvrSettings) (cs : List Fed) → Accepted s → IsDone s cs → answered (run_sent s cs) ≡ Ok (kept s)
