-- What the calls of a settings run answer: refused with the lowest number that applies, or by the row at the step. There is no clock.
-- Definitions only.
-- Assumes nothing.
use Rattle.std.specs.Prelude.{cond, List, [], ◌∷◌, ltb, Option, Some, Result, Ok, Err}
use Rattle.protocol.specs.declared.Action.{Action}
use Rattle.protocol.specs.declared.Refusal.{Refusal}
use Rattle.protocol.specs.Refusals.{Applies, outcome, lowest}
use Rattle.sequence.specs.Accepted.{applies, bytes_outcome, none}
use Rattle.sequence.specs.Events.{Envelope, Event, fed}
use Rattle.sequence.specs.declared.Moved.{Moved}
use Rattle.sequence.specs.declared.Answer.{Answer}
use Rattle.sequence.specs.Rows.{judged, refused}
use Rattle.settings.specs.declared.AvrSettings.{AvrSettings}
use Rattle.settings.specs.Settings.{mode_only, kept}
use Rattle.settings.specs.Repeats.{counted, repeats}
use Rattle.avr_config_steps.specs.declared.AvrConfigStep.{AvrConfigStep}
use Rattle.avr_config_steps.specs.declared.AvrConfigStep.TheVariants.{WaitInitGateAck}
use Rattle.avr_config_steps.specs.Table.{commit}
use Rattle.avr_config_steps.specs.Answers as steps
use Rattle.avr_config.specs.declared.AvrConfigSequencer.{AvrConfigSequencer}

-- 4: a settings list of more than 32 parameters; 6: an id occurs twice among those that count
abbrev pub settings_refusals : AvrSettings → List Applies
settings_refusals s = applies 4 (ltb 32 s.len) ∷ applies 6 (repeats (counted s)) ∷ []

-- what is run: the settings as they are stored; beside a refusal mode 0, no parameters and no calibration
abbrev pub running : AvrSettings → AvrSettings
running s = cond (none (settings_refusals s)) (kept s) (mode_only 0)

-- new sends a commit; beside a refusal nothing is sent
abbrev pub begun : AvrSettings → Answer AvrConfigSequencer
begun s = record {
  outcome = judged {F = Result (Option Action) Refusal} (outcome (lowest (settings_refusals s))) (Ok (Some commit)) (λ r. Err r);
  seq = record { step = WaitInitGateAck; settings = running s };
}

-- what an accepted envelope does; the settings stay
abbrev pub accepted : AvrSettings → Moved AvrConfigStep → Answer AvrConfigSequencer
accepted q w = record { outcome = Ok w.action; seq = record { step = w.state; settings = q } }

abbrev pub advance : AvrConfigSequencer → Event Envelope → Answer AvrConfigSequencer
advance s e = accepted s.settings (steps.advance s.settings s.step e)

abbrev pub fed_to : AvrConfigSequencer → Envelope → Answer AvrConfigSequencer
fed_to s e = judged (bytes_outcome e.text e.payload) (advance s (fed e 0)) (refused s)
