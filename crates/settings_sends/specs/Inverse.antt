-- READING IS THE INVERSE of what a settings run sends, for settings that a run accepts. Definitions only; the proof is proofs/Inverse.antt.
-- Assumes nothing.
use Rattle.std.specs.Prelude.{◌≡◌, ◌↔◌, true, List, length, Ok, Err}
use Rattle.protocol.specs.declared.Action.{Action}
use Rattle.protocol.specs.Refusals as calls
use Rattle.sequence.specs.Accepted.{none}
use Rattle.settings.specs.declared.AvrSettings.{AvrSettings}
use Rattle.settings.specs.Settings.{kept}
use Rattle.avr_config.specs.Answers.{settings_refusals}
use Rattle.settings_sends.specs.declared.SendsRefusal.{SendsRefusal}
use Rattle.settings_sends.specs.declared.SendsRefusal.TheVariants.{OfNoSettings}
use Rattle.settings_sends.specs.Sends.{sends_of}
use Rattle.settings_sends.specs.ReadBack.{answered, number}

-- a start of a run with them is not refused: no more than 32 parameters, and no id that occurs twice
abbrev pub IsRun : AvrSettings → Type 0
IsRun s = none (settings_refusals s) ≡ true

-- settings as memory holds them, with 32 places (a list of the logic may have others), that a run accepts
pub record Accepted (s : AvrSettings) : Type 0 where
  pub places : length s.params ≡ 32
  pub is_run : IsRun s

-- In unused places any parameter may stand, and none is sent. So settings are the same here if a run stores them alike (`kept`, of settings);
-- and `kept s ≡ s` says that nothing stands there: id 0 and the whole number 0. An absent calibration is `None`, with nothing beside it.
pub record Inverse : Type 0 where
  -- settings to sends to settings is the same settings
  pub back : (s : AvrSettings) → Accepted s → answered (sends_of s) ≡ Ok (kept s)
  -- a list of which settings are given is exactly what these send; a run accepts them, and unused places hold nothing
  pub exact : (l : List Action) (s : AvrSettings) → answered l ≡ Ok s → Accepted s × (kept s ≡ s) × (l ≡ sends_of s)
  -- two different such settings never send the same list
  pub apart : (s t : AvrSettings) → Accepted s → Accepted t → sends_of s ≡ sends_of t → kept s ≡ kept t
  -- none are given exactly if no settings that a run accepts send this list
  pub none : (l : List Action) → (answered l ≡ Err OfNoSettings) ↔ ((s : AvrSettings) → Accepted s → l ≡ sends_of s → ⊥)
  -- the number is 8 then, which no refusal of the other calls has
  pub eight : (r : SendsRefusal) → (number r ≡ 8) × (calls.outcome (number r) ≡ Ok tt)
