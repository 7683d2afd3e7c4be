-- What asking for a result comes to, at Done and before.
-- Assumes nothing.
use mathlib.Core.Path.{◌≡◌}
use mathlib.Core.Bool.{false}
use Rattle.std.specs.Prelude.{Ok, Err}
use Rattle.protocol.specs.declared.Refusal.{Refusal}
use Rattle.avr_table.specs.declared.AvrStep.TheVariants.{Done}
use Rattle.avr.specs.declared.AvrSequencer.{AvrSequencer}
use Rattle.avr.specs.Answers.{sync_of, is_done, finished}

-- at Done what has come is handed out
pub handed : (s : AvrSequencer) → s.state.step ≡ Done → Ok (sync_of s.state.replies) ≡ finished s
handed s h = rw h

-- before it is refused
pub too_early : (s : AvrSequencer) → is_done s.state.step ≡ false → Err Refusal.NotDone ≡ finished s
too_early s h = rw h
