-- What an accepted envelope does at a step of a settings run: the row at the step decides. Definitions only.
-- Assumes nothing.
use Rattle.std.specs.Prelude.{true, None}
use Rattle.sequence.specs.declared.Moved.{Moved}
use Rattle.sequence.specs.Events.{Envelope, Event}
use Rattle.sequence.specs.Rows.{State, heard}
use Rattle.settings.specs.declared.AvrSettings.{AvrSettings}
use Rattle.avr_config_steps.specs.declared.AvrConfigStep.{AvrConfigStep}
use Rattle.avr_config_steps.specs.Table.{request, row, next}

-- the step as the common rows have it, and back
abbrev pub view : AvrConfigStep → State AvrConfigStep (Unit {0})
view k = record { step = k; replies = tt; deadline = None }

abbrev pub made : Moved (State AvrConfigStep (Unit {0})) → Moved AvrConfigStep
made w = record { action = w.action; state = w.state.step; ticked = w.ticked }

abbrev pub advance : AvrSettings → AvrConfigStep → Event Envelope → Moved AvrConfigStep
advance s k e = made (heard (row s) (next s) (view k) e)

-- the step k begins: its request is sent
abbrev pub goes : AvrSettings → AvrConfigStep → Moved AvrConfigStep
goes s k = record { action = request s k; state = k; ticked = true }
