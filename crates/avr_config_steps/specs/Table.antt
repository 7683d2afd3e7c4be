-- THE TABLE of a settings run (docs/SCOPE.md, "Settings run"), made from its settings: the steps in order, what is sent when each begins, and what
-- ticks it. Definitions only.
-- Assumes nothing.
use Rattle.std.specs.Prelude.{ℕ, zero, suc, ◌+◌, false, cond, List, [], ◌∷◌, ◌++◌, map, ltb, get_or, Option, Some, None, is_some, option_map}
use Rattle.protocol.specs.declared.BusAddr.{BusAddr}
use Rattle.protocol.specs.declared.Command.{Command}
use Rattle.protocol.specs.declared.Action.{Action}
use Rattle.protocol.specs.Action.{send_to}
use Rattle.protocol.specs.Kinds as kinds
use Rattle.matching.specs.Matching.{Table}
use Rattle.requests.specs.Requests.{avr_config_cmd}
use Rattle.sequence.specs.Events.{Envelope, Event, kind, forever}
use Rattle.sequence.specs.Rows.{Row, test, past}
use Rattle.settings.specs.declared.AvrSettings.{AvrSettings}
use Rattle.settings.specs.Settings.{no_param, count}
use Rattle.avr_config_steps.specs.declared.AvrConfigStep.{AvrConfigStep}
use Rattle.avr_config_steps.specs.declared.AvrConfigStep.TheVariants.{WaitInitGateAck, WaitParamAck, WaitParamCommitAck, WaitModeEcho, WaitModeCommitAck, WaitRadarCalEcho, WaitRadarCalCommitAck, Done}

abbrev pub ConfigRow : Type 0
ConfigRow = Row Envelope (Unit {0})

abbrev pub to_avr : Command → Action
to_avr c = send_to BusAddr.Avr c

abbrev pub commit : Action
commit = avr_config_cmd false

-- ---- the steps in order

-- for each of n parameters, from number i on: it is sent, and a commit
abbrev pub param_steps : ℕ → ℕ → List AvrConfigStep
param_steps zero i = []
param_steps (suc n) i = WaitParamAck i ∷ WaitParamCommitAck i ∷ param_steps n (suc i)

-- a commit; the parameters; the mode and a commit; the calibration and a commit, if there is one
abbrev pub steps_for : AvrSettings → List AvrConfigStep
steps_for s =
    WaitInitGateAck ∷ param_steps (count s.len) 0 ++ WaitModeEcho ∷ WaitModeCommitAck
    ∷ cond (is_some s.radar_cal) (WaitRadarCalEcho ∷ WaitRadarCalCommitAck ∷ []) []

-- the step at which parameter i is sent, that of the mode if there is none
abbrev pub param_step : AvrSettings → ℕ → AvrConfigStep
param_step s i = cond (ltb i (count s.len)) (WaitParamAck i) WaitModeEcho

-- the step after each, Done after the last
abbrev pub next : AvrSettings → AvrConfigStep → AvrConfigStep
next s WaitInitGateAck = param_step s 0
next s (WaitParamAck i) = WaitParamCommitAck i
next s (WaitParamCommitAck i) = param_step s (i + 1)
next s WaitModeEcho = WaitModeCommitAck
next s WaitModeCommitAck = cond (is_some s.radar_cal) WaitRadarCalEcho Done
next s WaitRadarCalEcho = WaitRadarCalCommitAck
next s WaitRadarCalCommitAck = Done
next s Done = Done

-- ---- what is sent when a step begins, and what ticks it

abbrev pub request : AvrSettings → AvrConfigStep → Option Action
request s WaitInitGateAck = Some commit
request s (WaitParamAck i) = Some (to_avr (Command.ParamValue (get_or s.params i no_param)))
request s (WaitParamCommitAck i) = Some commit
request s WaitModeEcho = Some (to_avr (Command.ModeSet (record { mode = s.mode })))
request s WaitModeCommitAck = Some commit
request s WaitRadarCalEcho = option_map (λ c. to_avr (Command.RadarCal c)) s.radar_cal
request s WaitRadarCalCommitAck = Some commit
request s Done = None

-- a message of this kind from the Avr, whatever it says; then the request of the step k
abbrev pub entry : ℕ → AvrSettings → AvrConfigStep → ConfigRow
entry n s k = record { reply = kind 0x30 n; wait = forever; send = λ e. request s k; store = λ e y. y }

abbrev pub row : AvrSettings → AvrConfigStep → ConfigRow
row s WaitInitGateAck = entry kinds.config_ack s (next s WaitInitGateAck)
row s (WaitParamAck i) = entry kinds.config_ack s (next s (WaitParamAck i))
row s (WaitParamCommitAck i) = entry kinds.config_ack s (next s (WaitParamCommitAck i))
row s WaitModeEcho = entry kinds.mode_set s (next s WaitModeEcho)
row s WaitModeCommitAck = entry kinds.config_ack s (next s WaitModeCommitAck)
row s WaitRadarCalEcho = entry kinds.radar_cal s (next s WaitRadarCalEcho)
row s WaitRadarCalCommitAck = entry kinds.config_ack s (next s WaitRadarCalCommitAck)
row s Done = past

abbrev pub table : AvrSettings → Table (Event Envelope)
table s = map (λ k. test (row s k)) (steps_for s)
