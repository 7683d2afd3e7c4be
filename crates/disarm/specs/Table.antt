-- THE TABLE of a disarm (docs/SCOPE.md, "Disarm"): its entries in order, each with who ticks it; then the steps at which they are awaited.
-- Nothing is sent or stored on the way. Definitions only.
-- Assumes nothing.
use Rattle.std.specs.Prelude.{ℕ, Bool, ◌&&◌, List, [], ◌∷◌, map, None, codes}
use Rattle.protocol.specs.Kinds as kinds
use Rattle.device.specs.Search.{contains}
use Rattle.matching.specs.Matching.{Table}
use Rattle.sequence.specs.Events.{Envelope, Event, of_kind, kind, either, forever}
use Rattle.sequence.specs.Rows.{Row, test, past}
use Rattle.disarm.specs.declared.DisarmStep.{DisarmStep}
use Rattle.disarm.specs.declared.DisarmStep.TheVariants.{WaitAck, WaitModeReset, WaitStateIdle, Done}

abbrev pub DisarmRow : Type 0
DisarmRow = Row Envelope (Unit {0})

abbrev pub entry : (Envelope → Bool) → DisarmRow
entry p = record { reply = p; wait = forever; send = λ e. None; store = λ e y. y }

-- 1. a ConfigAck from the Avr
abbrev pub entry1 : DisarmRow
entry1 = entry (kind 0x30 kinds.config_ack)

-- a ModeAck, or a Text in which these bytes stand together, from any source
abbrev pub sign : List ℕ → Envelope → Bool
sign w = either (of_kind kinds.mode_ack) (λ e. of_kind kinds.text e && contains w e.text)

-- 2.
abbrev pub armed_cancelled : List ℕ
armed_cancelled = codes "ARMED CANCELLED"

abbrev pub entry2 : DisarmRow
entry2 = entry (sign armed_cancelled)

-- 3.
abbrev pub system_state : List ℕ
system_state = codes "System State"

abbrev pub entry3 : DisarmRow
entry3 = entry (sign system_state)

-- ---- the steps in order, the row of each, and the step after each (Done after the last)

abbrev pub steps : List DisarmStep
steps = WaitAck ∷ WaitModeReset ∷ WaitStateIdle ∷ []

abbrev pub row : DisarmStep → DisarmRow
row WaitAck = entry1
row WaitModeReset = entry2
row WaitStateIdle = entry3
row Done = past

abbrev pub next : DisarmStep → DisarmStep
next WaitAck = WaitModeReset
next WaitModeReset = WaitStateIdle
next WaitStateIdle = Done
next Done = Done

abbrev pub table : Table (Event Envelope)
table = map (λ k. test (row k)) steps
