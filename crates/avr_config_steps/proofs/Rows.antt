-- The rows at a step: when it is ticked, and what no row looks at.
-- Assumes nothing.
use mathlib.Core.Path.{◌≡◌, refl, sym, ap}
use mathlib.Core.Bool.{true, false, true≢false}
use mathlib.Core.List.{[]}
use Rattle.sequence.specs.Events.{Envelope, fed, plain}
use Rattle.sequence.specs.Rows.{idle}
use Rattle.sequence.proofs.Arms.{at_idles}
use Rattle.settings.specs.declared.AvrSettings.{AvrSettings}
use Rattle.avr_config_steps.specs.declared.AvrConfigStep.{AvrConfigStep}
use Rattle.avr_config_steps.specs.declared.AvrConfigStep.TheVariants.{WaitInitGateAck, WaitParamAck, WaitParamCommitAck, WaitModeEcho, WaitModeCommitAck, WaitRadarCalEcho, WaitRadarCalCommitAck, Done}
use Rattle.avr_config_steps.specs.Table.{row, next}
use Rattle.avr_config_steps.specs.Answers.{view, made, advance, goes}

-- an envelope that the row doesn't name changes nothing
pub idles : (q : AvrSettings) (k : AvrConfigStep) (e : Envelope) → (row q k).reply e ≡ false → idle k ≡ advance q k (fed e 0)
idles q k e h = ap made (sym (at_idles (row q k) (next q k) (row q (next q k)) (view k) (fed e 0) h))

-- one that it names leads on to the next step, with that step's request
pub ticks : (q : AvrSettings) (k : AvrConfigStep) (e : Envelope) → (row q k).reply e ≡ true → goes q (next q k) ≡ advance q k (fed e 0)
ticks q WaitInitGateAck e h = rw h
ticks q (WaitParamAck i) e h = rw h
ticks q (WaitParamCommitAck i) e h = rw h
ticks q WaitModeEcho e h = rw h
ticks q WaitModeCommitAck e h = rw h
ticks q WaitRadarCalEcho e h = rw h
ticks q WaitRadarCalCommitAck e h = rw h
ticks q Done e h = absurd (true≢false (sym h))

-- no row looks at more than the source and the message
pub unread : (q : AvrSettings) (k : AvrConfigStep) (e : Envelope) → advance q k (fed (plain e.src e.message []) 0) ≡ advance q k (fed e 0)
unread q WaitInitGateAck e = refl
unread q (WaitParamAck i) e = refl
unread q (WaitParamCommitAck i) e = refl
unread q WaitModeEcho e = refl
unread q WaitModeCommitAck e = refl
unread q WaitRadarCalEcho e = refl
unread q WaitRadarCalCommitAck e = refl
unread q Done e = refl
