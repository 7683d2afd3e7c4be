-- The theorem at work: one list of calls in which every part of it is read. A weaker theorem would not give these.
-- Assumes nothing.
use Prim.Native.Nat.{ℕ}
use mathlib.Core.Path.{◌≡◌, refl, sym, ap}
use mathlib.Core.Bool.{true≢false}
use mathlib.Core.List.{List, [], ◌∷◌, ◌++◌}
use Rattle.protocol.specs.declared.BusAddr.{BusAddr}
use Rattle.protocol.specs.declared.Message.{Message}
use Rattle.matching.specs.Promise.{after_all, events, Matched}
use Rattle.matching.proofs.Called.{run_rises}
use Rattle.matching.proofs.Machine.{leftmost}
use Rattle.matching.proofs.Leftmost.{leftmost_matching, leftmost_earliest, earliest_unique}
use Rattle.sequence.specs.Events.{checked, reading, plain}
use Rattle.sequence.specs.Calls.{Fed, Untimed, fed_event}
use Rattle.disarm.specs.declared.DisarmStep.{DisarmStep}
use Rattle.disarm.specs.declared.DisarmSequencer.{DisarmSequencer}
use Rattle.disarm.specs.Table.{table, armed_cancelled, system_state}
use Rattle.disarm.specs.Answers.{begun}
use Rattle.disarm.specs.Calls.{after}
use Rattle.disarm_runs.proofs.Whole.{anti, sequencer, is_done, right}

abbrev from : BusAddr → Message → List ℕ → Fed
from b m text = Untimed.feed (plain b m text)

abbrev ack : BusAddr → Fed
ack b = from b (Message.ConfigAck (record { bus_addr = 0x30; acked_cmd = 0x2F })) []

-- signs before the acknowledgement, and one from another device, count for nothing; the later signs may come from any
abbrev early : List Fed
early =
    from BusAddr.Avr Message.Text armed_cancelled ∷ from BusAddr.Avr Message.ModeAck [] ∷ ack BusAddr.Dsp ∷ ack BusAddr.Avr
    ∷ from BusAddr.Dsp Message.Text system_state ∷ from BusAddr.Pi Message.Text (0x3E ∷ armed_cancelled) ∷ []

abbrev day : List Fed
day = early ++ from BusAddr.Dsp Message.Text (system_state ++ 0x20 ∷ 0x35 ∷ []) ∷ []

abbrev state : List Fed → DisarmSequencer
state cs = after_all after begun.seq cs

abbrev Off : List Fed → Type 0
Off cs = Matched reading (checked 0) fed_event begun.seq after table cs

abbrev places : List Fed → List ℕ
places cs = leftmost reading table (events reading fed_event 0 cs)

pub day_places : places day ≡ 3 ∷ 5 ∷ 6 ∷ []
day_places = refl

pub ticked_off : Off day
ticked_off = (right day).done.0 refl

pub done : (state day).step ≡ DisarmStep.Done
done = (right day).done.1 (places day, leftmost_matching {r = events reading fed_event 0 day} refl)

pub not_yet : Off early → ⊥
not_yet d = true≢false (ap is_done (sym ((right early).done.1 d)))

-- the earliest matching that it speaks of is this one
pub earliest : ((right day).first ticked_off).0 ≡ 3 ∷ 5 ∷ 6 ∷ []
earliest =
    earliest_unique ((right day).first ticked_off).1
    (leftmost_earliest {r = events reading fed_event 0 day} anti (run_rises sequencer day) ticked_off.0 ticked_off.1)
