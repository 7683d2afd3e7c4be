-- The theorems at work: a run with a parameter and a calibration, two after refused starts, and one of settings that no start accepts, in
-- which every part is read. A weaker theorem would not give these.
-- Assumes nothing.
use Prim.Native.Nat.{ℕ}
use mathlib.Core.Path.{◌≡◌, refl, sym, ap}
use mathlib.Core.Bool.{true≢false}
use mathlib.Core.List.{List, [], ◌∷◌, ◌++◌}
use Rattle.std.specs.Prelude.{true, Some, Err}
use lib.IntN.{ℤ}
use lib.ListN.{replicate}
use Rattle.protocol.specs.declared.BusAddr.{BusAddr}
use Rattle.protocol.specs.declared.ParamData.{ParamData}
use Rattle.protocol.specs.declared.Message.{Message}
use Rattle.protocol.specs.declared.Refusal.{Refusal}
use Rattle.matching.specs.Promise.{after_all, events, Matched}
use Rattle.matching.proofs.Called.{run_rises}
use Rattle.matching.proofs.Machine.{leftmost}
use Rattle.matching.proofs.Leftmost.{leftmost_matching, leftmost_earliest, earliest_unique}
use Rattle.sequence.specs.Events.{checked, reading, plain}
use Rattle.sequence.specs.Calls.{Fed, Untimed, fed_event}
use Rattle.settings.specs.declared.AvrSettings.{AvrSettings}
use Rattle.settings.specs.Settings.{no_param}
use Rattle.settings.specs.Repeats.{counted, repeats}
use Rattle.avr_config_steps.specs.declared.AvrConfigStep.{AvrConfigStep}
use Rattle.avr_config_steps.specs.Table.{table}
use Rattle.avr_config.specs.declared.AvrConfigSequencer.{AvrConfigSequencer}
use Rattle.avr_config.specs.Answers.{running, begun}
use Rattle.avr_config.specs.Calls.{after}
use Rattle.avr_config_runs.specs.Going.{running_on}
use Rattle.avr_config_runs.proofs.Whole.{anti, sequencer, is_done, going, right}

-- n parameters count, and there is a calibration
abbrev settings : ℕ → AvrSettings
settings n = record {
  mode = 9;
  params = record { param_id = 0x06; value = ParamData.Int24 (ℤ.pos 1) } ∷ replicate 31 no_param;
  len = n;
  radar_cal = Some (record { range_mm = 2438; height_mm = 25 });
}

-- acknowledgements of any command, and echoes of any value
abbrev ack : BusAddr → ℕ → Fed
ack b k = Untimed.feed (plain b (Message.ConfigAck (record { bus_addr = 0x30; acked_cmd = k })) [])

abbrev mode : ℕ → Fed
mode k = Untimed.feed (plain BusAddr.Avr (Message.ModeSet (record { mode = k })) [])

abbrev cal : Fed
cal = Untimed.feed (plain BusAddr.Avr (Message.RadarCal (record { range_mm = 0; height_mm = 0 })) [])

abbrev state : AvrSettings → List Fed → AvrConfigSequencer
state s cs = after_all after (begun s).seq cs

abbrev Off : AvrSettings → List Fed → Type 0
Off s cs = Matched reading (checked 0) fed_event (begun s).seq after (table (running s)) cs

abbrev places : AvrSettings → List Fed → List ℕ
places s cs = leftmost reading (table (running s)) (events reading fed_event 0 cs)

-- ---- one parameter and a calibration: seven entries

abbrev early : List Fed
early =
    mode 9 ∷ ack BusAddr.Avr 0 ∷ ack BusAddr.Dsp 0 ∷ ack BusAddr.Avr 1 ∷ cal ∷ ack BusAddr.Avr 2 ∷ mode 3 ∷ mode 9 ∷ ack BusAddr.Avr 4 ∷ cal ∷ []

abbrev day : List Fed
day = early ++ ack BusAddr.Avr 5 ∷ []

pub day_places : places (settings 1) day ≡ 1 ∷ 3 ∷ 5 ∷ 6 ∷ 8 ∷ 9 ∷ 10 ∷ []
day_places = refl

pub ticked_off : Off (settings 1) day
ticked_off = (right (settings 1) day).done.0 refl

pub done : (state (settings 1) day).step ≡ AvrConfigStep.Done
done = (right (settings 1) day).done.1 (places (settings 1) day, leftmost_matching {r = events reading fed_event 0 day} refl)

pub not_yet : Off (settings 1) early → ⊥
not_yet d = true≢false (ap is_done (sym ((right (settings 1) early).done.1 d)))

pub earliest : ((right (settings 1) day).first ticked_off).0 ≡ 1 ∷ 3 ∷ 5 ∷ 6 ∷ 8 ∷ 9 ∷ 10 ∷ []
earliest =
    let q = running (settings 1) in
    earliest_unique ((right (settings 1) day).first ticked_off).1
    (leftmost_earliest {r = events reading fed_event 0 day} (anti q) (run_rises (sequencer q) day) ticked_off.0 ticked_off.1)

-- ---- after a refused start: three entries, whatever was given

abbrev short : List Fed
short = ack BusAddr.Avr 0 ∷ mode 0 ∷ ack BusAddr.Avr 0 ∷ []

pub done_after_refusal : (state (settings 33) short).step ≡ AvrConfigStep.Done
done_after_refusal = (right (settings 33) short).done.1 (places (settings 33) short, leftmost_matching {r = events reading fed_event 0 short} refl)

pub ticked_after_refusal : Off (settings 33) short
ticked_after_refusal = (right (settings 33) short).done.0 refl

-- ---- the same after a start that is refused with 6: of three parameters the second and the third have one id, which is 0

pub refused_with_6 : (begun (settings 3)).outcome ≡ Err Refusal.RepeatedParam
refused_with_6 = refl

pub done_after_a_repeat : (state (settings 3) short).step ≡ AvrConfigStep.Done
done_after_a_repeat = (right (settings 3) short).done.1 (places (settings 3) short, leftmost_matching {r = events reading fed_event 0 short} refl)

-- ---- a run that holds these settings all the same goes on: eleven entries

abbrev held : List Fed
held =
    ack BusAddr.Avr 0 ∷ ack BusAddr.Avr 1 ∷ ack BusAddr.Avr 2 ∷ ack BusAddr.Avr 3 ∷ ack BusAddr.Avr 4 ∷ ack BusAddr.Avr 5 ∷ ack BusAddr.Avr 6
    ∷ mode 9 ∷ ack BusAddr.Avr 7 ∷ cal ∷ ack BusAddr.Avr 8 ∷ []

pub repeats_still : repeats (counted (settings 3)) ≡ true
repeats_still = refl

pub goes_on : (after_all after (running_on (settings 3)) held).step ≡ AvrConfigStep.Done
goes_on =
    (going (settings 3) held).done.1
    (leftmost reading (table (settings 3)) (events reading fed_event 0 held), leftmost_matching {r = events reading fed_event 0 held} refl)
