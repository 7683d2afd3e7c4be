-- What a report answers, and what it tells of the start-ups that it has taken (docs/SCOPE.md, "Report"). Definitions only.
-- Assumes nothing.
use Rattle.std.specs.Prelude.{ℕ, ◌+◌, ◌-◌, min, max, Bool, true, false, not, cond, ◌&&◌, List, [], ◌∷◌, map, length, get_or, replicate, eqb, leb, ltb, Option, Some, None, Result, Ok, Err}
use Rattle.protocol.specs.declared.DevInfoResp.{DevInfoResp}
use Rattle.protocol.specs.Refusals.{Applies, lowest}
use Rattle.protocol.specs.Stored.{content}
use Rattle.device.specs.declared.model.DeviceModel.{DeviceModel}
use Rattle.device.specs.Model as device
use Rattle.sequence.specs.Accepted.{applies}
use Rattle.sheet.specs.declared.Tick.{Tick}
use Rattle.sheet.specs.Ticks.{kept}
use Rattle.dsp.specs.Answers as dsp
use Rattle.avr.specs.Answers as avr
use Rattle.report.specs.declared.Sequence.{Sequence}
use Rattle.report.specs.declared.Sequencer.{Sequencer}
use Rattle.report.specs.declared.Sequencer.TheVariants.{Dsp, Avr}
use Rattle.report.specs.declared.ReportRefusal.{ReportRefusal}
use Rattle.report.specs.declared.ReportRefusal.TheVariants.{WrongStartUp, SumTooLarge, ReportFull}
use Rattle.report.specs.declared.Report.{Report}
use Rattle.report.specs.declared.ReportAnswer.{ReportAnswer}

-- ---- a start-up that is handed in

abbrev pub sequence_of : Sequencer → Sequence
sequence_of (Dsp s) = Sequence.Dsp
sequence_of (Avr s) = Sequence.Avr

-- the model that a stored device info names; before there is one there is none, and no Mevo either
abbrev pub named_by : Option DevInfoResp → Option DeviceModel
named_by (Some i) = Some (device.model_of (content i.payload))
named_by None = None

-- a DSP start-up stores its device info at the third tick; an AVR start-up is given its model at new
abbrev pub model_of : Sequencer → Option DeviceModel
model_of (Dsp s) = named_by s.state.replies.dev_info
model_of (Avr s) = Some s.state.model

-- is its step Done?
abbrev pub is_done : Sequencer → Bool
is_done (Dsp s) = dsp.is_done s.state.step
is_done (Avr s) = avr.is_done s.state.step

abbrev pub ticks_of : Sequencer → List Tick
ticks_of (Dsp s) = kept s.ticks
ticks_of (Avr s) = kept s.ticks

abbrev pub readings : List Tick → List ℕ
readings ts = map (λ k. k.reading) ts

-- ---- its waits and its time, of the readings of its ticks: t has that of the tick number n at n - 1. A number counts in this run, as on a sheet.
-- Of ticks that fall, which no list of calls makes, they stop at 0.

-- since the tick before the number n, which is 2 or more; 0 where no tick has this number
abbrev pub wait_at : ℕ → List ℕ → ℕ
wait_at n t = cond (leb n (length t)) (get_or t (n - 1) 0 - get_or t (n - 2) 0) 0

-- from the first tick to the last; 0 without ticks
abbrev pub time : List ℕ → ℕ
time t = get_or t (length t - 1) 0 - get_or t 0 0

-- the numbers of ticks that have a wait: an AVR start-up has up to 12
abbrev pub tick_numbers : List ℕ
tick_numbers = 2 ∷ 3 ∷ 4 ∷ 5 ∷ 6 ∷ 7 ∷ 8 ∷ 9 ∷ 10 ∷ 11 ∷ 12 ∷ []

-- ---- a report

-- nothing is taken
abbrev pub begun : Sequence → DeviceModel → Report
begun k m = record {
  sequence = k;
  model = m;
  taken = 0;
  done = 0;
  waits = replicate 11 0;
  shortest = 0;
  longest = 0;
  summed = 0;
}

-- ---- which start-ups are refused

abbrev pub number : ReportRefusal → ℕ
-- it is of another sequence or model than the report, or has no model yet
number WrongStartUp = 7
-- the summed time would exceed 18,446,744,073,709,551,615 ns
number SumTooLarge = 14
-- 1,000,000 start-ups are taken already
number ReportFull = 15

abbrev pub same_sequence : Sequence → Sequence → Bool
same_sequence Sequence.Dsp Sequence.Dsp = true
same_sequence Sequence.Dsp Sequence.Avr = false
same_sequence Sequence.Avr Sequence.Dsp = false
same_sequence Sequence.Avr Sequence.Avr = true

abbrev pub same_fact : Bool → Bool → Bool
same_fact true b = b
same_fact false b = not b

-- all three facts are the same
abbrev pub same_model : DeviceModel → Option DeviceModel → Bool
same_model m None = false
same_model m (Some n) = same_fact m.camera n.camera && same_fact m.factory_cal n.factory_cal && same_fact m.power_mode n.power_mode

abbrev pub is_of : Report → Sequencer → Bool
is_of r s = same_sequence r.sequence (sequence_of s) && same_model r.model (model_of s)

-- a start-up that isn't done adds no time; the millionth is taken
abbrev pub report_refusals : Report → Sequencer → List Applies
report_refusals r s =
    applies 7 (not (is_of r s))
    ∷ applies 14 (is_done s && ltb 18_446_744_073_709_551_615 (r.summed + time (readings (ticks_of s))))
    ∷ applies 15 (leb 1_000_000 r.taken)
    ∷ []

-- the outcome with the number n: refused if that is a refusal's; 0 says that none applies
abbrev pub outcome : ℕ → Result (Unit {0}) ReportRefusal
outcome n =
    cond (eqb (number WrongStartUp) n) (Err WrongStartUp)
    (cond (eqb (number SumTooLarge) n) (Err SumTooLarge) (cond (eqb (number ReportFull) n) (Err ReportFull) (Ok tt)))

abbrev pub report_outcome : Report → Sequencer → Result (Unit {0}) ReportRefusal
report_outcome r s = outcome (lowest (report_refusals r s))

-- ---- what a report tells then

-- a sum as 64 bits hold it: the largest where it is more
abbrev pub plus : ℕ → ℕ → ℕ
plus a b = min 18_446_744_073_709_551_615 (a + b)

-- the sums of the waits, each with its own of these readings
abbrev pub with_waits : List ℕ → List ℕ → List ℕ
with_waits ws t = map (λ n. plus (get_or ws (n - 2) 0) (wait_at n t)) tick_numbers

-- with the times of a start-up that is done, t being the readings of its ticks. The first one's time is the shortest.
abbrev pub with_times : Report → List ℕ → Report
with_times r t = record {
  sequence = r.sequence;
  model = r.model;
  taken = r.taken;
  done = plus r.done 1;
  waits = with_waits r.waits t;
  shortest = cond (eqb r.done 0) (time t) (min r.shortest (time t));
  longest = max r.longest (time t);
  summed = plus r.summed (time t);
}

-- one more taken
abbrev pub one_more : Report → Report
one_more r = record {
  sequence = r.sequence;
  model = r.model;
  taken = plus r.taken 1;
  done = r.done;
  waits = r.waits;
  shortest = r.shortest;
  longest = r.longest;
  summed = r.summed;
}

-- a start-up that isn't done counts only as taken
abbrev pub counted : Report → Sequencer → Report
counted r s = cond (is_done s) (with_times (one_more r) (readings (ticks_of s))) (one_more r)

-- beside a refusal the report is as it was
abbrev pub answer_by : Result (Unit {0}) ReportRefusal → Report → Report → ReportAnswer
answer_by (Ok u) new old = record { outcome = Ok tt; report = new }
answer_by (Err n) new old = record { outcome = Err n; report = old }

abbrev pub taken : Report → Sequencer → ReportAnswer
taken r s = answer_by (report_outcome r s) (counted r s) r
