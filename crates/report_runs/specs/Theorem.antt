-- THE THEOREM of the report: after any list of start-ups, made by new and any calls, it tells what a definition over the list of those taken says.
-- Definitions only; the proof is proofs/Whole.antt.
-- Assumes nothing.
use Rattle.std.specs.Prelude.{◌≡◌, ℕ, suc, ◌≤◌, ◌<◌, min, max, true, cond, leb, List, [], ◌∷◌, map, filter, fold, sum, sum_by, length, get_or, Some, None, Result, Ok, Err}
use Rattle.device.specs.declared.model.DeviceModel.{DeviceModel}
use Rattle.matching.specs.Promise.{after_all, Ends, Keeps}
use Rattle.sequence.specs.Events.{checked, reading}
use Rattle.dsp_table.specs.Table as dsp_rows
use Rattle.dsp.specs.Answers as dsp
use Rattle.dsp.specs.Calls as dsp_calls
use Rattle.dsp_runs.specs.Theorem.{Names}
use Rattle.avr_table.specs.Table as avr_rows
use Rattle.avr.specs.Answers as avr
use Rattle.avr.specs.Calls as avr_calls
use Rattle.report.specs.declared.Sequence.{Sequence}
use Rattle.report.specs.declared.Sequencer.{Sequencer}
use Rattle.report.specs.declared.Sequencer.TheVariants.{Dsp, Avr}
use Rattle.report.specs.declared.ReportRefusal.{ReportRefusal}
use Rattle.report.specs.declared.Report.{Report}
use Rattle.report.specs.Report.{model_of, is_done, ticks_of, readings, wait_at, time, tick_numbers, begun, taken}

-- ---- start-ups, and the reports that take them

-- as new and any calls make them: a DSP's, an AVR's of a model
pub data StartUp : Type 0 where
  of_dsp : List dsp_calls.DspCall → StartUp
  of_avr : DeviceModel → List avr_calls.AvrCall → StartUp

-- as it stands after its calls
abbrev pub made : StartUp → Sequencer
made (of_dsp cs) = Dsp (after_all dsp_calls.after dsp.begun.seq cs)
made (of_avr m cs) = Avr (after_all avr_calls.after (avr.begun m).seq cs)

-- the readings of its ticks
abbrev pub ticked_at : Sequencer → List ℕ
ticked_at s = readings (ticks_of s)

-- the report after it was handed these, one by one: each is taken or refused by what the contract of `take` says
abbrev pub after : Report → List StartUp → Report
after r [] = r
after r (s ∷ l) = after (taken r (made s)).report l

abbrev pub if_taken : Result (Unit {0}) ReportRefusal → StartUp → List StartUp → List StartUp
if_taken (Ok u) s l = s ∷ l
if_taken (Err n) s l = l

-- those of them that were taken
abbrev pub those_taken : Report → List StartUp → List StartUp
those_taken r [] = []
those_taken r (s ∷ l) = if_taken (taken r (made s)).outcome s (those_taken (taken r (made s)).report l)

-- ---- the figures of a list of start-ups

-- the ticks of those that are done
abbrev pub done_ticks : List StartUp → List (List ℕ)
done_ticks l = map (λ s. ticked_at (made s)) (filter (λ s. is_done (made s)) l)

-- 0 of none
abbrev pub least : List ℕ → ℕ
least [] = 0
least (a ∷ l) = fold min a l

abbrev pub greatest : List ℕ → ℕ
greatest l = fold max 0 l

abbrev pub figures : Sequence → DeviceModel → List StartUp → Report
figures k m l = record {
  sequence = k;
  model = m;
  taken = length l;
  done = length (done_ticks l);
  waits = map (λ n. sum_by (wait_at n) (done_ticks l)) tick_numbers;
  shortest = least (map time (done_ticks l));
  longest = greatest (map time (done_ticks l));
  summed = sum_by time (done_ticks l);
}

-- ---- what they are read off

-- no tick is before the one before it
abbrev pub Rises : List ℕ → Type 0
Rises t = (k : ℕ) → suc k < length t → get_or t k 0 ≤ get_or t (suc k) 0

-- nothing looks past the end of a run
module _ (m : DeviceModel) (cs : List dsp_calls.DspCall) where
  -- a DSP start-up whose calls name m (the device info that ticks entry 3 does)
  pub record DspRight : Type 0 where
    -- its model is m, from its third tick on; before that it has none
    pub model : model_of (made (of_dsp cs)) ≡ cond (leb 3 (length (ticked_at (made (of_dsp cs))))) (Some m) None
    -- it is done exactly when m's table can be ticked off
    pub ends : Ends reading (checked 0) dsp_calls.event dsp.begun.seq dsp_calls.after (dsp_rows.table m) (λ s. is_done (Dsp s) ≡ true) cs
    -- the readings are those at the places of the earliest ticking so far
    pub ticks : Keeps reading (checked 0) dsp_calls.event dsp.begun.seq dsp_calls.after (dsp_rows.table m) (λ s. ticked_at (Dsp s)) reading cs

module _ (m : DeviceModel) (cs : List avr_calls.AvrCall) where
  -- an AVR start-up of m
  pub record AvrRight : Type 0 where
    pub model : model_of (made (of_avr m cs)) ≡ Some m
    pub ends : Ends reading (checked 0) avr_calls.event (avr.begun m).seq avr_calls.after (avr_rows.table m) (λ s. is_done (Avr s) ≡ true) cs
    pub ticks : Keeps reading (checked 0) avr_calls.event (avr.begun m).seq avr_calls.after (avr_rows.table m) (λ s. ticked_at (Avr s)) reading cs

pub record Theorem : Type 0 where
  -- the report is the figures of those taken
  pub figures : (k : Sequence) (m : DeviceModel) (l : List StartUp) → after (begun k m) l ≡ figures k m (those_taken (begun k m) l)
  -- the waits over all tick numbers add up to the summed time
  pub add_up : (k : Sequence) (m : DeviceModel) (l : List StartUp) → sum (after (begun k m) l).waits ≡ (after (begun k m) l).summed
  -- what they are read off; so no wait is cut off at 0
  pub rise : (s : StartUp) → Rises (ticked_at (made s))
  pub of_dsp : (m : DeviceModel) (cs : List dsp_calls.DspCall) → Names m cs → DspRight m cs
  pub of_avr : (m : DeviceModel) (cs : List avr_calls.AvrCall) → AvrRight m cs
