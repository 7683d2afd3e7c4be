-- Reports at work, start-up by start-up: at the limits, in the order of the refusals, and in states that no calls make.
-- Assumes nothing.
use Rattle.std.proofs.Common.{◌≡◌, refl, ℕ, false, List, [], ◌∷◌, map}
use Rattle.std.specs.Prelude.{Option, Some, None, Ok, Err, codes, length, replicate}
use Rattle.protocol.specs.declared.DevInfoResp.{DevInfoResp}
use Rattle.device.specs.declared.model.DeviceModel.{DeviceModel}
use Rattle.device.specs.Model.{mevo, xi, rig}
use Rattle.sheet.specs.declared.How.{How}
use Rattle.sheet.specs.Ticks.{stored}
use Rattle.dsp_table.specs.declared.DspStep.{DspStep}
use Rattle.dsp_table.specs.Stores.{no_replies}
use Rattle.avr_table.specs.declared.AvrStep.{AvrStep}
use Rattle.avr_steps.specs.Answers as avr_steps
use Rattle.report.specs.declared.Sequence.{Sequence}
use Rattle.report.specs.declared.Sequencer.{Sequencer}
use Rattle.report.specs.declared.Sequencer.TheVariants.{Dsp, Avr}
use Rattle.report.specs.declared.ReportRefusal.TheVariants.{WrongStartUp, SumTooLarge, ReportFull}
use Rattle.report.specs.declared.Report.{Report}
use Rattle.report.specs.Report.{begun, taken}

-- ---- start-ups, whose ticks have the readings t

abbrev avr_at : DeviceModel → AvrStep → List ℕ → Sequencer
avr_at m k t = Avr (record {
  state = record { step = k; model = m; replies = (avr_steps.begun m).replies; cal_deadline = None; repoll_at = None };
  last = 0;
  ticks = stored (map (λ u. record { reading = u; how = How.Reply }) t);
})

abbrev dsp_at : Option DevInfoResp → DspStep → List ℕ → Sequencer
dsp_at i k t = Dsp (record {
  state = record {
    step = k;
    replies = record {
      status = None;
      hw_info = None;
      dev_info = i;
      prod_info = no_replies.prod_info;
      config = None;
      refused = None;
      power_mode_unanswered = false;
    };
    deadline = None;
  };
  last = 0;
  ticks = stored (map (λ u. record { reading = u; how = How.Reply }) t);
})

abbrev info : List ℕ → Option DevInfoResp
info bytes = Some (record { text = record { bytes = []; len = 0 }; payload = record { bytes = bytes; len = length bytes } })

abbrev whole : List ℕ → Sequencer
whole t = avr_at xi AvrStep.Done t

abbrev part : List ℕ → Sequencer
part t = avr_at xi AvrStep.WaitIfCal t

-- a report of an AVR start-up of a Xi, with so many taken, one of them done in so long a time
abbrev report : ℕ → ℕ → Report
report n t = record {
  sequence = Sequence.Avr;
  model = xi;
  taken = n;
  done = 1;
  waits = replicate 11 0;
  shortest = t;
  longest = t;
  summed = t;
}

-- ---- the figures

abbrev first : Report
first = (taken (begun Sequence.Avr xi) (whole (5 ∷ 9 ∷ 20 ∷ []))).report

pub waits : first.waits ≡ 4 ∷ 11 ∷ 0 ∷ 0 ∷ 0 ∷ 0 ∷ 0 ∷ 0 ∷ 0 ∷ 0 ∷ 0 ∷ []
waits = refl

-- the shortest time is the first one's, and not 0
pub times : first.shortest ∷ first.longest ∷ first.summed ∷ [] ≡ 15 ∷ 15 ∷ 15 ∷ []
times = refl

abbrev second : Report
second = (taken first (whole (30 ∷ 31 ∷ 33 ∷ 37 ∷ []))).report

pub more_waits : second.waits ≡ 5 ∷ 13 ∷ 4 ∷ 0 ∷ 0 ∷ 0 ∷ 0 ∷ 0 ∷ 0 ∷ 0 ∷ 0 ∷ []
more_waits = refl

pub more_times : second.shortest ∷ second.longest ∷ second.summed ∷ [] ≡ 7 ∷ 15 ∷ 22 ∷ []
more_times = refl

-- one that isn't done counts only as taken
pub not_done : taken first (part (1 ∷ 100 ∷ [])) ≡ record {
  outcome = Ok tt;
  report = record {
    sequence = first.sequence;
    model = first.model;
    taken = 2;
    done = 1;
    waits = first.waits;
    shortest = 15;
    longest = 15;
    summed = 15;
  };
}
not_done = refl

-- ---- 14: the summed time comes to the largest number, and would come past it

abbrev largest : ℕ
largest = 18_446_744_073_709_551_615

pub just_fits : (taken (report 1 2_000_000_000) (whole (0 ∷ 18_446_744_071_709_551_615 ∷ []))).report.summed ≡ largest
just_fits = refl

pub one_more : taken (report 1 largest) (whole (7 ∷ 8 ∷ [])) ≡ record { outcome = Err SumTooLarge; report = report 1 largest }
one_more = refl

pub none_more : (taken (report 1 largest) (whole (7 ∷ 7 ∷ []))).outcome ≡ Ok tt
none_more = refl

-- none that isn't done gets it
pub not_done_fits : (taken (report 1 largest) (part (7 ∷ 8 ∷ []))).outcome ≡ Ok tt
not_done_fits = refl

-- ---- 15: the millionth, and one more, done or not

pub millionth : (taken (report 999_999 5) (whole (7 ∷ 8 ∷ []))).report.taken ≡ 1_000_000
millionth = refl

pub full : taken (report 1_000_000 5) (whole (7 ∷ 8 ∷ [])) ≡ record { outcome = Err ReportFull; report = report 1_000_000 5 }
full = refl

pub full_for_any : (taken (report 1_000_000 5) (part [])).outcome ≡ Err ReportFull
full_for_any = refl

-- ---- the lowest: 14 before 15, and 7 before both

pub both : (taken (report 1_000_000 largest) (whole (7 ∷ 8 ∷ []))).outcome ≡ Err SumTooLarge
both = refl

pub all_three : (taken (report 1_000_000 largest) (avr_at rig AvrStep.Done (7 ∷ 8 ∷ []))).outcome ≡ Err WrongStartUp
all_three = refl

-- ---- 7: the other sequence; another model, also one with the same entries; a DSP start-up that has none yet

pub of_the_dsp : (taken (report 1 5) (dsp_at (info (codes "FS Xi")) DspStep.Done (7 ∷ 8 ∷ []))).outcome ≡ Err WrongStartUp
of_the_dsp = refl

pub a_rig : (taken (begun Sequence.Avr mevo) (avr_at rig AvrStep.Done (7 ∷ 8 ∷ []))).outcome ≡ Err WrongStartUp
a_rig = refl

pub no_model : (taken (begun Sequence.Dsp mevo) (dsp_at None DspStep.WaitDevInfo (7 ∷ 8 ∷ []))).outcome ≡ Err WrongStartUp
no_model = refl

pub a_mevo : (taken (begun Sequence.Dsp mevo) (dsp_at (info []) DspStep.WaitProdInfo0 (7 ∷ 8 ∷ 9 ∷ []))).outcome ≡ Ok tt
a_mevo = refl

-- ---- what no calls make: ticks that fall, sums that are full

pub falls : (taken (begun Sequence.Avr xi) (whole (9 ∷ 5 ∷ 6 ∷ []))).report.waits ≡ 0 ∷ 1 ∷ 0 ∷ 0 ∷ 0 ∷ 0 ∷ 0 ∷ 0 ∷ 0 ∷ 0 ∷ 0 ∷ []
falls = refl

pub no_time : (taken (begun Sequence.Avr xi) (whole (9 ∷ 5 ∷ 6 ∷ []))).report.summed ≡ 0
no_time = refl

abbrev full_waits : Report
full_waits = record {
  sequence = Sequence.Avr;
  model = xi;
  taken = 1;
  done = largest;
  waits = replicate 11 largest;
  shortest = 0;
  longest = 0;
  summed = 0;
}

pub stay_full : (taken full_waits (whole (7 ∷ 8 ∷ []))).report.waits ≡ replicate 11 largest
stay_full = refl
