-- THE THEOREM of the AVR start-up: the promise (crate matching, Promise.antt) with its tables, its result and its sheet. Definitions only; the
-- proof is proofs/Whole.antt.
-- Assumes nothing.
use Rattle.std.specs.Prelude.{ℕ, ◌≡◌, Bool, cond, List, None, Ok, Err}
use Rattle.std.specs.Option.{unwrap_or}
use Rattle.protocol.specs.declared.Refusal.{Refusal}
use Rattle.protocol.specs.Carried.{no_avr_status, no_dev_info, no_config}
use Rattle.device.specs.declared.model.DeviceModel.{DeviceModel}
use Rattle.device.specs.Model.{has_factory_cal}
use Rattle.matching.specs.Promise.{Ends, Answers, Keeps, AnswersSoFar}
use Rattle.sequence.specs.Events.{Event, checked, reading}
use Rattle.sequence.specs.Calls.{ask}
use Rattle.sequence.specs.Replies.{dev_info_in, config_in}
use Rattle.sheet.specs.declared.StartUp.{StartUp}
use Rattle.sheet.specs.Sheet as text
use Rattle.sheet.specs.Sheet.{given}
use Rattle.sheet.specs.Ticks.{tick_of, kept}
use Rattle.avr_table.specs.declared.AvrStep.{AvrStep}
use Rattle.avr_table.specs.Stores.{Dated, env, status_in, factory_cal_in, if_cal_in, avr_config_in}
use Rattle.avr_table.specs.Table.{table}
use Rattle.avr.specs.declared.AvrSync.{AvrSync}
use Rattle.avr.specs.Answers.{begun, finished, sheet_of}
use Rattle.avr.specs.Calls.{AvrCall, into_result, sheet, after, event}

-- Each record is that of the event at its entry's place (`at k`: of the k-th entry of the model's table), absent where that stores none.
-- With a factory calibration there are 12 entries, without 8.
abbrev pub result_of : Bool → (ℕ → Event Dated) → AvrSync
result_of cal at = record {
  status = unwrap_or (status_in (at 2)) no_avr_status;
  dev_info = unwrap_or (dev_info_in env (at 4)) no_dev_info;
  config = unwrap_or (config_in env (at 7)) no_config;
  factory_cal = cond cal (factory_cal_in (at 8) None) None;
  if_cal = cond cal (if_cal_in (at 9) None) (if_cal_in (at 8) None);
  avr_config = cond cal (avr_config_in (at 10)) None;
}

-- nothing looks past the end of a run; a start-up begins as `new_for` leaves it
module _ (m : DeviceModel) (cs : List AvrCall) where
  pub record Right : Type 0 where
    pub ends : Ends reading (checked 0) event (begun m).seq after (table m) (λ s. s.state.step ≡ AvrStep.Done) cs
    pub asked : Answers reading (checked 0) event (begun m).seq after (table m) (ask into_result) finished
        (Err Refusal.NotDone) (λ since at. Ok (result_of (has_factory_cal m) at)) cs
    -- the ticks so far, and each sheet that is asked for
    pub ticks : Keeps reading (checked 0) event (begun m).seq after (table m) (λ s. kept s.ticks) (tick_of env) cs
    pub sheets : (buf : List ℕ) (at : ℕ) → AnswersSoFar reading (checked 0) event (begun m).seq after (table m) (ask (sheet buf at))
        (λ s. given (sheet_of s) at buf) (tick_of env) (λ ts. given (text.sheet StartUp.Avr ts) at buf) cs

-- for every model given at new, and every list of calls
abbrev pub Theorem : Type 0
Theorem = (m : DeviceModel) (cs : List AvrCall) → Right m cs
