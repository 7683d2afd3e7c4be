-- THE THEOREM of the Pi start-up: the promise (crate matching, Promise.antt) with its table, its result and its sheet. Definitions only; the
-- proof is proofs/Whole.antt.
-- Assumes nothing.
use Rattle.std.specs.Prelude.{ℕ, ◌≡◌, List, Ok, Err, unwrap_or}
use Rattle.protocol.specs.declared.Refusal.{Refusal}
use Rattle.protocol.specs.Carried.{no_dev_info, no_cam_config}
use Rattle.matching.specs.Promise.{Ends, Answers, Keeps, AnswersSoFar}
use Rattle.sequence.specs.Events.{Envelope, Event, checked, reading}
use Rattle.sequence.specs.Calls.{Untimed}
use Rattle.sequence.specs.Replies.{dev_info_in}
use Rattle.sheet.specs.declared.StartUp.{StartUp}
use Rattle.sheet.specs.Sheet as text
use Rattle.sheet.specs.Sheet.{given}
use Rattle.sheet.specs.Ticks.{tick_of, kept}
use Rattle.pi_table.specs.declared.PiStep.{PiStep}
use Rattle.pi.specs.declared.PiSync.{PiSync}
use Rattle.pi_table.specs.Stores.{cam_config_in, ssid_in, password_in}
use Rattle.pi_table.specs.Table.{table}
use Rattle.pi.specs.Answers.{begun, finished, sheet_of}
use Rattle.pi.specs.Calls.{PiCall, into_result, sheet, after, event}

-- each record is that of the event at its entry's place (`at k`: of entry k)
abbrev pub result_of : (ℕ → Event Envelope) → PiSync
result_of at = record {
  dev_info = unwrap_or (dev_info_in (λ v. v) (at 2)) no_dev_info;
  cam_config = unwrap_or (cam_config_in (at 5)) no_cam_config;
  ssid = ssid_in (at 7);
  password = password_in (at 7);
}

-- nothing looks past the end of a run; a start-up begins as `new` leaves it
pub record Right (cs : List PiCall) : Type 0 where
  pub ends : Ends reading (checked 0) event begun.seq after table (λ s. s.step ≡ PiStep.Done) cs
  pub asked : Answers reading (checked 0) event begun.seq after table (Untimed.ask into_result) finished
      (Err Refusal.NotDone) (λ since at. Ok (result_of at)) cs
  -- the ticks so far, and each sheet that is asked for
  pub ticks : Keeps reading (checked 0) event begun.seq after table (λ s. kept s.ticks) (tick_of (λ v. v)) cs
  pub sheets : (buf : List ℕ) (at : ℕ) → AnswersSoFar reading (checked 0) event begun.seq after table (Untimed.ask (sheet buf at))
      (λ s. given (sheet_of s) at buf) (tick_of (λ v. v)) (λ ts. given (text.sheet StartUp.Pi ts) at buf) cs

-- for every list of calls
abbrev pub Theorem : Type 0
Theorem = (cs : List PiCall) → Right cs
