-- THE THEOREM of the DSP start-up: the promise (crate matching, Promise.antt) with its tables, its result, its nack and its sheet. Definitions only;
-- the proof is proofs/Whole.antt.
-- Assumes nothing.
use Rattle.std.specs.Prelude.{ℕ, ◌≡◌, Bool, true, false, cond, ◌&&◌, List, [], ◌∷◌, Option, None, unwrap_or, Ok, Err}
use Rattle.protocol.specs.declared.Nack.{Nack}
use Rattle.protocol.specs.declared.Refusal.TheVariants.{NotDone}
use Rattle.protocol.specs.Carried.{no_dev_info, no_config}
use Rattle.protocol.specs.Kinds.{dev_info_resp}
use Rattle.device.specs.declared.model.DeviceModel.{DeviceModel}
use Rattle.device.specs.Model.{model_of, tag_place_in, has_power_mode}
use Rattle.matching.specs.Matching.{Table}
use Rattle.matching.specs.Promise.{Each, Ends, Answers, Keeps, AnswersSoFar, First, run, tick}
use Rattle.sequence.specs.Events.{Envelope, Event, fed, checked, reading}
use Rattle.sequence.specs.Calls.{ask}
use Rattle.sequence.specs.Replies.{dev_info_in, config_in}
use Rattle.sequence.specs.Rows.{test}
use Rattle.sheet.specs.declared.StartUp.{StartUp}
use Rattle.sheet.specs.Sheet as text
use Rattle.sheet.specs.Sheet.{given}
use Rattle.sheet.specs.Ticks.{tick_of, kept}
use Rattle.dsp_table.specs.declared.DspStep.{DspStep}
use Rattle.dsp_table.specs.Stores.{from_dsp, status_in, hw_info_in, prod_info_in, nack_in, unanswered_in, no_status}
use Rattle.dsp_table.specs.Table.{entry1, entry2, entry3, table}
use Rattle.dsp.specs.declared.DspSync.{DspSync}
use Rattle.dsp.specs.Answers.{begun, finished, taken, sheet_of}
use Rattle.dsp.specs.Calls.{DspCall, into_result, sheet, take_refused, after, event, takes}

-- each record is that of the event at its entry's place (`at k`: of entry k), absent where that stores none
abbrev pub result_of : DeviceModel → (ℕ → Event Envelope) → DspSync
result_of m at = record {
  status = (unwrap_or (status_in (at 1)) no_status).status;
  status_payload = (unwrap_or (status_in (at 1)) no_status).payload;
  hw_info = hw_info_in (at 2) None;
  dev_info = unwrap_or (dev_info_in (λ v. v) (at 3)) no_dev_info;
  prod_info = prod_info_in (at 4) ∷ prod_info_in (at 5) ∷ prod_info_in (at 6) ∷ [];
  config = unwrap_or (config_in (λ v. v) (at 7)) no_config;
  model = m;
  tag_place = tag_place_in (dev_info_in (λ v. v) (at 3));
  power_mode_unanswered = has_power_mode m && unanswered_in (at 8) false;
}

-- What a taking gives: without a power-mode step nothing; with it the nack that ticked entry 8, if one did and none of the
-- calls since took it.
abbrev pub nack_of : Bool → List DspCall → (ℕ → Event Envelope) → Option Nack
nack_of false since at = None
nack_of true since at = cond (takes since) None (nack_in (at 8) None)

-- entries 1 to 3, with which every model's table begins
abbrev pub opening : Table (Event Envelope)
opening = test entry1 ∷ test entry2 ∷ test entry3 ∷ []

-- the payload of an envelope; a check has none
abbrev pub payload_in : Event Envelope → List ℕ
payload_in (fed e t) = e.payload
payload_in (checked t) = []

-- if this is a device info from the Dsp, it names m
abbrev pub Says : DeviceModel → Event Envelope → Type 0
Says m (fed e t) = from_dsp dev_info_resp e ≡ true → model_of e.payload ≡ m
Says m (checked t) = Unit {0}

-- nothing looks past the end of a run; a start-up begins as `new` leaves it
module _ (m : DeviceModel) (cs : List DspCall) where
  -- The list names m: the device info that ticks entry 3 does. A list in which none does names every model.
  abbrev pub Names : Type 0
  Names = (ps : List ℕ) → First reading (checked 0) event begun.seq after opening cs ps
      → model_of (payload_in (tick reading (checked 0) event begun.seq after cs ps 3)) ≡ m

  pub record Right : Type 0 where
    pub ends : Ends reading (checked 0) event begun.seq after (table m) (λ s. s.state.step ≡ DspStep.Done) cs
    pub asked : Answers reading (checked 0) event begun.seq after (table m) (ask into_result) finished (Err NotDone)
        (λ since at. Ok (result_of m at)) cs
    pub took : Answers reading (checked 0) event begun.seq after (table m) (ask take_refused) (λ s. (taken s).refused) None (nack_of (has_power_mode m)) cs
    -- the ticks so far, and each sheet that is asked for
    pub ticks : Keeps reading (checked 0) event begun.seq after (table m) (λ s. kept s.ticks) (tick_of (λ v. v)) cs
    pub sheets : (buf : List ℕ) (at : ℕ) → AnswersSoFar reading (checked 0) event begun.seq after (table m) (ask (sheet buf at))
        (λ s. given (sheet_of s) at buf) (tick_of (λ v. v)) (λ ts. given (text.sheet StartUp.Dsp ts) at buf) cs

pub record Theorem : Type 0 where
  -- every list of calls names a model; where its device infos agree, it is theirs
  pub named : (cs : List DspCall) → (m : DeviceModel) × Names m cs
  pub agreed : (m : DeviceModel) (cs : List DspCall) → Each (Says m) (run reading (checked 0) event begun.seq after cs) → Names m cs
  -- and it is right by the model that it names
  pub right : (m : DeviceModel) (cs : List DspCall) → Names m cs → Right m cs
