-- What the calls of a DSP start-up answer: refused with the lowest number that applies, or by the row at the step. Definitions only.
-- Assumes nothing.
use Rattle.std.specs.Prelude.{ℕ, Bool, true, false, List, [], Option, Some, None, unwrap_or, Result, Ok, Err}
use Rattle.protocol.specs.declared.BusAddr.{BusAddr}
use Rattle.protocol.specs.declared.Nack.{Nack}
use Rattle.protocol.specs.declared.Refusal.{Refusal}
use Rattle.protocol.specs.Carried.{no_dev_info, no_config}
use Rattle.protocol.specs.Refusals.{outcome, lowest}
use Rattle.device.specs.declared.model.DeviceModel.{DeviceModel}
use Rattle.device.specs.Model.{model_in, tag_place_in}
use Rattle.requests.specs.Requests.{status_poll}
use Rattle.sequence.specs.Accepted.{feed_outcome, check_outcome, result_refusals}
use Rattle.sequence.specs.Events.{Envelope, Event, fed, checked}
use Rattle.sequence.specs.declared.Moved.{Moved}
use Rattle.sequence.specs.declared.Answer.{Answer}
use Rattle.sequence.specs.Rows.{judged, refused}
use Rattle.sheet.specs.declared.Tick.{Tick}
use Rattle.sheet.specs.declared.StartUp.{StartUp}
use Rattle.sheet.specs.declared.Ticks.{Ticks}
use Rattle.sheet.specs.Sheet.{sheet}
use Rattle.sheet.specs.Ticks.{tick_of, stored, then_tick, kept}
use Rattle.dsp_table.specs.declared.DspStep.{DspStep}
use Rattle.dsp_table.specs.declared.DspStep.TheVariants.{WaitStatus, WaitDspQuery, WaitDevInfo, WaitProdInfo0, WaitProdInfo1, WaitProdInfo2, WaitConfig, WaitPowerMode, Done}
use Rattle.dsp_table.specs.declared.DspReplies.{DspReplies}
use Rattle.dsp_steps.specs.declared.DspState.{DspState}
use Rattle.dsp_table.specs.Stores.{no_status}
use Rattle.dsp_steps.specs.Answers as steps
use Rattle.dsp.specs.declared.DspSync.{DspSync}
use Rattle.dsp.specs.declared.DspSequencer.{DspSequencer}
use Rattle.dsp.specs.declared.DspTaken.{DspTaken}

-- new polls the Dsp; no reading has been accepted, and no entry ticked
abbrev pub begun : Answer DspSequencer
begun = record { outcome = Ok (Some (status_poll false BusAddr.Dsp)); seq = record { state = steps.begun; last = 0; ticks = stored [] } }

-- ---- a feed, a check

-- the ticks before; what the event does; its reading, and how it ticks an entry if it ticks one
abbrev pub accepted : Ticks → Moved DspState → Tick → Answer DspSequencer
accepted ts w k = record { outcome = Ok w.action; seq = record { state = w.state; last = k.reading; ticks = then_tick ts w.ticked k } }

-- an event by the table of a model, if the outcome is that it is accepted
abbrev pub answered : DeviceModel → Result (Unit {0}) Refusal → DspSequencer → Event Envelope → Answer DspSequencer
answered m o s e = judged o (accepted s.ticks (steps.advance m s.state e) (tick_of (λ v. v) e)) (refused s)

abbrev pub fed_to : DspSequencer → Envelope → ℕ → Answer DspSequencer
fed_to s e t = answered (model_in s.state.replies.dev_info) (feed_outcome e.text e.payload s.last t) s (fed e t)

abbrev pub polled : DspSequencer → ℕ → Answer DspSequencer
polled s t = answered (model_in s.state.replies.dev_info) (check_outcome s.last t) s (checked t)

-- ---- the result

-- each record is the stored one; where none is stored, every field is 0, false or its type's first case
abbrev pub sync_of : DspReplies → DspSync
sync_of y = record {
  status = (unwrap_or y.status no_status).status;
  status_payload = (unwrap_or y.status no_status).payload;
  hw_info = y.hw_info;
  dev_info = unwrap_or y.dev_info no_dev_info;
  prod_info = y.prod_info;
  config = unwrap_or y.config no_config;
  model = model_in y.dev_info;
  tag_place = tag_place_in y.dev_info;
  power_mode_unanswered = y.power_mode_unanswered;
}

abbrev pub is_done : DspStep → Bool
is_done WaitStatus = false
is_done WaitDspQuery = false
is_done WaitDevInfo = false
is_done WaitProdInfo0 = false
is_done WaitProdInfo1 = false
is_done WaitProdInfo2 = false
is_done WaitConfig = false
is_done WaitPowerMode = false
is_done Done = true

abbrev pub finished : DspSequencer → Result DspSync Refusal
finished s = judged (outcome (lowest (result_refusals (is_done s.state.step)))) (Ok (sync_of s.state.replies)) (λ r. Err r)

-- ---- the kept nack

abbrev pub with_nack : Option Nack → DspReplies → DspReplies
with_nack n y = record {
  status = y.status;
  hw_info = y.hw_info;
  dev_info = y.dev_info;
  prod_info = y.prod_info;
  config = y.config;
  refused = n;
  power_mode_unanswered = y.power_mode_unanswered;
}

abbrev pub taken : DspSequencer → DspTaken
taken s = record {
  refused = s.state.replies.refused;
  seq = record {
    state = record { step = s.state.step; replies = with_nack None s.state.replies; deadline = s.state.deadline };
    last = s.last;
    ticks = s.ticks;
  };
}

-- ---- the text of its sheet

abbrev pub sheet_of : DspSequencer → List ℕ
sheet_of s = sheet StartUp.Dsp (kept s.ticks)
