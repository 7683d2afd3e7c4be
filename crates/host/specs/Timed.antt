-- What a host's calls of the sequences with a clock answer, as Untimed has it for the others. Definitions only.
-- Assumes nothing.
use Rattle.std.specs.Prelude.{ℕ, true, false, List, Option, Some, None, Result, Ok, Err}
use Rattle.protocol.specs.declared.Refusal.{Refusal}
use Rattle.protocol.specs.Refusals.{number}
use Rattle.device.specs.declared.model.DeviceModel.{DeviceModel}
use Rattle.device.specs.Model.{mevo}
use Rattle.dsp.specs.declared.DspSync.{DspSync}
use Rattle.dsp.specs.Answers as dsp
use Rattle.avr.specs.declared.AvrSync.{AvrSync}
use Rattle.avr.specs.Answers as avr
use Rattle.abi_messages.specs.declared.CEnvelope.{CEnvelope}
use Rattle.abi_messages.specs.Messages.{envelope_in, dsp_status_out}
use Rattle.abi_dsp.specs.declared.CDsp.{CDsp}
use Rattle.abi_avr.specs.declared.CAvrReplies.{CAvrReplies}
use Rattle.abi_avr.specs.declared.CAvr.{CAvr}
use Rattle.abi_dsp.specs.State.{nack_out, hw_info_out, dsp_in, dsp_out}
use Rattle.abi_avr.specs.State.{factory_cal_out, if_cal_out, avr_config_out, avr_in, avr_out}
use Rattle.host.specs.declared.c_dsp.CDspFed.{CDspFed}
use Rattle.host.specs.declared.c_dsp.COptionPlace.{COptionPlace}
use Rattle.host.specs.declared.c_dsp.CDspSync.{CDspSync}
use Rattle.host.specs.declared.c_dsp.CDspFinished.{CDspFinished}
use Rattle.host.specs.declared.c_dsp.CDspTaken.{CDspTaken}
use Rattle.host.specs.declared.c_avr.CAvrFed.{CAvrFed}
use Rattle.host.specs.declared.c_avr.CAvrSync.{CAvrSync}
use Rattle.host.specs.declared.c_avr.CAvrFinished.{CAvrFinished}
use Rattle.host.specs.Sends.{unknown, known, both, opened}
use Rattle.host.specs.Fed.{first, answered, declined}
use Rattle.host.specs.Beside.{beside, plain, dsp_beside, avr_beside}
use Rattle.host.specs.declared.fed.Fed.{Fed}

-- ---- DSP

abbrev pub dsp_fed : Fed CDsp → CDspFed
dsp_fed f = record { refusal = f.refusal; action = f.action; seq = f.seq }

abbrev pub dsp_new : CDspFed
dsp_new = dsp_fed (first dsp_out dsp.begun)

abbrev pub dsp_feed : CDsp → CEnvelope → List ℕ → List ℕ → ℕ → CDspFed
dsp_feed c e text payload t =
    dsp_fed (both (dsp_in c) (envelope_in e) (λ s v. answered dsp_out dsp_beside (dsp.fed_to s (opened v v.params text payload) t) c) (declined c))

abbrev pub dsp_check : CDsp → ℕ → CDspFed
dsp_check c t = dsp_fed (known (dsp_in c) (λ s. answered dsp_out dsp_beside (dsp.polled s t) c) (declined c))

-- of a tag; beside an absent one stands 0
abbrev pub place_out : Option ℕ → COptionPlace
place_out (Some i) = record { some = true; value = i }
place_out None = record { some = false; value = 0 }

abbrev pub dsp_sync : DspSync → CDspSync
dsp_sync s = record {
  status = dsp_status_out s.status;
  status_payload = s.status_payload;
  hw_info = hw_info_out s.hw_info;
  dev_info = s.dev_info;
  prod_info = s.prod_info;
  config = s.config;
  model = s.model;
  tag_place = place_out s.tag_place;
  power_mode_unanswered = s.power_mode_unanswered;
}

-- beside a refusal stands what a new start-up has, which is empty
abbrev pub no_dsp_result : ℕ → CDspFinished
no_dsp_result n = record { refusal = n; sync = dsp_sync (dsp.sync_of (dsp.begun).seq.state.replies) }

-- of a state that was handed in; what stands in it beside a record that is told as absent stands in the result
abbrev pub dsp_sync_beside : CDspSync → CDsp → CDspSync
dsp_sync_beside n c = record {
  status = beside c.status.some n.status (plain c.status.value);
  status_payload = beside c.status.some n.status_payload c.status.payload;
  hw_info = beside c.hw_info.some n.hw_info c.hw_info;
  dev_info = beside c.dev_info.some n.dev_info c.dev_info.value;
  prod_info = n.prod_info;
  config = beside c.config.some n.config c.config.value;
  model = n.model;
  tag_place = n.tag_place;
  power_mode_unanswered = n.power_mode_unanswered;
}

abbrev pub dsp_finished : Result DspSync Refusal → CDsp → CDspFinished
dsp_finished (Ok s) c = record { refusal = 0; sync = dsp_sync_beside (dsp_sync s) c }
dsp_finished (Err r) c = no_dsp_result (number r)

abbrev pub dsp_result : CDsp → CDspFinished
dsp_result c = known (dsp_in c) (λ s. dsp_finished (dsp.finished s) c) (no_dsp_result unknown)

-- with no nack, and nothing beside it
abbrev pub without_nack : CDsp → CDsp
without_nack c = record {
  step = c.step;
  status = c.status;
  hw_info = c.hw_info;
  dev_info = c.dev_info;
  prod_info = c.prod_info;
  config = c.config;
  refused = nack_out None;
  power_mode_unanswered = c.power_mode_unanswered;
  deadline = c.deadline;
  last = c.last;
  ticks = c.ticks;
}

-- the nack as it stands in the state, whether there is one or not
abbrev pub dsp_take : CDsp → CDspTaken
dsp_take c =
    known (dsp_in c)
    (λ s. record {
      refusal = 0;
      refused = beside c.refused.some (nack_out (dsp.taken s).refused) c.refused;
      seq = without_nack (dsp_beside (dsp_out (dsp.taken s).seq) c);
    })
    (record { refusal = unknown; refused = nack_out None; seq = c })

-- ---- AVR

abbrev pub avr_fed : Fed CAvr → CAvrFed
avr_fed f = record { refusal = f.refusal; action = f.action; seq = f.seq }

abbrev pub avr_new : CAvrFed
avr_new = avr_fed (first avr_out (avr.begun mevo))

abbrev pub avr_new_for : DeviceModel → CAvrFed
avr_new_for model = avr_fed (first avr_out (avr.begun model))

abbrev pub avr_feed : CAvr → CEnvelope → List ℕ → List ℕ → ℕ → ℕ → CAvrFed
avr_feed c e text payload t wall =
    avr_fed (both (avr_in c) (envelope_in e)
    (λ s v. answered avr_out avr_beside (avr.fed_to s (record { envelope = opened v v.params text payload; wall = wall }) t) c) (declined c))

abbrev pub avr_check : CAvr → ℕ → CAvrFed
avr_check c t = avr_fed (known (avr_in c) (λ s. answered avr_out avr_beside (avr.polled s t) c) (declined c))

abbrev pub avr_sync : AvrSync → CAvrSync
avr_sync s = record {
  status = s.status;
  dev_info = s.dev_info;
  config = s.config;
  factory_cal = factory_cal_out s.factory_cal;
  if_cal = if_cal_out s.if_cal;
  avr_config = avr_config_out s.avr_config;
}

abbrev pub no_avr_result : ℕ → CAvrFinished
no_avr_result n = record { refusal = n; sync = avr_sync (avr.sync_of (avr.begun mevo).seq.state.replies) }

abbrev pub avr_sync_beside : CAvrSync → CAvrReplies → CAvrSync
avr_sync_beside n c = record {
  status = beside c.status.some n.status c.status.value;
  dev_info = beside c.dev_info.some n.dev_info c.dev_info.value;
  config = beside c.config.some n.config c.config.value;
  factory_cal = beside c.factory_cal.some n.factory_cal c.factory_cal;
  if_cal = beside c.if_cal.some n.if_cal c.if_cal;
  avr_config = beside c.avr_config.some n.avr_config c.avr_config;
}

abbrev pub avr_finished : Result AvrSync Refusal → CAvr → CAvrFinished
avr_finished (Ok s) c = record { refusal = 0; sync = avr_sync_beside (avr_sync s) c.replies }
avr_finished (Err r) c = no_avr_result (number r)

abbrev pub avr_result : CAvr → CAvrFinished
avr_result c = known (avr_in c) (λ s. avr_finished (avr.finished s) c) (no_avr_result unknown)
