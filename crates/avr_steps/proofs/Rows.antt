-- What an event comes to: a status, a check where a poll is due or none is, and the configuration on each model.
-- Assumes nothing.
use mathlib.Core.Path.{◌≡◌}
use mathlib.Core.Bool.{true, false}
use Rattle.std.specs.Prelude.{ℕ, List, [], ℤ, Some, None}
use Rattle.protocol.specs.declared.Action.{Action}
use Rattle.protocol.specs.declared.AvrStatus.{AvrStatus}
use Rattle.protocol.specs.declared.BusAddr.{BusAddr}
use Rattle.protocol.specs.declared.Command.{Command}
use Rattle.protocol.specs.declared.Message.{Message}
use Rattle.protocol.specs.Action.{send_to}
use Rattle.requests.specs.Requests.{cal_data_req}
use Rattle.device.specs.Model.{has_factory_cal}
use Rattle.sequence.specs.declared.Moved.{Moved}
use Rattle.sequence.specs.Events.{checked}
use Rattle.sequence.specs.Rows.{reached, deadline_at}
use Rattle.avr_table.specs.declared.AvrStep.{AvrStep}
use Rattle.avr_table.specs.declared.AvrStep.TheVariants.{WaitConfig, WaitFactoryCal, WaitIfCal}
use Rattle.avr_table.specs.Stores.{status_poll}
use Rattle.avr_table.specs.Table.{row, next, request, status_row}
use Rattle.avr_steps.specs.declared.AvrState.{AvrState}
use Rattle.avr_steps.specs.Answers.{advance, answered, sends, with_repoll, sent, arm_at, poll_at}

-- a status is stored, and no poll is pending then
pub status_heard : (s : AvrState) (k : AvrStep) (m : Message) (a : AvrStatus) (t : ℕ) → m ≡ Message.AvrStatus a
    → record {
      action = request k 0;
      state = record {
        step = k;
        model = s.model;
        replies = record {
          status = Some a;
          dev_info = s.replies.dev_info;
          config = s.replies.config;
          factory_cal = s.replies.factory_cal;
          if_cal = s.replies.if_cal;
          avr_config = s.replies.avr_config;
        };
        cal_deadline = s.cal_deadline;
        repoll_at = None;
      };
      ticked = true;
    } ≡ poll_at (status_row (request k 0)) k s (sent 0 m [] [] [] t 0)
status_heard s k m a t h = rw h

-- no poll is due: the row decides
pub not_polled : (s : AvrState) (t : ℕ) → reached s.repoll_at t ≡ false → advance s (checked t) ≡ answered s (checked t)
not_polled s t h = rw h

-- one is due: it is sent, and pending no more
pub polled : (s : AvrState) (t : ℕ) → reached s.repoll_at t ≡ true → sends status_poll (with_repoll s None) ≡ answered s (checked t)
polled s t h = rw h

-- a calibration is asked for by a, and waited for at step k, once the configuration has come
abbrev asked : Action → AvrStep → AvrState → List ℤ → ℕ → Moved AvrState
asked a k s ps t = record {
  action = Some a;
  state = record {
    step = k;
    model = s.model;
    replies = record {
      status = s.replies.status;
      dev_info = s.replies.dev_info;
      config = Some (record { params = ps });
      factory_cal = s.replies.factory_cal;
      if_cal = s.replies.if_cal;
      avr_config = s.replies.avr_config;
    };
    cal_deadline = deadline_at t 2_000_000_000;
    repoll_at = s.repoll_at;
  };
  ticked = true;
}

-- the factory's, where the model has one
pub with_factory_cal : (s : AvrState) (m : Message) (ps : List ℤ) (t : ℕ) → m ≡ Message.ConfigResp → has_factory_cal s.model ≡ true
    → asked cal_data_req WaitFactoryCal s ps t
    ≡ arm_at (row s.model WaitConfig) (next s.model WaitConfig) (row s.model (next s.model WaitConfig)) s (sent 0 m ps [] [] t 0)
with_factory_cal s m ps t k h = rw (k, h)

-- and else the other
pub without_factory_cal : (s : AvrState) (m : Message) (ps : List ℤ) (t : ℕ) → m ≡ Message.ConfigResp → has_factory_cal s.model ≡ false
    → asked (send_to BusAddr.Avr Command.CalParamReq) WaitIfCal s ps t
    ≡ arm_at (row s.model WaitConfig) (next s.model WaitConfig) (row s.model (next s.model WaitConfig)) s (sent 0 m ps [] [] t 0)
without_factory_cal s m ps t k h = rw (k, h)
