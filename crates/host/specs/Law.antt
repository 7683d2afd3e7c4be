-- Where nothing stands beside an absent record, Beside.antt adds nothing: each call tells what the call that it stands for answers, and no more. So it
-- is of what the library writes (`dsp_out` and its like); and so of every state that calls made, since a new one and what an accepted call of such a
-- state gives are written by it, and a refused call gives back what it was handed. Definitions only.
-- Assumes nothing.
use Rattle.std.specs.Prelude.{ℕ, ◌≡◌, Bool, false, List, [], None, Result, Ok, Err}
use Rattle.protocol.specs.declared.Refusal.{Refusal}
use Rattle.protocol.specs.Refusals.{number}
use Rattle.dsp.specs.declared.DspSequencer.{DspSequencer}
use Rattle.dsp.specs.declared.DspSync.{DspSync}
use Rattle.dsp.specs.Answers as dsp
use Rattle.avr.specs.declared.AvrSequencer.{AvrSequencer}
use Rattle.avr.specs.declared.AvrSync.{AvrSync}
use Rattle.avr.specs.Answers as avr
use Rattle.pi.specs.declared.PiSequencer.{PiSequencer}
use Rattle.pi.specs.declared.PiSync.{PiSync}
use Rattle.pi.specs.Answers as pi
use Rattle.avr_config.specs.declared.AvrConfigSequencer.{AvrConfigSequencer}
use Rattle.avr_config.specs.Answers as config
use Rattle.abi_values.specs.Options.{instant_out, dev_info_out, config_out}
use Rattle.abi_messages.specs.declared.CEnvelope.{CEnvelope}
use Rattle.abi_messages.specs.Messages.{envelope_in}
use Rattle.abi.specs.Settings.{radar_cal_out}
use Rattle.abi_dsp.specs.declared.CDsp.{CDsp}
use Rattle.abi_dsp.specs.State.{nack_out, status_out, hw_info_out, dsp_in, dsp_out}
use Rattle.abi_avr.specs.declared.CAvrReplies.{CAvrReplies}
use Rattle.abi_avr.specs.declared.CAvr.{CAvr}
use Rattle.abi_avr.specs.State as avr_state
use Rattle.abi_avr.specs.State.{stored_out, avr_in, avr_out}
use Rattle.abi_pi.specs.declared.CPi.{CPi}
use Rattle.abi_pi.specs.State.{cam_config_out, pi_in, pi_out}
use Rattle.abi_avr_config.specs.declared.CAvrConfig.{CAvrConfig}
use Rattle.abi_avr_config.specs.State.{avr_config_in, avr_config_out}
use Rattle.host.specs.declared.c_dsp.CDspFinished.{CDspFinished}
use Rattle.host.specs.declared.c_avr.CAvrFinished.{CAvrFinished}
use Rattle.host.specs.declared.c_pi.CPiFinished.{CPiFinished}
use Rattle.host.specs.Sends.{unknown, known, both, opened}
use Rattle.host.specs.Fed.{answered, alone, declined}
use Rattle.host.specs.Beside.{plain}
use Rattle.host.specs.Timed.{dsp_fed, dsp_feed, dsp_check, dsp_sync, no_dsp_result, dsp_result, dsp_take, avr_fed, avr_feed, avr_check, avr_sync, no_avr_result, avr_result}
use Rattle.host.specs.Untimed.{pi_fed, pi_feed, no_pi_result, pi_result, avr_config_fed, avr_config_feed}

-- ---- nothing beside an absent record: it is the one that the library writes

abbrev pub Bare : {C : Type 0} → Bool → C → C → Type 0
Bare there c empty = there ≡ false → c ≡ empty

-- of what a result tells; of the DSP's status the record of its own layout is looked at alone
pub record DspTold (c : CDsp) : Type 0 where
  pub status : Bare c.status.some (record { some = false; value = plain c.status.value; payload = c.status.payload }) (status_out None)
  pub hw_info : Bare c.hw_info.some c.hw_info (hw_info_out None)
  pub dev_info : Bare c.dev_info.some c.dev_info (dev_info_out None)
  pub config : Bare c.config.some c.config (config_out None)

pub record DspBare (c : CDsp) : Type 0 where
  pub told : DspTold c
  pub refused : Bare c.refused.some c.refused (nack_out None)
  pub deadline : Bare c.deadline.some c.deadline (instant_out None)

pub record AvrTold (c : CAvrReplies) : Type 0 where
  pub status : Bare c.status.some c.status (avr_state.status_out None)
  pub dev_info : Bare c.dev_info.some c.dev_info (dev_info_out None)
  pub config : Bare c.config.some c.config (config_out None)
  pub factory_cal : Bare c.factory_cal.some c.factory_cal (stored_out None)
  pub if_cal : Bare c.if_cal.some c.if_cal (stored_out None)
  pub avr_config : Bare c.avr_config.some c.avr_config (stored_out None)

pub record AvrBare (c : CAvr) : Type 0 where
  pub told : AvrTold c.replies
  pub cal_deadline : Bare c.cal_deadline.some c.cal_deadline (instant_out None)
  pub repoll_at : Bare c.repoll_at.some c.repoll_at (instant_out None)

pub record PiBare (c : CPi) : Type 0 where
  pub dev_info : Bare c.replies.dev_info.some c.replies.dev_info (dev_info_out None)
  pub cam_config : Bare c.replies.cam_config.some c.replies.cam_config (cam_config_out None)

abbrev pub AvrConfigBare : CAvrConfig → Type 0
AvrConfigBare c = Bare c.settings.radar_cal.some c.settings.radar_cal (radar_cal_out None)

-- ---- a result alone

abbrev pub dsp_told : Result DspSync Refusal → CDspFinished
dsp_told (Ok s) = record { refusal = 0; sync = dsp_sync s }
dsp_told (Err r) = no_dsp_result (number r)

abbrev pub avr_told : Result AvrSync Refusal → CAvrFinished
avr_told (Ok s) = record { refusal = 0; sync = avr_sync s }
avr_told (Err r) = no_avr_result (number r)

abbrev pub pi_told : Result PiSync Refusal → CPiFinished
pi_told (Ok s) = record { refusal = 0; sync = s }
pi_told (Err r) = no_pi_result (number r)

-- ---- each call, and what the library writes

pub record NothingBeside : Type 0 where
  pub of_dsp_feed : (c : CDsp) (e : CEnvelope) (text payload : List ℕ) (t : ℕ) → DspBare c
      → dsp_feed c e text payload t
      ≡ dsp_fed (both (dsp_in c) (envelope_in e) (λ s v. answered dsp_out alone (dsp.fed_to s (opened v v.params text payload) t) c) (declined c))
  pub of_dsp_check : (c : CDsp) (t : ℕ) → DspBare c → dsp_check c t ≡ dsp_fed (known (dsp_in c) (λ s. answered dsp_out alone (dsp.polled s t) c) (declined c))
  pub of_dsp_result : (c : CDsp) → DspTold c → dsp_result c ≡ known (dsp_in c) (λ s. dsp_told (dsp.finished s)) (no_dsp_result unknown)
  pub of_dsp_take : (c : CDsp) → DspBare c
      → dsp_take c
      ≡ known (dsp_in c) (λ s. record { refusal = 0; refused = nack_out (dsp.taken s).refused; seq = dsp_out (dsp.taken s).seq })
      (record { refusal = unknown; refused = nack_out None; seq = c })
  pub of_avr_feed : (c : CAvr) (e : CEnvelope) (text payload : List ℕ) (t wall : ℕ) → AvrBare c
      → avr_feed c e text payload t wall
      ≡ avr_fed (both (avr_in c) (envelope_in e)
      (λ s v. answered avr_out alone (avr.fed_to s (record { envelope = opened v v.params text payload; wall = wall }) t) c) (declined c))
  pub of_avr_check : (c : CAvr) (t : ℕ) → AvrBare c → avr_check c t ≡ avr_fed (known (avr_in c) (λ s. answered avr_out alone (avr.polled s t) c) (declined c))
  pub of_avr_result : (c : CAvr) → AvrTold c.replies → avr_result c ≡ known (avr_in c) (λ s. avr_told (avr.finished s)) (no_avr_result unknown)
  pub of_pi_feed : (c : CPi) (e : CEnvelope) (text payload : List ℕ) → PiBare c
      → pi_feed c e text payload ≡ pi_fed (both (pi_in c) (envelope_in e) (λ s v. answered pi_out alone (pi.fed_to s (opened v [] text payload)) c) (declined c))
  pub of_pi_result : (c : CPi) → PiBare c → pi_result c ≡ known (pi_in c) (λ s. pi_told (pi.finished s)) (no_pi_result unknown)
  pub of_avr_config_feed : (c : CAvrConfig) (e : CEnvelope) (text payload : List ℕ) → AvrConfigBare c
      → avr_config_feed c e text payload
      ≡ avr_config_fed (both (avr_config_in c) (envelope_in e) (λ s v. answered avr_config_out alone (config.fed_to s (opened v [] text payload)) c) (declined c))
  pub made_by_dsp : (s : DspSequencer) → DspBare (dsp_out s)
  pub made_by_avr : (s : AvrSequencer) → AvrBare (avr_out s)
  pub made_by_pi : (s : PiSequencer) → PiBare (pi_out s)
  pub made_by_avr_config : (s : AvrConfigSequencer) → AvrConfigBare (avr_config_out s)
