-- What a host's calls of the sequences without a clock answer: as the call itself, of the state and the envelope that the numbers stand for.
-- A call that is refused gives back the state that was handed in; numbers that no case has are refused with 21. Definitions only.
-- Assumes nothing.
use Rattle.std.specs.Prelude.{ℕ, cond, List, [], ltb, Result, Ok, Err}
use Rattle.protocol.specs.declared.Refusal.{Refusal}
use Rattle.protocol.specs.Refusals.{number}
use Rattle.settings.specs.Settings.{mode_only}
use Rattle.device.specs.declared.model.DeviceModel.{DeviceModel}
use Rattle.device.specs.Model.{mevo}
use Rattle.sequence.specs.Rows.{refused}
use Rattle.pi.specs.declared.PiSync.{PiSync}
use Rattle.pi.specs.Answers as pi
use Rattle.avr_config.specs.declared.AvrConfigSequencer.{AvrConfigSequencer}
use Rattle.avr_config.specs.Answers as config
use Rattle.arm.specs.Answers as arm
use Rattle.disarm.specs.Answers as disarm
use Rattle.abi_messages.specs.declared.CEnvelope.{CEnvelope}
use Rattle.abi_messages.specs.Messages.{envelope_in}
use Rattle.abi.specs.declared.config.CSettings.{CSettings}
use Rattle.abi.specs.Settings.{settings_in}
use Rattle.abi_pi.specs.declared.CPiReplies.{CPiReplies}
use Rattle.abi_pi.specs.declared.CPi.{CPi}
use Rattle.abi_avr_config.specs.declared.CAvrConfig.{CAvrConfig}
use Rattle.abi_arm.specs.declared.CArm.{CArm}
use Rattle.abi_disarm.specs.declared.CDisarm.{CDisarm}
use Rattle.abi_pi.specs.State.{pi_in, pi_out}
use Rattle.abi_avr_config.specs.State.{avr_config_in, avr_config_out}
use Rattle.abi_arm.specs.State.{arm_in, arm_out}
use Rattle.abi_disarm.specs.State.{disarm_in, disarm_out}
use Rattle.host.specs.declared.c_pi.CPiFed.{CPiFed}
use Rattle.host.specs.declared.c_pi.CPiFinished.{CPiFinished}
use Rattle.host.specs.declared.c_avr_config.CAvrConfigFed.{CAvrConfigFed}
use Rattle.host.specs.declared.c_arm.CArmFed.{CArmFed}
use Rattle.host.specs.declared.c_arm.CRetries.{CRetries}
use Rattle.host.specs.declared.c_disarm.CDisarmFed.{CDisarmFed}
use Rattle.host.specs.Sends.{unknown, known, both, opened}
use Rattle.host.specs.Fed.{first, answered, alone, declined}
use Rattle.host.specs.Beside.{beside, pi_beside, avr_config_beside}
use Rattle.host.specs.declared.fed.Fed.{Fed}

-- ---- Pi

abbrev pub pi_fed : Fed CPi → CPiFed
pi_fed f = record { refusal = f.refusal; action = f.action; seq = f.seq }

abbrev pub pi_new : CPiFed
pi_new = pi_fed (first pi_out pi.begun)

abbrev pub pi_feed : CPi → CEnvelope → List ℕ → List ℕ → CPiFed
pi_feed c e text payload = pi_fed (both (pi_in c) (envelope_in e) (λ s v. answered pi_out pi_beside (pi.fed_to s (opened v [] text payload)) c) (declined c))

-- beside a refusal stands what a new start-up has, which is empty
abbrev pub no_pi_result : ℕ → CPiFinished
no_pi_result n = record { refusal = n; sync = pi.sync_of (pi.begun).seq.replies }

-- of a state that was handed in; what stands in it beside a record that is told as absent stands in the result
abbrev pub pi_sync_beside : PiSync → CPiReplies → PiSync
pi_sync_beside n c = record {
  dev_info = beside c.dev_info.some n.dev_info c.dev_info.value;
  cam_config = beside c.cam_config.some n.cam_config c.cam_config.value;
  ssid = n.ssid;
  password = n.password;
}

abbrev pub pi_finished : Result PiSync Refusal → CPi → CPiFinished
pi_finished (Ok s) c = record { refusal = 0; sync = pi_sync_beside s c.replies }
pi_finished (Err r) c = no_pi_result (number r)

abbrev pub pi_result : CPi → CPiFinished
pi_result c = known (pi_in c) (λ s. pi_finished (pi.finished s) c) (no_pi_result unknown)

-- ---- settings run

abbrev pub avr_config_fed : Fed CAvrConfig → CAvrConfigFed
avr_config_fed f = record { refusal = f.refusal; action = f.action; seq = f.seq }

-- a run with mode 0, no parameters and no calibration
abbrev pub no_run : AvrConfigSequencer
no_run = (config.begun (mode_only 0)).seq

-- a count above 32 is told before a format that there is not; beside either stands that run
abbrev pub avr_config_new : CSettings → CAvrConfigFed
avr_config_new s =
    avr_config_fed (cond (ltb 32 s.len) (first avr_config_out (refused no_run Refusal.TooManyParams))
    (known (settings_in s) (λ v. first avr_config_out (config.begun v)) (declined (avr_config_out no_run))))

abbrev pub avr_config_feed : CAvrConfig → CEnvelope → List ℕ → List ℕ → CAvrConfigFed
avr_config_feed c e text payload =
    avr_config_fed (both (avr_config_in c) (envelope_in e) (λ s v. answered avr_config_out avr_config_beside (config.fed_to s (opened v [] text payload)) c) (declined c))

-- ---- arm

abbrev pub arm_fed : Fed CArm → CArmFed
arm_fed f = record { refusal = f.refusal; action = f.action; seq = f.seq }

abbrev pub arm_new : CArmFed
arm_new = arm_fed (first arm_out (arm.begun mevo))

abbrev pub arm_new_for : DeviceModel → CArmFed
arm_new_for model = arm_fed (first arm_out (arm.begun model))

abbrev pub arm_feed : CArm → CEnvelope → List ℕ → List ℕ → CArmFed
arm_feed c e text payload = arm_fed (both (arm_in c) (envelope_in e) (λ s v. answered arm_out alone (arm.fed_to s (opened v [] text payload)) c) (declined c))

abbrev pub arm_retries : CArm → CRetries
arm_retries c = known (arm_in c) (λ s. record { refusal = 0; retries = s.retries }) (record { refusal = unknown; retries = 0 })

-- ---- disarm

abbrev pub disarm_fed : Fed CDisarm → CDisarmFed
disarm_fed f = record { refusal = f.refusal; action = f.action; seq = f.seq }

abbrev pub disarm_new : CDisarmFed
disarm_new = disarm_fed (first disarm_out disarm.begun)

abbrev pub disarm_feed : CDisarm → CEnvelope → List ℕ → List ℕ → CDisarmFed
disarm_feed c e text payload =
    disarm_fed (both (disarm_in c) (envelope_in e) (λ s v. answered disarm_out alone (disarm.fed_to s (opened v [] text payload)) c) (declined c))
