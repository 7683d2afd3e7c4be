-- The starred trials of the scope (docs/SCOPE.md, "Trials"), one row each: what the definitions that the contracts cite answer, and what the scope
-- says. Proved as a whole, as the contract of `starred_trials`.
-- Assumes nothing.
use Rattle.std.specs.Prelude.{true, false, List, [], ◌∷◌, ℕ, Option, Some, None, Result, Ok, codes}
use Rattle.protocol.specs.declared.BusAddr.{BusAddr}
use Rattle.protocol.specs.declared.DspStatus.{DspStatus}
use Rattle.protocol.specs.declared.Command.{Command}
use Rattle.protocol.specs.declared.Message.{Message}
use Rattle.protocol.specs.declared.Action.{Action}
use Rattle.protocol.specs.declared.Refusal.{Refusal}
use Rattle.protocol.specs.declared.Stored.{Stored}
use Rattle.protocol.specs.Stored.{stored}
use Rattle.protocol.specs.Action.{send_to}
use Rattle.device.specs.declared.model.DeviceModel.{DeviceModel}
use Rattle.device.specs.Model.{model_of, mevo, xi}
use Rattle.device.specs.Sends.{result_ack}
use Rattle.protocol.specs.Carried.{no_avr_status}
use Rattle.sequence.specs.Events.{Envelope, Event, fed, plain}
use Rattle.avr_table.specs.Stores.{Dated}
use Rattle.avr.specs.declared.AvrSequencer.{AvrSequencer}
use Rattle.avr.specs.Answers as avr
use Rattle.pi_table.specs.Stores.{ssid_in, password_in}
use Rattle.arm_steps.specs.declared.ArmStep.{ArmStep}
use Rattle.arm.specs.declared.ArmSequencer.{ArmSequencer}
use Rattle.arm.specs.Answers as arm
use Rattle.dsp.specs.declared.DspSequencer.{DspSequencer}
use Rattle.dsp.specs.Answers.{begun, fed_to, polled}

-- what a call can answer
pub data Answer : Type 0 where
  model : DeviceModel → Answer
  action : Option Action → Answer
  outcome : Result (Option Action) Refusal → Answer
  bytes : Stored → Answer
  arming : ArmStep → Answer

pub record Trial : Type 0 where
  pub answered : Answer
  pub said : Answer

abbrev trial : Answer → Answer → Trial
trial a s = record { answered = a; said = s }

-- an acknowledgement of this command, from the app to the Avr
abbrev ack : ℕ → Action
ack c = send_to BusAddr.Avr (Command.ConfigAck (record { bus_addr = 0x10; acked_cmd = c }))

-- a DSP status of a Gen2, and the start-up after it came at 5,000,000,000 ns
abbrev dsp_status : Envelope
dsp_status = record {
  src = BusAddr.Dsp;
  type_id = 0xAA;
  message = Message.DspStatus (DspStatus.V46 (record { state = 1; version = 0x46 }));
  params = [];
  text = [];
  payload = [];
}

abbrev waiting : DspSequencer
waiting = (fed_to begun.seq dsp_status 5_000_000_000).seq

-- a status poll refused by the Avr, and a Mevo's start-up after it was twice, at 1,000,000,000 and 1,500,000,000 ns
abbrev nack : Dated
nack = record {
  envelope = record {
    src = BusAddr.Avr;
    type_id = 0x94;
    message = Message.ConfigNack (record { bus_addr = 0x30; acked_cmd = 0x2A });
    params = [];
    text = [];
    payload = [];
  };
  wall = 0;
}

abbrev refused : AvrSequencer
refused = (avr.fed_to (avr.fed_to (avr.begun mevo).seq nack 1_000_000_000).seq nack 1_500_000_000).seq

-- a network text
abbrev network : List ℕ → Event Envelope
network text = fed (record { src = BusAddr.Pi; type_id = 0xDE; message = Message.NetConfigResp; params = []; text = text; payload = [] }) 0

-- an arm of a Xi at its last step, and a text that comes then
abbrev last_step : ArmSequencer
last_step =
    let fed : ArmSequencer → Message → BusAddr → ArmSequencer = λ s m b. (arm.fed_to s (plain b m [])).seq in
    fed
    (fed (fed (arm.begun xi).seq dsp_status.message BusAddr.Dsp) (Message.AvrStatus no_avr_status) BusAddr.Avr)
    (Message.ConfigAck (record { bus_addr = 0x30; acked_cmd = 0x30 }))
    BusAddr.Avr

abbrev said : List ℕ → ArmStep
said text = (arm.fed_to last_step (plain BusAddr.Avr Message.Text text)).seq.step

abbrev pub starred : List Trial
starred =
    -- payload "FS Xi": Xi
    trial (model (model_of (codes "FS Xi"))) (model xi) ∷
    -- "FS X": Mevo
    trial (model (model_of (codes "FS X"))) (model mevo) ∷
    -- "abFS Xi": Xi
    trial (model (model_of (codes "abFS Xi"))) (model xi) ∷
    -- Xi, Avr, 0xD4: ack 0x54
    trial (action (result_ack xi BusAddr.Avr 0xD4)) (action (Some (ack 0x54))) ∷
    -- 0xE8: ack 0x68
    trial (action (result_ack xi BusAddr.Avr 0xE8)) (action (Some (ack 0x68))) ∷
    -- Mevo: no ack
    trial (action (result_ack mevo BusAddr.Avr 0xD4)) (action None) ∷
    trial (action (result_ack mevo BusAddr.Avr 0xE8)) (action None) ∷
    -- DSP status at 5,000,000,000; check at 6,999,999,999: nothing
    trial (outcome (polled waiting 6_999_999_999).outcome) (outcome (Ok None)) ∷
    -- at 7,000,000,000: DevInfoReq
    trial (outcome (polled (polled waiting 6_999_999_999).seq 7_000_000_000).outcome) (outcome (Ok (Some (send_to BusAddr.Dsp Command.DevInfoReq)))) ∷
    -- AVR nacks 0x2A at 1,000,000,000 and 1,500,000,000; check at 2,000,000,000: one poll
    trial (outcome (avr.polled refused 2_000_000_000).outcome) (outcome (Ok (Some (send_to BusAddr.Avr (Command.StatusPoll (record { pi_mode = false })))))) ∷
    -- again: nothing
    trial (outcome (avr.polled (avr.polled refused 2_000_000_000).seq 2_000_000_000).outcome) (outcome (Ok None)) ∷
    -- network text a,0,b,0,c: ssid a; password b,0,c
    trial (bytes (ssid_in (network (codes "a\0b\0c")))) (bytes (stored (codes "a"))) ∷
    trial (bytes (password_in (network (codes "a\0b\0c")))) (bytes (stored (codes "b\0c"))) ∷
    -- "range": ssid range, password empty
    trial (bytes (ssid_in (network (codes "range")))) (bytes (stored (codes "range"))) ∷
    trial (bytes (password_in (network (codes "range")))) (bytes (stored [])) ∷
    -- arm, last step on Xi, Text "DISARMED": not Done
    trial (arming (said (codes "DISARMED"))) (arming (ArmStep.WaitPiAndArmed true false)) ∷
    -- " ARMED", "DISARMED ARMED", "disARMED", a byte 0x89 before it: Done
    trial (arming (said (codes " ARMED"))) (arming ArmStep.Done) ∷
    trial (arming (said (codes "DISARMED ARMED"))) (arming ArmStep.Done) ∷
    trial (arming (said (codes "disARMED"))) (arming ArmStep.Done) ∷
    trial (arming (said (0x89 ∷ codes "ARMED"))) (arming ArmStep.Done) ∷
    -- "DARMEDARMED": not
    trial (arming (said (codes "DARMEDARMED"))) (arming (ArmStep.WaitPiAndArmed true false)) ∷
    -- "ARMED CANCELLED": not
    trial (arming (said (codes "ARMED CANCELLED"))) (arming (ArmStep.WaitPiAndArmed true false)) ∷
    []
