-- Sends with fields. Those that a sequence makes of its own records (ProdInfoReq, ParamValue, ModeSet, RadarCal) stand with it. Definitions only.
-- Assumes nothing.
use Rattle.std.specs.Prelude.{ℕ, ◌%◌, Bool, [], ◌∷◌, replicate}
use Rattle.protocol.specs.declared.BusAddr.{BusAddr}
use Rattle.protocol.specs.declared.Command.{Command}
use Rattle.protocol.specs.declared.Action.{Action}
use Rattle.protocol.specs.Action.{send_to}

abbrev pub status_poll : Bool → BusAddr → Action
status_poll pi d = send_to d (Command.StatusPoll (record { pi_mode = pi }))

abbrev pub param_read_req : ℕ → BusAddr → Action
param_read_req id d = send_to d (Command.ParamReadReq (record { param_id = id }))

abbrev pub net_config_req : Bool → Action
net_config_req password = send_to BusAddr.Pi (Command.NetConfigReq (record { query_password = password }))

-- the factory calibration is asked for with ten bytes
abbrev pub cal_data_req : Action
cal_data_req = record {
  command = Command.CalDataReq (record { sub_cmd = 0x03 });
  dest = BusAddr.Avr;
  payload = 0x09 ∷ 0x00 ∷ 0x00 ∷ 0x03 ∷ 0x00 ∷ 0x00 ∷ 0x00 ∷ 0x00 ∷ 0x00 ∷ 0xA5 ∷ [];
  tail = replicate 2 0;
}

-- the wall seconds as 32 bits hold them
abbrev pub time_sync : ℕ → Action
time_sync wall = record {
  command = Command.TimeSync (record { epoch = wall % 4_294_967_296; session = 0 });
  dest = BusAddr.Avr;
  payload = replicate 10 0;
  tail = 0x00 ∷ 0x01 ∷ [];
}

-- arm true arms the unit, arm false opens or commits a configuration: a commit
abbrev pub avr_config_cmd : Bool → Action
avr_config_cmd arm = send_to BusAddr.Avr (Command.AvrConfigCmd (record { arm = arm }))
