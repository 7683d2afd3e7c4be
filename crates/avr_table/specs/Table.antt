-- THE TABLE of an AVR start-up (docs/SCOPE.md, "AVR start-up"): its entries in order, each with who ticks it, what is sent then on a model, and what is
-- stored; then the steps of each model. Definitions only.
-- Assumes nothing.
use Rattle.std.specs.Prelude.{ℕ, cond, List, [], ◌∷◌, map, Option, Some, None}
use Rattle.protocol.specs.declared.BusAddr.{BusAddr}
use Rattle.protocol.specs.declared.Command.{Command}
use Rattle.protocol.specs.declared.Action.{Action}
use Rattle.protocol.specs.Action.{send_to}
use Rattle.protocol.specs.Kinds as kinds
use Rattle.device.specs.declared.model.DeviceModel.{DeviceModel}
use Rattle.device.specs.Model.{has_factory_cal}
use Rattle.matching.specs.Matching.{Table}
use Rattle.sequence.specs.Events.{Event, Wait, forever, nanos}
use Rattle.sequence.specs.Rows.{Row, test, past}
use Rattle.avr_table.specs.declared.AvrStep.{AvrStep}
use Rattle.avr_table.specs.declared.AvrStep.TheVariants.{WaitStatus1, WaitStatus2, WaitDevInfo1, WaitDevInfo2, WaitParam0C, WaitParam0D, WaitConfig, WaitFactoryCal, WaitIfCal, WaitAvrConfig, WaitParam64, WaitTimeSync, Done}
use Rattle.requests.specs.Requests.{cal_data_req, time_sync}
use Rattle.avr_table.specs.Stores.{Dated, Held, from_avr, store, status_poll, param_read_req, wall_in}

abbrev pub AvrRow : Type 0
AvrRow = Row Dated Held

-- a reply of this kind; how long it is waited for; what is sent then; the entry's number, by which it is stored
abbrev pub entry : ℕ → Wait → (Event Dated → Option Action) → ℕ → AvrRow
entry k w a n = record { reply = from_avr k; wait = w; send = a; store = store n }

-- what entries 1 and 2 have in common, then 3 and 4, then 5, 6 and 11
abbrev pub status_row : Option Action → AvrRow
status_row a = entry kinds.avr_status forever (λ e. a) 1

abbrev pub dev_info_row : Option Action → AvrRow
dev_info_row a = entry kinds.dev_info_resp forever (λ e. a) 3

abbrev pub param_row : (Event Dated → Option Action) → AvrRow
param_row a = entry kinds.param_value forever a 5

-- ---- the entries, each at the step where it is awaited

abbrev pub row : DeviceModel → AvrStep → AvrRow
-- 1. and 2. an AvrStatus, twice; then it is polled again, then the device info is asked for
row m WaitStatus1 = status_row (Some status_poll)
row m WaitStatus2 = status_row (Some (send_to BusAddr.Avr Command.DevInfoReq))
-- 3. and 4. a DevInfoResp, twice; then it is asked for again, then parameter 0x0C
row m WaitDevInfo1 = dev_info_row (Some (send_to BusAddr.Avr Command.DevInfoReq))
row m WaitDevInfo2 = dev_info_row (Some (param_read_req 0x0C))
-- 5. and 6. a ParamValue, twice; then parameter 0x0D, then the configuration is asked for
row m WaitParam0C = param_row (λ e. Some (param_read_req 0x0D))
row m WaitParam0D = param_row (λ e. Some (send_to BusAddr.Avr Command.ConfigQuery))
-- 7. a ConfigResp; then the factory calibration is asked for, or where there is none the other one
row m WaitConfig = entry kinds.config_resp forever (λ e. Some (cond (has_factory_cal m) cal_data_req (send_to BusAddr.Avr Command.CalParamReq))) 7
-- 8. with the factory calibration: a CalDataResp, or a check 2 s after entry 7; then the other calibration is asked for
row m WaitFactoryCal = entry kinds.cal_data_resp (nanos 2_000_000_000) (λ e. Some (send_to BusAddr.Avr Command.CalParamReq)) 8
-- 9. a CalParamResp, or a check 2 s after the entry before; then the settings are asked for, or without a factory calibration it is done
row m WaitIfCal = entry kinds.cal_param_resp (nanos 2_000_000_000) (λ e. cond (has_factory_cal m) (Some (send_to BusAddr.Avr Command.AvrConfigQuery)) None) 9
-- 10. to 12. with the factory calibration: an AvrConfigResp; then parameter 0x64; a ParamValue; then the time; a TimeSync; then it is done
row m WaitAvrConfig = entry kinds.avr_config_resp forever (λ e. Some (param_read_req 0x64)) 10
row m WaitParam64 = param_row (λ e. Some (time_sync (wall_in e)))
row m WaitTimeSync = entry kinds.time_sync forever (λ e. None) 12
row m Done = past

-- ---- the steps of a model's table in order, and the step after each (Done after the last)

abbrev pub steps_for : DeviceModel → List AvrStep
steps_for m =
    WaitStatus1 ∷ WaitStatus2 ∷ WaitDevInfo1 ∷ WaitDevInfo2 ∷ WaitParam0C ∷ WaitParam0D ∷ WaitConfig
    ∷ cond (has_factory_cal m) (WaitFactoryCal ∷ WaitIfCal ∷ WaitAvrConfig ∷ WaitParam64 ∷ WaitTimeSync ∷ []) (WaitIfCal ∷ [])

abbrev pub next : DeviceModel → AvrStep → AvrStep
next m WaitStatus1 = WaitStatus2
next m WaitStatus2 = WaitDevInfo1
next m WaitDevInfo1 = WaitDevInfo2
next m WaitDevInfo2 = WaitParam0C
next m WaitParam0C = WaitParam0D
next m WaitParam0D = WaitConfig
next m WaitConfig = cond (has_factory_cal m) WaitFactoryCal WaitIfCal
next m WaitFactoryCal = WaitIfCal
next m WaitIfCal = cond (has_factory_cal m) WaitAvrConfig Done
next m WaitAvrConfig = WaitParam64
next m WaitParam64 = WaitTimeSync
next m WaitTimeSync = Done
next m Done = Done

-- what is asked when a step begins: what the entry before it sends. w are the wall seconds.
abbrev pub request : AvrStep → ℕ → Option Action
request WaitStatus1 w = Some status_poll
request WaitStatus2 w = Some status_poll
request WaitDevInfo1 w = Some (send_to BusAddr.Avr Command.DevInfoReq)
request WaitDevInfo2 w = Some (send_to BusAddr.Avr Command.DevInfoReq)
request WaitParam0C w = Some (param_read_req 0x0C)
request WaitParam0D w = Some (param_read_req 0x0D)
request WaitConfig w = Some (send_to BusAddr.Avr Command.ConfigQuery)
request WaitFactoryCal w = Some cal_data_req
request WaitIfCal w = Some (send_to BusAddr.Avr Command.CalParamReq)
request WaitAvrConfig w = Some (send_to BusAddr.Avr Command.AvrConfigQuery)
request WaitParam64 w = Some (param_read_req 0x64)
request WaitTimeSync w = Some (time_sync w)
request Done w = None

abbrev pub table : DeviceModel → Table (Event Dated)
table m = map (λ k. test (row m k)) (steps_for m)
