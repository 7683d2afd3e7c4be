-- THE TABLE of a DSP start-up (docs/SCOPE.md, "DSP start-up"): its entries in order, each with who ticks it, what is sent then on a model, and what is
-- stored; then the steps at which they are awaited. Definitions only.
-- Assumes nothing.
use Rattle.std.specs.Prelude.{ℕ, ◌+◌, false, cond, List, [], ◌∷◌, map, Option, Some, None}
use Rattle.protocol.specs.declared.BusAddr.{BusAddr}
use Rattle.protocol.specs.declared.Command.{Command}
use Rattle.protocol.specs.declared.Action.{Action}
use Rattle.protocol.specs.Action.{send_to}
use Rattle.protocol.specs.Kinds.{dsp_status, config_ack, config_nack, config_resp, dsp_query_resp, dev_info_resp, prod_info_resp}
use Rattle.device.specs.declared.model.DeviceModel.{DeviceModel}
use Rattle.device.specs.Model.{has_power_mode}
use Rattle.matching.specs.Matching.{Table}
use Rattle.requests.specs.Requests.{status_poll}
use Rattle.sequence.specs.Events.{Envelope, Event, forever, nanos, acking, either}
use Rattle.sequence.specs.Rows.{Row, test, past}
use Rattle.dsp_table.specs.declared.DspStep.{DspStep}
use Rattle.dsp_table.specs.declared.DspStep.TheVariants.{WaitStatus, WaitDspQuery, WaitDevInfo, WaitProdInfo0, WaitProdInfo1, WaitProdInfo2, WaitConfig, WaitPowerMode, Done}
use Rattle.dsp_table.specs.declared.DspReplies.{DspReplies}
use Rattle.dsp_table.specs.Stores.{from_dsp, store, prod_info_req, power_mode}

abbrev pub DspRow : Type 0
DspRow = Row Envelope DspReplies

-- 1. a DspStatus; then the DSP is queried
abbrev pub entry1 : DspRow
entry1 = record { reply = from_dsp dsp_status; wait = forever; send = λ e. Some (send_to BusAddr.Dsp Command.DspQuery); store = store 1 }

-- 2. a DspQueryResp, or a ConfigNack of 0x48, or a check 2 s after entry 1; then the device info is asked for
abbrev pub entry2 : DspRow
entry2 = record {
  reply = either (from_dsp dsp_query_resp) (acking 0x40 config_nack 0x48);
  wait = nanos 2_000_000_000;
  send = λ e. Some (send_to BusAddr.Dsp Command.DevInfoReq);
  store = store 2;
}

-- 3. a DevInfoResp; then the first product info is asked for
abbrev pub entry3 : DspRow
entry3 = record { reply = from_dsp dev_info_resp; wait = forever; send = λ e. Some (prod_info_req 0x00); store = store 3 }

-- 4. to 6. a ProdInfoResp, three times
abbrev pub prod_info : ℕ → Option Action → DspRow
prod_info i a = record { reply = from_dsp prod_info_resp; wait = forever; send = λ e. a; store = store (4 + i) }

abbrev pub entry4 : DspRow
entry4 = prod_info 0 (Some (prod_info_req 0x08))

abbrev pub entry5 : DspRow
entry5 = prod_info 1 (Some (prod_info_req 0x09))

abbrev pub entry6 : DspRow
entry6 = prod_info 2 (Some (send_to BusAddr.Dsp Command.ConfigQuery))

-- 7. a ConfigResp; then the power mode is written, or without the step it is done
abbrev pub entry7 : DeviceModel → DspRow
entry7 m = record { reply = from_dsp config_resp; wait = forever; send = λ e. cond (has_power_mode m) (Some power_mode) None; store = store 7 }

-- 8. with the power-mode step: a ConfigAck or a ConfigNack of 0x3F, or a check 2 s after entry 7; then it is done
abbrev pub entry8 : DspRow
entry8 = record {
  reply = either (acking 0x40 config_ack 0x3F) (acking 0x40 config_nack 0x3F);
  wait = nanos 2_000_000_000;
  send = λ e. None;
  store = store 8;
}

-- ---- the steps of a model's table in order, the row of each, and the step after each (Done after the last)

abbrev pub steps_for : DeviceModel → List DspStep
steps_for m =
    WaitStatus ∷ WaitDspQuery ∷ WaitDevInfo ∷ WaitProdInfo0 ∷ WaitProdInfo1 ∷ WaitProdInfo2 ∷ WaitConfig
    ∷ cond (has_power_mode m) (WaitPowerMode ∷ []) []

abbrev pub row : DeviceModel → DspStep → DspRow
row m WaitStatus = entry1
row m WaitDspQuery = entry2
row m WaitDevInfo = entry3
row m WaitProdInfo0 = entry4
row m WaitProdInfo1 = entry5
row m WaitProdInfo2 = entry6
row m WaitConfig = entry7 m
row m WaitPowerMode = entry8
row m Done = past

abbrev pub next : DeviceModel → DspStep → DspStep
next m WaitStatus = WaitDspQuery
next m WaitDspQuery = WaitDevInfo
next m WaitDevInfo = WaitProdInfo0
next m WaitProdInfo0 = WaitProdInfo1
next m WaitProdInfo1 = WaitProdInfo2
next m WaitProdInfo2 = WaitConfig
next m WaitConfig = cond (has_power_mode m) WaitPowerMode Done
next m WaitPowerMode = Done
next m Done = Done

-- what is asked when a step begins: what the entry before it sends (the first step begins with a new start-up, which polls)
abbrev pub request : DspStep → Option Action
request WaitStatus = Some (status_poll false BusAddr.Dsp)
request WaitDspQuery = Some (send_to BusAddr.Dsp Command.DspQuery)
request WaitDevInfo = Some (send_to BusAddr.Dsp Command.DevInfoReq)
request WaitProdInfo0 = Some (prod_info_req 0x00)
request WaitProdInfo1 = Some (prod_info_req 0x08)
request WaitProdInfo2 = Some (prod_info_req 0x09)
request WaitConfig = Some (send_to BusAddr.Dsp Command.ConfigQuery)
request WaitPowerMode = Some power_mode
request Done = None

abbrev pub table : DeviceModel → Table (Event Envelope)
table m = map (λ k. test (row m k)) (steps_for m)
