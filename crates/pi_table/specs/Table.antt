-- THE TABLE of a Pi start-up (docs/SCOPE.md, "Pi start-up"): its entries in order, each with who ticks it, what is sent then, and what is stored; then
-- the steps at which they are awaited. Definitions only.
-- Assumes nothing.
use Rattle.std.specs.Prelude.{ℕ, ◌+◌, true, false, cond, List, [], ◌∷◌, map, ltb, get_or, Option, Some, None}
use Rattle.protocol.specs.declared.BusAddr.{BusAddr}
use Rattle.protocol.specs.declared.Command.{Command}
use Rattle.protocol.specs.declared.Action.{Action}
use Rattle.protocol.specs.Kinds as kinds
use Rattle.matching.specs.Matching.{Table}
use Rattle.sequence.specs.Events.{Envelope, Event, forever}
use Rattle.sequence.specs.Rows.{Row, test, past}
use Rattle.pi_table.specs.declared.PiStep.{PiStep}
use Rattle.pi_table.specs.declared.PiStep.TheVariants.{WaitStatus, WaitDevInfo, WaitParam0A, WaitCamConfig1, WaitCamConfig2, WaitNetConfig, WaitNetConfigPw, WaitParams, Done}
use Rattle.pi_table.specs.declared.PiReplies.{PiReplies}
use Rattle.requests.specs.Requests.{status_poll, net_config_req}
use Rattle.pi_table.specs.Stores.{from_pi, store, to_pi, param_read_req}

abbrev pub PiRow : Type 0
PiRow = Row Envelope PiReplies

-- a reply of this kind; what is sent then; the entry's number, by which it is stored (of a ParamValue nothing is)
abbrev pub entry : ℕ → Option Action → ℕ → PiRow
entry k a n = record { reply = from_pi k; wait = forever; send = λ e. a; store = store n }

-- 1. a PiStatus; then the device info is asked for
abbrev pub entry1 : PiRow
entry1 = entry kinds.pi_status (Some (to_pi Command.DevInfoReq)) 1

-- 2. a DevInfoResp; then parameter 0x0A
abbrev pub entry2 : PiRow
entry2 = entry kinds.dev_info_resp (Some (param_read_req 0x0A)) 2

-- 3. a ParamValue; then the camera's configuration is asked for
abbrev pub param_entry : Option Action → PiRow
param_entry a = entry kinds.param_value a 3

abbrev pub entry3 : PiRow
entry3 = param_entry (Some (to_pi Command.CamConfigReq))

-- 4. and 5. a CamConfig, twice; then it is asked for again, then the network without its password
abbrev pub entry4 : PiRow
entry4 = entry kinds.cam_config (Some (to_pi Command.CamConfigReq)) 4

abbrev pub entry5 : PiRow
entry5 = entry kinds.cam_config (Some (net_config_req false)) 5

-- 6. and 7. a NetConfigResp, twice; then it is asked for with its password, then the first of nine parameters
abbrev pub entry6 : PiRow
entry6 = entry kinds.net_config_resp (Some (net_config_req true)) 6

abbrev pub ids : List ℕ
ids = 0x01 ∷ 0x07 ∷ 0x08 ∷ 0x09 ∷ 0x06 ∷ 0x0B ∷ 0x03 ∷ 0x04 ∷ 0x05 ∷ []

abbrev pub entry7 : PiRow
entry7 = entry kinds.net_config_resp (Some (param_read_req (get_or ids 0 0))) 7

-- 8. to 16. a ParamValue, nine times; then the next parameter, and after the last it is done
abbrev pub param_row : ℕ → PiRow
param_row i = param_entry (cond (ltb i 8) (Some (param_read_req (get_or ids (i + 1) 0))) None)

-- ---- the steps in order, the row of each, and the step after each (Done after the last)

abbrev pub steps : List PiStep
steps =
    WaitStatus ∷ WaitDevInfo ∷ WaitParam0A ∷ WaitCamConfig1 ∷ WaitCamConfig2 ∷ WaitNetConfig ∷ WaitNetConfigPw
    ∷ map WaitParams (0 ∷ 1 ∷ 2 ∷ 3 ∷ 4 ∷ 5 ∷ 6 ∷ 7 ∷ 8 ∷ [])

abbrev pub row : PiStep → PiRow
row WaitStatus = entry1
row WaitDevInfo = entry2
row WaitParam0A = entry3
row WaitCamConfig1 = entry4
row WaitCamConfig2 = entry5
row WaitNetConfig = entry6
row WaitNetConfigPw = entry7
row (WaitParams i) = param_row i
row Done = past

abbrev pub next : PiStep → PiStep
next WaitStatus = WaitDevInfo
next WaitDevInfo = WaitParam0A
next WaitParam0A = WaitCamConfig1
next WaitCamConfig1 = WaitCamConfig2
next WaitCamConfig2 = WaitNetConfig
next WaitNetConfig = WaitNetConfigPw
next WaitNetConfigPw = WaitParams 0
next (WaitParams i) = cond (ltb i 8) (WaitParams (i + 1)) Done
next Done = Done

-- what is asked when a step begins: what the entry before it sends (the first step begins with `new`, which polls)
abbrev pub request : PiStep → Option Action
request WaitStatus = Some (status_poll true BusAddr.Pi)
request WaitDevInfo = Some (to_pi Command.DevInfoReq)
request WaitParam0A = Some (param_read_req 0x0A)
request WaitCamConfig1 = Some (to_pi Command.CamConfigReq)
request WaitCamConfig2 = Some (to_pi Command.CamConfigReq)
request WaitNetConfig = Some (net_config_req false)
request WaitNetConfigPw = Some (net_config_req true)
request (WaitParams i) = cond (ltb i 9) (Some (param_read_req (get_or ids i 0))) None
request Done = None

abbrev pub table : Table (Event Envelope)
table = map (λ k. test (row k)) steps
