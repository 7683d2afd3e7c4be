-- What a DSP start-up stores: what is absent, what an event leaves in a field, which entry stores which field; and its sends.
-- Definitions only.
-- Assumes nothing.
use Rattle.std.specs.Prelude.{ℕ, ◌-◌, Bool, true, false, cond, ◌||◌, List, [], eqb, ℤ, set, replicate, Option, Some, None}
use Rattle.protocol.specs.declared.BusAddr.{BusAddr}
use Rattle.protocol.specs.declared.DspStatus.{DspStatus}
use Rattle.protocol.specs.declared.DspStatus.TheVariants.{V80, V46}
use Rattle.protocol.specs.declared.DspQueryResp.{DspQueryResp}
use Rattle.protocol.specs.declared.Nack.{Nack}
use Rattle.protocol.specs.declared.ParamData.{ParamData}
use Rattle.protocol.specs.declared.ProdInfoResp.{ProdInfoResp}
use Rattle.protocol.specs.declared.Command.{Command}
use Rattle.protocol.specs.declared.Action.{Action}
use Rattle.protocol.specs.Action.{send_to}
use Rattle.protocol.specs.Carried.{no_dsp_status, carried}
use Rattle.protocol.specs.Kinds.{config_nack, dsp_query_resp}
use Rattle.protocol.specs.Stored.{stored}
use Rattle.sequence.specs.Events.{Envelope, Event, fed, checked, kind}
use Rattle.sequence.specs.Replies.{dev_info_in, config_in}
use Rattle.dsp_table.specs.declared.DspStatusReply.{DspStatusReply}
use Rattle.dsp_table.specs.declared.DspReplies.{DspReplies}

-- ---- what is absent

-- what stands in a result where no status has come
abbrev pub no_status : DspStatusReply
no_status = record { status = no_dsp_status; payload = stored [] }

abbrev pub no_prod_info : ProdInfoResp
no_prod_info = record { text = stored [] }

abbrev pub no_replies : DspReplies
no_replies = record {
  status = None;
  hw_info = None;
  dev_info = None;
  prod_info = replicate 3 no_prod_info;
  config = None;
  refused = None;
  power_mode_unanswered = false;
}

-- ---- what an event leaves in a field

-- a message of this kind from the Dsp
abbrev pub from_dsp : ℕ → Envelope → Bool
from_dsp k e = kind 0x40 k e

-- the payload is that of a V46 status; a V80 has none
abbrev pub status_reply : DspStatus → List ℕ → DspStatusReply
status_reply (V80 s) p = record { status = V80 s; payload = stored [] }
status_reply (V46 s) p = record { status = V46 s; payload = stored p }

abbrev pub status_in : Event Envelope → Option DspStatusReply
status_in (fed e t) = Some (status_reply (carried e.message).status e.payload)
status_in (checked t) = None

-- only the query reply stores it; else it is as before
abbrev pub hw_info_in : Event Envelope → Option DspQueryResp → Option DspQueryResp
hw_info_in (fed e t) h = cond (from_dsp dsp_query_resp e) (Some (carried e.message).query) h
hw_info_in (checked t) h = h

abbrev pub prod_info_in : Event Envelope → ProdInfoResp
prod_info_in (fed e t) = record { text = stored e.text }
prod_info_in (checked t) = no_prod_info

-- a nack is kept; else what was kept stays
abbrev pub nack_in : Event Envelope → Option Nack → Option Nack
nack_in (fed e t) n = cond (from_dsp config_nack e) (Some (record { src = e.src; type_id = e.type_id; nack = (carried e.message).ack })) n
nack_in (checked t) n = n

abbrev pub unanswered_in : Event Envelope → Bool → Bool
unanswered_in (fed e t) b = b
unanswered_in (checked t) b = true

-- ---- which entry stores which field: y, once e has ticked the entry number k

abbrev pub store : ℕ → Event Envelope → DspReplies → DspReplies
store k e y = record {
  status = cond (eqb k 1) (status_in e) y.status;
  hw_info = cond (eqb k 2) (hw_info_in e y.hw_info) y.hw_info;
  dev_info = cond (eqb k 3) (dev_info_in (λ v. v) e) y.dev_info;
  prod_info = cond (eqb k 4 || eqb k 5 || eqb k 6) (set y.prod_info (k - 4) (prod_info_in e)) y.prod_info;
  config = cond (eqb k 7) (config_in (λ v. v) e) y.config;
  refused = cond (eqb k 8) (nack_in e y.refused) y.refused;
  power_mode_unanswered = cond (eqb k 8) (unanswered_in e y.power_mode_unanswered) y.power_mode_unanswered;
}

-- ---- sends

abbrev pub prod_info_req : ℕ → Action
prod_info_req q = send_to BusAddr.Dsp (Command.ProdInfoReq (record { sub_query = q }))

-- param 0x01, Int24 1
abbrev pub power_mode : Action
power_mode = send_to BusAddr.Dsp (Command.ParamValue (record { param_id = 0x01; value = ParamData.Int24 (ℤ.pos 1) }))
