-- Messages by kind and numbers: what comes in, and for a status, which is stored, back. Definitions only.
-- Assumes nothing.
use Rattle.std.specs.Prelude.{cond, eqb, Result, Ok}
use Rattle.protocol.specs.declared.Message.{Message}
use Rattle.protocol.specs.declared.Message.TheVariants as Msg
use Rattle.protocol.specs.declared.DspStatus.{DspStatus}
use Rattle.protocol.specs.Carried.{no_dsp_status80}
use Rattle.protocol.specs.Kinds as kinds
use Rattle.abi_values.specs.declared.UnknownNumber.{UnknownNumber}
use Rattle.abi_values.specs.Numbers.{unknown, and_then, addr_in}
use Rattle.abi_values.specs.Params.{param_in}
use Rattle.abi_messages.specs.declared.CDspStatus.{CDspStatus}
use Rattle.abi_messages.specs.declared.CMessage.{CMessage}
use Rattle.abi_messages.specs.declared.CEnvelope.{CEnvelope}
use Rattle.abi_messages.specs.declared.Envelope.{Envelope}

-- ---- a DSP status: layout 0 is the Mevo+'s, 1 the Gen2's

abbrev pub dsp_status_in : CDspStatus → Result DspStatus UnknownNumber
dsp_status_in s = cond (eqb s.layout 0) (Ok (DspStatus.V80 s.v80)) (cond (eqb s.layout 1) (Ok (DspStatus.V46 s.v46)) unknown)

abbrev pub dsp_status_out : DspStatus → CDspStatus
dsp_status_out (DspStatus.V80 s) = record { layout = 0; v80 = s; v46 = record { state = 0; version = 0 } }
dsp_status_out (DspStatus.V46 s) = record { layout = 1; v80 = no_dsp_status80; v46 = s }

-- ---- a message: the kind by its number, with the record beside it that belongs to the kind

-- the layout of a DSP status and the format of a parameter count where the message is one
abbrev pub message_in : CMessage → Result Message UnknownNumber
message_in m =
    cond (eqb m.kind kinds.avr_status) (Ok (Msg.AvrStatus m.avr_status))
    (cond (eqb m.kind kinds.dsp_status) (and_then (dsp_status_in m.dsp_status) (λ s. Ok (Msg.DspStatus s)))
    (cond (eqb m.kind kinds.pi_status) (Ok Msg.PiStatus)
    (cond (eqb m.kind kinds.config_ack) (Ok (Msg.ConfigAck m.ack))
    (cond (eqb m.kind kinds.config_nack) (Ok (Msg.ConfigNack m.ack))
    (cond (eqb m.kind kinds.mode_ack) (Ok Msg.ModeAck)
    (cond (eqb m.kind kinds.text) (Ok Msg.Text)
    (cond (eqb m.kind kinds.mode_set) (Ok (Msg.ModeSet m.mode_set))
    (cond (eqb m.kind kinds.param_value) (and_then (param_in m.param_value) (λ p. Ok (Msg.ParamValue p)))
    (cond (eqb m.kind kinds.radar_cal) (Ok (Msg.RadarCal m.radar_cal))
    (cond (eqb m.kind kinds.config_resp) (Ok Msg.ConfigResp)
    (cond (eqb m.kind kinds.avr_config_resp) (Ok Msg.AvrConfigResp)
    (cond (eqb m.kind kinds.dsp_query_resp) (Ok (Msg.DspQueryResp m.dsp_query_resp))
    (cond (eqb m.kind kinds.dev_info_resp) (Ok Msg.DevInfoResp)
    (cond (eqb m.kind kinds.prod_info_resp) (Ok Msg.ProdInfoResp)
    (cond (eqb m.kind kinds.net_config_resp) (Ok Msg.NetConfigResp)
    (cond (eqb m.kind kinds.cal_param_resp) (Ok Msg.CalParamResp)
    (cond (eqb m.kind kinds.cal_data_resp) (Ok Msg.CalDataResp)
    (cond (eqb m.kind kinds.time_sync) (Ok (Msg.TimeSync m.time_sync))
    (cond (eqb m.kind kinds.cam_config) (Ok (Msg.CamConfig m.cam_config))
    (cond (eqb m.kind kinds.other) (Ok Msg.Other) unknown))))))))))))))))))))

-- known if its source and its message are
abbrev pub envelope_in : CEnvelope → Result Envelope UnknownNumber
envelope_in e =
    and_then (addr_in e.src) (λ src.
    and_then (message_in e.message) (λ message.
    Ok (record { src = src; type_id = e.type_id; message = message; params = e.params })))
