-- THE KEPT NACK, taken through the session: as crate dsp_runs has it of a DSP alone, over every list of the session's calls. Definitions only; the
-- proof is proofs/Taking.antt.
-- Assumes nothing.
use Rattle.std.specs.Prelude.{List, map, None}
use Rattle.device.specs.declared.model.DeviceModel.{DeviceModel}
use Rattle.device.specs.Model.{has_power_mode}
use Rattle.matching.specs.Promise.{Answers}
use Rattle.sequence.specs.Events.{checked, reading}
use Rattle.sequence.specs.Calls.{ask}
use Rattle.dsp_table.specs.Table as dsp_table
use Rattle.dsp_runs.specs.Theorem.{nack_of}
use Rattle.session.specs.Answers.{begun, taken}
use Rattle.session_runs.specs.Calls.{SessionCall, take_refused, after, dsp_call}
use Rattle.session_promise.specs.Places.{dsp_event, Names}

-- Without a power-mode step nothing; with it the nack that ticked the DSP's entry 8, if one did and none of the session's calls since took it.
abbrev pub Theorem : Type 0
Theorem = (m : DeviceModel) (cs : List SessionCall) → Names m cs
    → Answers reading (checked 0) dsp_event begun.session after (dsp_table.table m) (ask take_refused) (λ s. (taken s).refused) None
    (λ later at. nack_of (has_power_mode m) (map dsp_call later) at) cs
