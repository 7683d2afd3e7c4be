-- A stored status comes in where there is one, if its layout is known.
-- Assumes nothing.
use Rattle.std.proofs.Common.{◌≡◌, ◌∙◌, sym, Ok}
use Rattle.std.specs.Bool.{then_some}
use Rattle.protocol.specs.declared.DspStatus.{DspStatus}
use Rattle.abi_messages.specs.Messages.{dsp_status_in}
use Rattle.abi_dsp.specs.declared.COptionDspStatus.{COptionDspStatus}
use Rattle.abi_dsp.specs.State.{status_in}
use Rattle.abi_dsp.proofs.OptionDspStatusReplyTryFromCOptionDspStatus.try_from.Goals as goal

known : (c : COptionDspStatus) (s : DspStatus) → dsp_status_in c.value ≡ Ok s
    → Ok (then_some c.some (record { status = s; payload = c.payload })) ≡ status_in c
known c s h = rw h

pub returns : goal.returns
returns c = rw c.then_some.ensures (known c.args.c c.in_ok-try_into.field-0 (sym c.try_into.ensures ∙ c.in_ok-try_into.was))
