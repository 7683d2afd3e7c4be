-- A stored status goes out, or an empty one where there is none.
-- Assumes nothing.
use Rattle.std.proofs.Common.{◌≡◌, refl}
use Rattle.std.specs.Prelude.{Option, Some, None}
use Rattle.std.specs.Option.{is_some, unwrap_or}
use Rattle.dsp_table.specs.declared.DspStatusReply.{DspStatusReply}
use Rattle.dsp_table.specs.Stores.{no_status}
use Rattle.abi_messages.specs.Messages.{dsp_status_out}
use Rattle.abi_dsp.specs.State.{status_out}
use Rattle.abi_dsp.proofs.COptionDspStatusFromOptionDspStatusReply.from.Goals as goal

told : (o : Option DspStatusReply)
    → record { some = is_some o; value = dsp_status_out (unwrap_or o no_status).status; payload = (unwrap_or o no_status).payload } ≡ status_out o
told None = refl
told (Some r) = refl

pub returns : goal.returns
returns c = rw (c.is_some-some.ensures, c.into.ensures, c.unwrap_or-reply.ensures, c.none.ensures) (told c.args.reply)
