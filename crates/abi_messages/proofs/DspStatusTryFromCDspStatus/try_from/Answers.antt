-- A DSP status comes in by its layout, and is unknown where there is no such.
-- Assumes nothing.
use Rattle.std.proofs.Common.{◌≡◌, refl, false, rules}
use borrow.Author.Tests.{tests}
use Rattle.std.specs.Prelude.{eqb}
use Rattle.abi_values.specs.Numbers.{unknown}
use Rattle.abi_messages.specs.declared.CDspStatus.{CDspStatus}
use Rattle.abi_messages.specs.Messages.{dsp_status_in}
use Rattle.abi_messages.proofs.DspStatusTryFromCDspStatus.try_from.Goals as goal

no_such : (s : CDspStatus) → eqb s.layout 0 ≡ false → eqb s.layout 1 ≡ false → unknown ≡ dsp_status_in s
no_such s a b = rw (a, b)

pub returns-in-0 : goal.returns-in-0
returns-in-0 c = rw c.in-0.is refl

pub returns-in-1 : goal.returns-in-1
returns-in-1 c = rw c.in-1.is refl

pub returns-in_default : goal.returns-in_default
returns-in_default c = no_such c.args.status (search (rules, tests)) (search (rules, tests))
