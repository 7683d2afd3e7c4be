-- A parameter comes in as a Float40 where its format is 1, and is unknown where there is no such format.
-- Assumes nothing.
use Rattle.std.proofs.Common.{◌≡◌, refl, false, rules}
use borrow.Author.Tests.{tests}
use Rattle.std.specs.Prelude.{eqb}
use Rattle.abi_values.specs.Numbers.{unknown}
use Rattle.abi_values.specs.Params.{param_in}
use Rattle.abi_values.specs.declared.CParamValue.{CParamValue}
use Rattle.abi_values.proofs.ParamValueTryFromCParamValue.try_from.Goals as goal

no_such : (p : CParamValue) → eqb p.format 0 ≡ false → eqb p.format 1 ≡ false → unknown ≡ param_in p
no_such p a b = rw (a, b)

pub returns-in-1 : goal.returns-in-1
returns-in-1 c = rw c.in-1.is refl

pub returns-in_default : goal.returns-in_default
returns-in_default c = no_such c.args.param (search (rules, tests)) (search (rules, tests))
