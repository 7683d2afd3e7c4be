-- `kept_params` meets its contract.
-- Assumes nothing.
use Rattle.std.proofs.Common.{◌≡◌, ℕ, min, arith, List, ◌++◌, take, drop, replicate, refl}
use Rattle.std.proofs.lemmas.List.{drop-replicate}
use Rattle.protocol.specs.declared.ParamValue.{ParamValue}
use Rattle.settings.specs.Settings.{no_param, count, kept_params}
use Rattle.settings.proofs.kept_params.Goals as goal

-- the first n before empty places, as they are copied
made : (params part : List ParamValue) (len n : ℕ) → n ≡ min len 32 → part ≡ take n params → part ++ drop n (replicate 32 no_param) ≡ kept_params params len
made params part len n h e =
    let m : n ≡ count len = omega (arith, h) in
    rw (e, m, drop-replicate {X = ParamValue} (count len) 32 no_param) refl

pub returns : goal.returns
returns c = made c.args.params c.copy_from_slice.new.self c.args.len c.min-n.result c.min-n.ensures c.copy_from_slice.ensures.after
