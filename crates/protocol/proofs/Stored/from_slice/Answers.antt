-- `Stored::from_slice` meets its contract.
-- Assumes nothing.
use Rattle.std.proofs.Common.{◌≡◌, ℕ, ◌-◌, min, arith, List, ◌++◌, length, take, drop, replicate, refl}
use Rattle.std.proofs.lemmas.List.{drop-replicate, take_min}
use Rattle.protocol.specs.declared.Stored.{Stored}
use Rattle.protocol.specs.Stored.{stored}
use Rattle.protocol.proofs.Stored.from_slice.Goals as goal

abbrev kept : List ℕ → ℕ → Stored
kept b n = record { bytes = b; len = n }

-- the first n of s before zeros, as they are copied
made : (s part : List ℕ) (n : ℕ) → n ≡ min (length s) 256 → part ≡ take n s → kept (part ++ drop n (replicate 256 0)) n ≡ stored s
unfolding stored
made s part n h e =
    let m : n ≡ min 256 (length s) = omega (arith, h) in
    let d : 256 - min 256 (length s) ≡ 256 - length s = omega arith in
    rw (e, m, take_min 256 s, drop-replicate {X = ℕ} (min 256 (length s)) 256 0, d) refl

pub returns : goal.returns
returns c = made c.args.s.now c.copy_from_slice.new.self c.min-len.result c.min-len.ensures c.copy_from_slice.ensures.after
