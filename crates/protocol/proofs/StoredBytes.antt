-- What is stored of at most 256 bytes is those bytes.
-- Assumes nothing.
use mathlib.Core.Path.{◌≡◌, refl}
use mathlib.Core.List.{List}
use Prim.Native.Nat.{ℕ, ◌-◌, ◌≤◌, min}
use native.Mathlib.Omega.{arith}
use lib.ListN.{length, replicate}
use lib.Seq.{take_all, take_at}
use Rattle.protocol.specs.Stored.{stored, content}

pub content_stored : (s : List ℕ) → length s ≤ 256 → content (stored s) ≡ s
unfolding stored
content_stored s h =
    let n : min 256 (length s) ≡ length s = omega arith in
    rw (n, take_all 256 s h) (take_at s (replicate (256 - length s) 0) (length s) refl)
