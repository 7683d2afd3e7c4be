-- What is stored of the bytes s: an array of 256 that is 0 past them, and their number. Definitions only.
-- Assumes nothing.
use Rattle.std.specs.Prelude.{ℕ, ◌-◌, min, List, ◌++◌, length, take, replicate}
use Rattle.protocol.specs.declared.Stored.{Stored}

-- s itself, or its first 256 bytes where it is longer; then zeros, to 256 bytes in all
unfoldable pub stored : List ℕ → Stored
stored s = record { bytes = take 256 s ++ replicate (256 - length s) 0; len = min 256 (length s) }

-- the bytes that are stored there
abbrev pub content : Stored → List ℕ
content s = take s.len s.bytes
