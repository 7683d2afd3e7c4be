-- The columns that a text takes (docs/REPLAY.md, "Shown to people"). Definitions only.
-- Assumes nothing.
use Rattle.std.specs.Prelude.{ℕ, nat_le, nat_lt, Bool, ◌||◌}

-- a character takes one, that of its first byte: the others of a character in UTF-8 are 0x80 to 0xBF
abbrev pub takes_column : ℕ → Bool
takes_column b = nat_lt b 128 || nat_le 192 b
