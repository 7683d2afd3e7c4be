-- A float as it is written: its 64 bits (docs/REPLAY.md, "Answers"). Definitions only.
-- Assumes nothing.
use Rattle.std.specs.Prelude.{ℕ, if◌then◌else◌, is_nan, to_bits}
use Rattle.std.specs.Float.Ieee.{Float, Format}

-- any NaN as the quiet one
abbrev pub written_bits : Float → ℕ
written_bits x = if is_nan x then 0x7FF8_0000_0000_0000 else to_bits Format.binary64 x
