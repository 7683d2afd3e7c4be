-- How an answer is taken apart (docs/REPLAY.md, "Shown to people"). Definitions only.
-- Assumes nothing.
use Rattle.std.specs.Prelude.{ℕ, ◌+◌, ◌-◌, ◌/◌, ◌^◌, ◌==◌, nat_eq, min, Bool, ◌||◌, if◌then◌else◌, List, codes}
use Rattle.std.specs.List.{starts_with}
use Rattle.folding.specs.declared.split.Texts.{Texts}

-- a step's name begins so
abbrev pub is_step : List ℕ → Bool
is_step s = starts_with nat_eq s (codes "Wait") || starts_with nat_eq s (codes "Done")

-- one more, up to the most that 64 bits hold
abbrev pub one_more : ℕ → ℕ
one_more n = min (n + 1) (2 ^ 64 - 1)

-- before the first byte
abbrev pub outside_all : Texts
outside_all = record { digits = 0; left = 0 }

-- no text goes on here
abbrev pub is_outside : Texts → Bool
is_outside t = t.left == 0

-- behind a byte outside of a text: a name's end begins a value, and a bar a text, which has a byte for two digits (61 is =, 32 a
-- blank, 124 a bar)
abbrev pub behind_plain : ℕ → Texts → Texts
behind_plain b t =
    if (b == 61) || (b == 32) then record t { digits = 0 }
    else if b == 124 then record t { left = one_more (t.digits / 2) }
    else record t { digits = one_more t.digits }

-- behind a byte, in a text or outside
abbrev pub behind : ℕ → Texts → Texts
behind b t = if is_outside t then behind_plain b t else record t { left = t.left - 1 }
