-- A line, and how far it is read (docs/REPLAY.md, "Lines" and "Columns"). Definitions only.
-- Assumes nothing.
use Rattle.std.specs.Prelude.{ℕ, ◌-◌, ◌==◌, min, Bool, true, ◌||◌, List, [], ◌∷◌, length, Option, unwrap_or}
use Rattle.words.specs.declared.reader.Reader.{Reader}

-- the line
abbrev pub whole : Reader → List ℕ
whole r = r.line.now

-- what is left of it
abbrev pub left : Reader → List ℕ
left r = r.rest.now

-- the place at which reading stands, counted from 0
abbrev pub place : Reader → ℕ
place r = length (whole r) - length (left r)

-- spaces and tabs
abbrev pub is_blank : ℕ → Bool
is_blank b = (b == 32) || (b == 9)

-- a word ends at a blank, and at the end of the line
abbrev pub ends_word : List ℕ → Bool
ends_word [] = true
ends_word (b ∷ s) = is_blank b

-- as many bytes as are asked for, if so many are left, and else all
abbrev pub passed : Option ℕ → List ℕ → ℕ
passed n s = min (unwrap_or n (length s)) (length s)
