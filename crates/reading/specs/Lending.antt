-- What a call is lent. Definitions only.
-- Assumes nothing.
use Rattle.std.specs.Prelude.{ℕ, List, ◌++◌}
use Rattle.reading.specs.declared.call.Lent.{Lent}

-- the bytes of its text and of its payload, one behind the other
abbrev pub lent_bytes : Lent → List ℕ
lent_bytes l = l.text.items ++ l.payload.items
