-- The text that says that a unit is armed. Definitions only.
-- Assumes nothing.
use Rattle.std.specs.Prelude.{◌≡◌, ℕ, zero, suc, Bool, false, not, ◌&&◌, ◌||◌, List, [], ◌∷◌, leb, get_or, codes}
use Rattle.device.specs.Search.{StandsAt, begins}

abbrev pub armed_bytes : List ℕ
armed_bytes = codes "ARMED"

-- a capital letter, A to Z
abbrev pub is_capital : ℕ → Bool
is_capital b = leb 0x41 b && leb b 0x5A

-- is the byte before place i a capital letter? There is none before the start.
abbrev pub behind_capital : List ℕ → ℕ → Bool
behind_capital s zero = false
behind_capital s (suc i) = is_capital (get_or s i 0)

-- "ARMED" stands in s from place i on, and no capital letter before it
abbrev pub CountsAt : List ℕ → ℕ → Type 0
CountsAt s i = StandsAt armed_bytes s i × (behind_capital s i ≡ false)

-- ---- the same as a test: `says_armed s ≡ true` exactly where there is such a place

-- before: is the byte before s a capital letter?
abbrev pub armed_in : Bool → List ℕ → Bool
armed_in before [] = false
armed_in before (b ∷ s) = (begins armed_bytes (b ∷ s) && not before) || armed_in (is_capital b) s

abbrev pub says_armed : List ℕ → Bool
says_armed s = armed_in false s
