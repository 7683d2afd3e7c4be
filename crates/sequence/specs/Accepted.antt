-- Which feeds and checks are refused (docs/SCOPE.md, "Refusals"), as lists of numbers with their tests. Definitions only.
-- Assumes nothing.
use Rattle.std.specs.Prelude.{ℕ, Bool, true, not, ◌&&◌, List, [], ◌∷◌, ◌++◌, ltb, length, Result}
use Rattle.protocol.specs.declared.Refusal.{Refusal}
use Rattle.protocol.specs.Refusals.{Applies, lowest, outcome}

abbrev pub applies : ℕ → Bool → Applies
applies n b = record { number = n; holds = b }

-- a feed of a sequence without a clock. 1: its text exceeds 256 bytes; 2: its payload does
abbrev pub bytes_refusals : List ℕ → List ℕ → List Applies
bytes_refusals text payload = applies 1 (ltb 256 (length text)) ∷ applies 2 (ltb 256 (length payload)) ∷ []

-- a check, last being the last accepted reading. 3: the reading is above 18,446,744,071,709,551,615 ns; 11: it is below the last
abbrev pub check_refusals : ℕ → ℕ → List Applies
check_refusals last reading = applies 3 (ltb 18_446_744_071_709_551_615 reading) ∷ applies 11 (ltb reading last) ∷ []

-- a feed of a sequence with a clock
abbrev pub feed_refusals : List ℕ → List ℕ → ℕ → ℕ → List Applies
feed_refusals text payload last reading = bytes_refusals text payload ++ check_refusals last reading

-- a result asked for. 12: before Done
abbrev pub result_refusals : Bool → List Applies
result_refusals done = applies 12 (not done) ∷ []

-- the outcome of a feed, without and with a clock, and of a check: the lowest number that applies, or accepted
abbrev pub bytes_outcome : List ℕ → List ℕ → Result (Unit {0}) Refusal
bytes_outcome text payload = outcome (lowest (bytes_refusals text payload))

abbrev pub feed_outcome : List ℕ → List ℕ → ℕ → ℕ → Result (Unit {0}) Refusal
feed_outcome text payload last reading = outcome (lowest (feed_refusals text payload last reading))

abbrev pub check_outcome : ℕ → ℕ → Result (Unit {0}) Refusal
check_outcome last reading = outcome (lowest (check_refusals last reading))

-- accepted: no number applies
abbrev pub none : List Applies → Bool
none [] = true
none (a ∷ l) = not a.holds && none l
