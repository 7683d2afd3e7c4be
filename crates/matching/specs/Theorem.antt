-- THE MATCHING THEOREM, for events of any type: where a later tick before never helps, and the run's readings never fall, a table that
-- can be matched has an earliest matching, and one alone. The promise (Promise.antt) of each sequence rests on it. Definitions only.
-- Assumes nothing.
use Rattle.std.specs.Prelude.{◌≡◌, true, List, [], ◌∷◌, ℕ, ◌≤◌}
use Rattle.matching.specs.Matching.{Entry, Table, Matching, Earliest}
use Rattle.matching.specs.Promise.{Each}

-- What passes with the tick before at t' passes with it at any earlier t.
abbrev pub Antitone : {E : Type 0} → Entry E → Type 0
Antitone {E} q = (t t' : ℕ) (e : E) → t ≤ t' → q t' e ≡ true → q t e ≡ true

module _ {E : Type 0} (at : E → ℕ) where
  -- The readings of the run never fall, from t on.
  pub data Rising : ℕ → List E → Type 0 where
    end : {t : ℕ} → Rising t []
    then : {t : ℕ} {e : E} {r : List E} → t ≤ at e → Rising (at e) r → Rising t (e ∷ r)

-- d stands past the end of a run: nothing here looks there.
pub record Theorem (E : Type 0) : Type 0 where
  pub first : (at : E → ℕ) (d : E) (T : Table E) (r : List E) → Each Antitone T → Rising at 0 r
      → (ps : List ℕ) → Matching at d T r ps → (qs : List ℕ) × Earliest at d T r qs
  pub one : (at : E → ℕ) (d : E) (T : Table E) (r : List E) (ps qs : List ℕ) → Earliest at d T r ps → Earliest at d T r qs → ps ≡ qs
