-- The rule of src/seq.rs for the armed text, and where the two differ. Definitions only.
-- Assumes nothing.
use Rattle.std.specs.Prelude.{◌≡◌, ◌↔◌, ℕ, Bool, true, false, not, ◌&&◌, List}
use Rattle.device.specs.Search.{StandsAt, contains}
use Rattle.arm_steps.specs.Armed.{armed_bytes, behind_capital}
use Rattle.arm_steps.specs.Answers.{cancelled_bytes, is_armed}

-- any occurrence of "ARMED" counts there, and "CANCELLED" spoils it
abbrev pub is_armed_in_rust : List ℕ → Bool
is_armed_in_rust text = contains armed_bytes text && not (contains cancelled_bytes text)

-- the texts that it takes and the port does not; the other way round there is none
abbrev pub differs : List ℕ → Bool
differs text = is_armed_in_rust text && not (is_armed text)

-- "ARMED" stands in the text, each time behind a capital letter, and "CANCELLED" nowhere
pub record Differs (text : List ℕ) : Type 0 where
  pub somewhere : (i : ℕ) × StandsAt armed_bytes text i
  pub behind : (i : ℕ) → StandsAt armed_bytes text i → behind_capital text i ≡ true
  pub not_cancelled : (i : ℕ) → StandsAt cancelled_bytes text i → ⊥

pub record Theorem : Type 0 where
  pub agree : (text : List ℕ) → differs text ≡ false → is_armed text ≡ is_armed_in_rust text
  pub differ : (text : List ℕ) → (differs text ≡ true) ↔ Differs text
