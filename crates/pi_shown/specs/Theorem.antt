-- THE THEOREM: two Pi start-ups whose calls are the same, but for the texts of network replies of at most 256 bytes each, show the same at
-- every call. The lists may be of any length, and may end before Done. Definitions only; the proof is proofs/Whole.antt.
-- Assumes nothing.
use Rattle.std.specs.Prelude.{ℕ, ◌≡◌, List, ◌∷◌, Result, Ok, Err}
use Rattle.protocol.specs.declared.Refusal.{Refusal}
use Rattle.sheet.specs.Sheet.{given}
use Rattle.pi.specs.declared.PiSequencer.{PiSequencer}
use Rattle.pi.specs.declared.PiSync.{PiSync}
use Rattle.pi.specs.Answers.{begun, finished, sheet_of}
use Rattle.pi.specs.Calls.{PiCall, after}
use Rattle.pi_shown.specs.Shown.{AllAlike, outcome_of, shown_all}

-- two results that differ at most in ssid, password and the lengths of these two: both are there, or both are refused alike
abbrev pub ButNetwork : Result PiSync Refusal → Result PiSync Refusal → Type 0
ButNetwork (Ok r) (Ok q) = (r.dev_info ≡ q.dev_info) × (r.cam_config ≡ q.cam_config)
ButNetwork (Ok r) (Err n) = ⊥
ButNetwork (Err p) (Ok q) = ⊥
ButNetwork (Err p) (Err n) = p ≡ n

-- a call at s shows what another shows at t, said part by part
pub record SameAt (s t : PiSequencer) (c d : PiCall) : Type 0 where
  pub outcome : outcome_of s c ≡ outcome_of t d
  pub step : (after s c).step ≡ (after t d).step
  pub sheet : sheet_of (after s c) ≡ sheet_of (after t d)
  -- and what is answered to whoever asks for the sheet then, or for the result
  pub sheets : (buf : List ℕ) (at : ℕ) → given (sheet_of (after s c)) at buf ≡ given (sheet_of (after t d)) at buf
  pub result : ButNetwork (finished (after s c)) (finished (after t d))

pub record Theorem : Type 0 where
  pub same : (cs ds : List PiCall) → AllAlike cs ds → shown_all begun.seq cs ≡ shown_all begun.seq ds
  -- nothing is left out of what is compared there: of the first two calls every part is, and so on with what comes after them
  pub reads : (s t : PiSequencer) (c d : PiCall) (cs ds : List PiCall) → shown_all s (c ∷ cs) ≡ shown_all t (d ∷ ds)
      → SameAt s t c d × (shown_all (after s c) cs ≡ shown_all (after t d) ds)
