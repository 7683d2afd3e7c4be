-- What equal lists of what is shown tell of the calls: nothing is left out of the comparison.
-- Assumes nothing.
use mathlib.Core.Path.{◌≡◌, sym, ap}
use mathlib.Core.Bool.{Bool, true, false, true≢false}
use mathlib.Core.List.{List, [], ◌∷◌}
use Rattle.std.specs.Prelude.{Result, Ok, Err}
use Rattle.protocol.specs.declared.CamConfig.{CamConfig}
use Rattle.protocol.specs.declared.DevInfoResp.{DevInfoResp}
use Rattle.protocol.specs.declared.Refusal.{Refusal}
use Rattle.sheet.specs.Sheet.{given}
use Rattle.pi.specs.declared.PiSequencer.{PiSequencer}
use Rattle.pi.specs.declared.PiSync.{PiSync}
use Rattle.pi.specs.Answers.{finished, sheet_of}
use Rattle.pi.specs.Calls.{PiCall, after}
use Rattle.pi_shown.specs.Shown.{rest, Shown, shown, shown_all}
use Rattle.pi_shown.specs.Theorem.{ButNetwork, SameAt}

abbrev first : List Shown → Shown → Shown
first [] x = x
first (y ∷ ys) x = y

abbrev others : List Shown → List Shown
others [] = []
others (y ∷ ys) = ys

abbrev is_ok : Result PiSync Refusal → Bool
is_ok (Ok r) = true
is_ok (Err p) = false

but_network : (r q : Result PiSync Refusal) → rest r ≡ rest q → ButNetwork r q
but_network (Ok r) (Ok q) h = (ap info h, ap camera h)
  where
    info : Result PiSync Refusal → DevInfoResp
    info (Ok x) = x.dev_info
    info (Err p) = r.dev_info

    camera : Result PiSync Refusal → CamConfig
    camera (Ok x) = x.cam_config
    camera (Err p) = r.cam_config
but_network (Ok r) (Err n) h = true≢false (ap is_ok h)
but_network (Err p) (Ok q) h = true≢false (sym (ap is_ok h))
but_network (Err p) (Err n) h = ap refusal h
  where
    refusal : Result PiSync Refusal → Refusal
    refusal (Ok x) = p
    refusal (Err k) = k

pub reads : (s t : PiSequencer) (c d : PiCall) (cs ds : List PiCall) → shown_all s (c ∷ cs) ≡ shown_all t (d ∷ ds)
    → SameAt s t c d × (shown_all (after s c) cs ≡ shown_all (after t d) ds)
reads s t c d cs ds h =
    let e : shown s c ≡ shown t d = ap (λ l. first l (shown s c)) h in
    let f : sheet_of (after s c) ≡ sheet_of (after t d) = ap (λ (x : Shown). x.sheet) e in (
      record {
        outcome = ap (λ (x : Shown). x.outcome) e;
        step = ap (λ (x : Shown). x.step) e;
        sheet = f;
        sheets = λ buf place. ap (λ x. given x place buf) f;
        result = but_network (finished (after s c)) (finished (after t d)) (ap (λ (x : Shown). x.result) e);
      },
      ap others h,
    )
