-- What the loop over the sends of a run has read, and what it answers.
-- Assumes nothing.
use Rattle.std.proofs.Common.{arith, ◌≡◌, refl, sym, ap, ◌∙◌, ℕ, zero, suc, ◌+◌, ◌-◌, ◌<◌, ◌≤◌, true, false, cond, List, [], ◌∷◌, ◌++◌, length, take, drop, get_or, set, replicate, Option, Some, None, option_map, append_assoc, add-one, drop-cons, length-append, length-drop, Ok}
use borrow.Author.Tests.{lt-ltb}
use Rattle.std.proofs.lemmas.List.{take_all, append-nil, drop-set-lt, drop-replicate, take-append-drop, length-take-le, drop-drop}
use Rattle.std.proofs.Math.Seq.{take-suc-set}
use Rattle.protocol.specs.declared.Action.{Action}
use Rattle.protocol.specs.declared.ParamValue.{ParamValue}
use Rattle.protocol.specs.declared.ModeSet.{ModeSet}
use Rattle.protocol.specs.declared.RadarCal.{RadarCal}
use Rattle.settings.specs.Settings.{no_param}
use Rattle.settings_sends.specs.declared.Setting.{Setting}
use Rattle.settings_sends.proofs.Round.{ok_from}
use Rattle.settings_sends.specs.ReadBack.{Contents, command_in, commits, with_param, of_mode, cal_read, setting, what, read_on, read, given, run_or_refused, or_refused, answered}

-- with these parameters before
abbrev pub before : List ParamValue → Option Contents → Option Contents
before ps o = option_map (λ f. record { params = ps ++ f.params; mode = f.mode; cal = f.cal }) o

before_none : (o : Option Contents) → before [] o ≡ o
before_none None = refl
before_none (Some f) = refl

-- the first send is a commit
pub begins : (l : List Action) (d : Action) → 0 < length l → commits (command_in (get_or l 0 d)) ≡ true → read l ≡ before [] (read_on (drop 1 l))
begins [] d h c = absurd (omega (arith, h))
begins (a ∷ l) d h c = rw c (sym (before_none (read_on l)))

pub begins_not : (l : List Action) (d : Action) → 0 < length l → commits (command_in (get_or l 0 d)) ≡ false → read l ≡ None
begins_not [] d h c = absurd (omega (arith, h))
begins_not (a ∷ l) d h c = rw c refl

module _ (l : List Action) (at : ℕ) (d : Action) (h : at + 1 < length l) where
  abbrev rest : List Action
  rest = drop (at + 2) l

  on_two : read_on (drop at l) ≡ cond (commits (command_in (get_or l (at + 1) d))) (setting (what (command_in (get_or l at d))) rest (read_on rest)) None
  on_two =
      let one : suc at ≡ at + 1 = omega arith in
      let two : suc (at + 1) ≡ at + 2 = omega arith in
      let parts : drop at l ≡ get_or l at d ∷ get_or l (at + 1) d ∷ rest =
      drop-cons l at d (omega (arith, h)) ∙ ap (λ k. get_or l at d ∷ drop k l) one
      ∙ ap (λ m. get_or l at d ∷ m) (drop-cons l (at + 1) d h ∙ ap (λ k. get_or l (at + 1) d ∷ drop k l) two) in
      ap read_on parts

  pub no_commit : commits (command_in (get_or l (at + 1) d)) ≡ false → read_on (drop at l) ≡ None
  no_commit c = on_two ∙ ap (λ b. cond b (setting (what (command_in (get_or l at d))) rest (read_on rest)) None) c

  pub sets : (x : Setting) → commits (command_in (get_or l (at + 1) d)) ≡ true → x ≡ what (command_in (get_or l at d)) → read_on (drop at l) ≡ setting x rest (read_on rest)
  sets x c e = on_two ∙ ap (λ b. cond b (setting (what (command_in (get_or l at d))) rest (read_on rest)) None) c ∙ ap (λ y. setting y rest (read_on rest)) (sym e)

-- fewer than two are left
pub ended : (l : List Action) (at : ℕ) → length l ≤ at + 1 → read_on (drop at l) ≡ None
ended [] zero h = refl
ended [] (suc at) h = refl
ended (a ∷ []) zero h = refl
ended (a ∷ b ∷ l) zero h = absurd (omega (arith, h))
ended (a ∷ l) (suc at) h = ended l at (omega (arith, h))

-- a parameter more
pub put : (ps : List ParamValue) (n : ℕ) (p : ParamValue) (o : Option Contents) → n < length ps → before (take n ps) (option_map (with_param p) o) ≡ before (take (n + 1) (set ps n p)) o
put ps n p None h = refl
put ps n p (Some f) h =
    let taken : take (n + 1) (set ps n p) ≡ take n ps ++ p ∷ [] = ap (λ m. take m (set ps n p)) (add-one n) ∙ take-suc-set ps n p h in
    ap (λ qs. Some (record { params = qs; mode = f.mode; cal = f.cal })) (sym (append_assoc (take n ps) (p ∷ []) f.params) ∙ ap (λ qs. qs ++ f.params) (sym taken))

pub still_empty : (ps : List ParamValue) (n : ℕ) (p : ParamValue) → drop n ps ≡ replicate (32 - n) no_param → drop (n + 1) (set ps n p) ≡ replicate (32 - (n + 1)) no_param
still_empty ps n p h =
    drop-set-lt (n + 1) ps n p (omega arith) ∙ sym (drop-drop 1 n ps) ∙ ap (drop 1) h ∙ drop-replicate 1 (32 - n) no_param ∙ ap (λ m. replicate m no_param) (omega arith)

-- a parameter too many
pub too_many : (ps : List ParamValue) (n : ℕ) (p : ParamValue) (o : Option Contents) → n ≡ 32 → length ps ≡ 32 → given (before (take n ps) (option_map (with_param p) o)) ≡ None
too_many ps n p None e l = refl
too_many ps n p (Some f) e l =
    let long = length-take-le n ps (omega (arith, e, l)) in
    let more = length-append (take n ps) (p ∷ f.params) in
    rw (lt-ltb 32 (length (take n ps ++ p ∷ f.params)) (omega (arith, long, more, e))) refl

-- ---- as it is answered

-- the rest of a list, as a slice has it
the_rest : (l : List Action) (k : ℕ) → k ≤ length l → take (length l - k) (drop k l) ≡ drop k l
the_rest l k h = take_all (length l - k) (drop k l) (omega (arith, length-drop k l))

-- the mode with its commit stands at `at`, behind n parameters
module _ (l : List Action) (ps : List ParamValue) (n at : ℕ) (m : ModeSet) (two : at + 1 < length l)
    (same : read l ≡ before (take n ps) (option_map (of_mode m.mode) (cal_read (drop (at + 2) l)))) where
  cal_at : (o : Option (Option RadarCal)) → cal_read (take (length l - (at + 2)) (drop (at + 2) l)) ≡ o → answered l ≡ or_refused (given (before (take n ps) (option_map (of_mode m.mode) o)))
  cal_at o e =
      let read_so : cal_read (drop (at + 2) l) ≡ o = ap cal_read (sym (the_rest l (at + 2) (omega (arith, two)))) ∙ e in
      ap (λ x. or_refused (given x)) (same ∙ ap (λ x. before (take n ps) (option_map (of_mode m.mode) x)) read_so)

  pub answers_cal : (c : Option RadarCal) → n ≤ 32 → length ps ≡ 32 → drop n ps ≡ replicate (32 - n) no_param
      → Ok c ≡ or_refused (cal_read (take (length l - (at + 2)) (drop (at + 2) l)))
      → run_or_refused (record { mode = m.mode; params = ps; len = n; radar_cal = c }) ≡ answered l
  answers_cal c n32 k h e =
      let long : length (take n ps) ≡ n = length-take-le n ps (omega (arith, n32, k)) in
      let all : record { mode = m.mode; params = (take n ps ++ []) ++ replicate (32 - length (take n ps ++ [])) no_param; len = length (take n ps ++ []); radar_cal = c }
      ≡ record { mode = m.mode; params = ps; len = n; radar_cal = c } = rw (append-nil (take n ps), long, sym h, take-append-drop n ps) refl in
      sym (cal_at (Some c) (ok_from (cal_read (take (length l - (at + 2)) (drop (at + 2) l))) c e) ∙ ap run_or_refused all)
