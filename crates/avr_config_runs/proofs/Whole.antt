-- The theorem holds. It is proved once for any sequence that is only fed (crate sequence, Fed.antt); what is shown here is the settings run's
-- own: the steps that its settings make follow one another.
-- Assumes nothing.
use Prim.Native.Nat.{ℕ, zero, suc, ◌+◌, ◌*◌, min}
use native.Mathlib.Numerals.{add-one}
use native.Mathlib.Omega.{arith}
use mathlib.Core.Path.{◌≡◌, refl}
use mathlib.Core.Bool.{Bool, true, false, cond}
use mathlib.Core.List.{List, [], ◌∷◌, ◌++◌}
use lib.ListN.{length, get_or, length-map}
use borrow.Author.Tests.{lt-ltb, le-ltb}
use Rattle.matching.specs.Promise.{Each}
use Rattle.matching.proofs.Machine.{Antitone}
use Rattle.matching.proofs.Called.{Called}
use Rattle.sequence.specs.Events.{Envelope, Event, reading, forever}
use Rattle.std.specs.Prelude.{is_some}
use Rattle.sequence.specs.declared.Answer.{Answer}
use Rattle.sequence.specs.Rows.{State, refused}
use Rattle.sequence.specs.Calls.{fed_event}
use Rattle.sequence.proofs.Fed as fed
use Rattle.sequence.proofs.Standing as rows
use Rattle.settings.specs.declared.AvrSettings.{AvrSettings}
use Rattle.settings.specs.Settings.{count}
use Rattle.avr_config_steps.specs.declared.AvrConfigStep.{AvrConfigStep}
use Rattle.avr_config_steps.specs.declared.AvrConfigStep.TheVariants.{WaitInitGateAck, WaitParamAck, WaitParamCommitAck, WaitModeEcho, WaitModeCommitAck, WaitRadarCalEcho, WaitRadarCalCommitAck, Done}
use Rattle.avr_config_steps.specs.Table.{row, next, param_steps, param_step, steps_for, table}
use Rattle.avr_config_steps.specs.Answers as steps
use Rattle.avr_config.specs.declared.AvrConfigSequencer.{AvrConfigSequencer}
use Rattle.avr_config.specs.Answers.{running, advance}
use Rattle.avr_config.specs.Calls.{after}
use Rattle.avr_config_runs.specs.Theorem.{Theorem}
use Rattle.avr_config_runs.specs.Going.{Going}

abbrev pub is_done : AvrConfigStep → Bool
is_done WaitInitGateAck = false
is_done (WaitParamAck i) = false
is_done (WaitParamCommitAck i) = false
is_done WaitModeEcho = false
is_done WaitModeCommitAck = false
is_done WaitRadarCalEcho = false
is_done WaitRadarCalCommitAck = false
is_done Done = true

abbrev view : AvrConfigSequencer → State AvrConfigStep (Unit {0})
view s = steps.view s.step

module _ (q : AvrSettings) where
  abbrev Chained : List AvrConfigStep → Type 0
  Chained l = rows.Chained (row q) (next q) Done (steps_for q) l

  abbrev cal_steps : Bool → List AvrConfigStep
  cal_steps b = cond b (WaitRadarCalEcho ∷ WaitRadarCalCommitAck ∷ []) []

  -- the mode, and the calibration if there is one
  abbrev last : List AvrConfigStep
  last = WaitModeEcho ∷ WaitModeCommitAck ∷ cal_steps (is_some q.radar_cal)

  cal_chained : (b : Bool) → (cond b WaitRadarCalEcho Done ≡ get_or (cal_steps b) 0 Done) × Chained (cal_steps b)
  cal_chained true = (refl, (refl, (refl, tt)))
  cal_chained false = (refl, tt)

  last_chained : Chained last
  last_chained = (refl, cal_chained (is_some q.radar_cal))

  -- n parameters, from number i on, and those are all
  first_is : (n i : ℕ) → i + n ≡ count q.len → param_step q i ≡ get_or (param_steps n i ++ last) 0 Done
  first_is zero i h = rw (le-ltb i (min 32 q.len) (omega arith))
  first_is (suc n) i h = rw (lt-ltb i (min 32 q.len) (omega arith))

  params_chained : (n i : ℕ) → i + n ≡ count q.len → Chained (param_steps n i ++ last)
  params_chained zero i h = last_chained
  params_chained (suc n) i h =
      let on : suc i + n ≡ count q.len = omega arith in
      (refl, (rw (add-one i) (first_is n (suc i) on), params_chained n (suc i) on))

  chained : Chained (steps_for q)
  chained = (first_is (count q.len) 0 (omega arith), params_chained (count q.len) 0 (omega arith))

  -- none of them is Done
  cal_others : (b : Bool) → Each (λ k. is_done k ≡ false) (cal_steps b)
  cal_others true = (refl, (refl, tt))
  cal_others false = tt

  params_others : (n i : ℕ) → Each (λ k. is_done k ≡ false) (param_steps n i ++ last)
  params_others zero i = (refl, (refl, cal_others (is_some q.radar_cal)))
  params_others (suc n) i = (refl, (refl, params_others n (suc i)))

  -- with n parameters there are 3 + 2n entries, 2 more with a calibration
  params_length : (n i : ℕ) → length (param_steps n i ++ last) ≡ 2 * n + length last
  params_length zero i = omega arith
  params_length (suc n) i = omega (arith, params_length n (suc i))

  pub entries : length (table q) ≡ 3 + 2 * count q.len + cond (is_some q.radar_cal) 2 0
  entries = rw length-map (omega (arith, params_length (count q.len) 0, cal_length (is_some q.radar_cal)))
    where
      cal_length : (b : Bool) → length (cal_steps b) ≡ cond b 2 0
      cal_length true = refl
      cal_length false = refl

  -- ---- as a sequence that is only fed

  abbrev unview : List (Event Envelope) → State AvrConfigStep (Unit {0}) → AvrConfigSequencer
  unview es s = record { step = s.step; settings = q }

  abbrev seq : Answer AvrConfigSequencer → AvrConfigSequencer
  seq f = f.seq

  waitless : (k : AvrConfigStep) → (row q k).wait ≡ forever
  waitless WaitInitGateAck = refl
  waitless (WaitParamAck i) = refl
  waitless (WaitParamCommitAck i) = refl
  waitless WaitModeEcho = refl
  waitless WaitModeCommitAck = refl
  waitless WaitRadarCalEcho = refl
  waitless WaitRadarCalCommitAck = refl
  waitless Done = refl

  pub feeds : fed.Feeds (row q) (next q) Done (steps_for q) tt view unview seq advance refused after
  feeds = record {
    chained = chained;
    ended = refl;
    waitless = waitless;
    seen = λ es k y. refl;
    moves = λ es s e. refl;
    stays = λ s o. refl;
    feeds = λ s e. refl;
    asks = λ s x. refl;
  }

  pub anti : Each Antitone (table q)
  anti = rows.table_antitone (row q) (next q) Done (steps_for q)

  pub sequencer : Called reading (table q) after fed_event (fed.state_of (row q) (next q) Done (steps_for q) tt view unview seq advance refused after) (λ es t x c. tt)
  sequencer = fed.sequencer (row q) (next q) Done (steps_for q) tt view unview seq advance refused after feeds

-- of any settings that a state may hold
pub going : Going
going q cs =
    fed.ends (row q) (next q) Done (steps_for q) tt view (unview q) (seq q) advance refused after (feeds q) is_done refl
    (refl, params_others q (count q.len) 0) (λ z. z.step) (λ es z. refl) cs

-- of those that new leaves
pub right : Theorem
right s cs = going (running s) cs
