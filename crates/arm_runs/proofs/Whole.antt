-- The theorem holds. After any list of feeds the state is told by the number of counted nacks and by which tests the list has passed, in
-- order, since the last of them.
-- Assumes nothing.
use Prim.Native.Nat.{ℕ, suc, ◌≤◌}
use native.Mathlib.Numerals.{add-one}
use native.Mathlib.Omega.{arith}
use mathlib.Core.Path.{◌≡◌, refl, sym, ap, ◌∙◌}
use mathlib.Core.Logic.{◌↔◌}
use mathlib.Core.Bool.{Bool, true, false, not, cond, ◌&&◌, ◌||◌, true≢false}
use mathlib.Core.List.{List, [], ◌∷◌, ◌++◌}
use lib.Dec.{eqb, ltb}
use borrow.Author.Tests.{eq-eqb, ne_eqb, eqb-true, ltb-true, ltb-false}
use Rattle.std.specs.Prelude.{Result, Ok, Err}
use Rattle.protocol.specs.declared.Refusal.{Refusal}
use Rattle.protocol.specs.Addr.{byte_of}
use Rattle.protocol.specs.Kinds.{tag}
use Rattle.matching.specs.Promise.{after_all}
use Rattle.device.specs.Model.{has_camera}
use Rattle.sequence.specs.Accepted.{none, bytes_refusals, bytes_outcome}
use Rattle.sequence.specs.Events.{Envelope}
use Rattle.sequence.proofs.Acceptance.{accepted, bytes_accepted}
use Rattle.arm_steps.specs.declared.ArmStep.{ArmStep}
use Rattle.arm_steps.specs.declared.ArmStep.TheVariants.{WaitDspStatus, WaitAvrStatus, WaitArmAck, WaitPiAndArmed, Done}
use Rattle.arm_steps.specs.Answers.{dsp_status, avr_status, ack, nack, pi_status, armed}
use Rattle.arm.specs.declared.ArmSequencer.{ArmSequencer}
use Rattle.sequence.specs.declared.Answer.{Answer}
use Rattle.arm.specs.Answers.{answered_at}
use Rattle.arm.specs.Calls.{after}
use Rattle.arm.proofs.Steps.{by_step, by_bytes}
use Rattle.arm_runs.specs.Theorem.{run, in_order, statuses, acknowledged, counted, Nacks, nacks_from, nacks, Theorem}
use Rattle.arm_runs.proofs.InOrder.{snoc, fewer}

-- ---- the state, by what has been passed: d the DSP's status, v the AVR's, k the acknowledgement, p the Pi's status, t the armed text

abbrev step_of : (cam d v k p t : Bool) → ArmStep
step_of cam d v k p t =
    cond k (cond ((not cam || p) && t) Done (WaitPiAndArmed (not cam || p) t)) (cond v WaitArmAck (cond d WaitAvrStatus WaitDspStatus))

abbrev state_by : (cam d v k p t : Bool) → ℕ → ArmSequencer
state_by cam d v k p t n = record { step = step_of cam d v k p t; retries = n; wait_pi = cam }

abbrev state_of : Bool → ℕ → List Envelope → ArmSequencer
state_of cam n a =
    state_by cam (in_order (dsp_status ∷ []) a) (in_order statuses a) (in_order acknowledged a) (in_order (acknowledged ++ pi_status ∷ []) a) (in_order (acknowledged ++ armed ∷ []) a) n

-- a test is passed only after those before it
pub record Falls (d v k p t : Bool) : Type 0 where
  pub second : d ≡ false → v ≡ false
  pub third : v ≡ false → k ≡ false
  pub pi : k ≡ false → p ≡ false
  pub text : k ≡ false → t ≡ false

falls : (a : List Envelope)
    → Falls (in_order (dsp_status ∷ []) a) (in_order statuses a) (in_order acknowledged a) (in_order (acknowledged ++ pi_status ∷ []) a) (in_order (acknowledged ++ armed ∷ []) a)
falls a = record {
  second = fewer (dsp_status ∷ []) avr_status a;
  third = fewer statuses ack a;
  pi = fewer acknowledged pi_status a;
  text = fewer acknowledged armed a;
}

-- ---- one feed

not_both : (n : ℕ) → eqb n 4 ≡ true → eqb n 3 ≡ false
not_both n h = ne_eqb n 3 (λ e. let f = eqb-true n 4 h in omega arith)

-- the nack that is refused is no acknowledgement
nack_no_ack : (e : Envelope) → nack e ≡ true → ack e ≡ false
nack_no_ack e h = go (eqb (byte_of e.src) 0x30) h
  where
    go : (b : Bool) → b && eqb (tag e.message) 4 ≡ true → b && eqb (tag e.message) 3 ≡ false
    go true k = not_both (tag e.message) k
    go false k = refl

-- what is answered at the step, as a state
abbrev Moves : (cam d v k p t : Bool) → ℕ → Envelope → Type 0
Moves cam d v k p t n e =
    (answered_at (step_of cam d v k p t) (state_by cam d v k p t n) e).seq
    ≡ cond ((v && not k) && (nack e && ltb n 65_535)) (state_by cam false false false false false (suc n))
    (state_by cam (d || dsp_status e) (v || (d && avr_status e)) (k || (v && ack e)) (p || (k && pi_status e)) (t || (k && armed e)) n)

at_dsp : (cam : Bool) (n : ℕ) (e : Envelope) → Moves cam false false false false false n e
at_dsp cam n e = go (dsp_status e) refl
  where
    go : (b : Bool) → dsp_status e ≡ b → Moves cam false false false false false n e
    go true h = rw h
    go false h = rw h

at_avr : (cam : Bool) (n : ℕ) (e : Envelope) → Moves cam true false false false false n e
at_avr cam n e = go (avr_status e) refl
  where
    go : (b : Bool) → avr_status e ≡ b → Moves cam true false false false false n e
    go true h = rw h
    go false h = rw h

at_ack : (cam : Bool) (n : ℕ) (e : Envelope) → n ≤ 65_535 → Moves cam true true false false false n e
at_ack cam n e l = go (nack e) refl
  where
    refused_there : (b : Bool) → ltb n 65_535 ≡ b → nack e ≡ true → Moves cam true true false false false n e
    refused_there true i h = let other = ltb-true n 65_535 i in rw (h, i, ne_eqb n 65_535 (λ k. omega arith), add-one n)
    refused_there false i h =
        let full : n ≡ 65_535 = let most = ltb-false n 65_535 i in omega arith in
        rw (nack_no_ack e h, h, i, eq-eqb n 65_535 full)

    taken_there : (c b : Bool) → ack e ≡ b → nack e ≡ false → Moves c true true false false false n e
    taken_there true true i h = rw (h, i)
    taken_there false true i h = rw (h, i)
    taken_there c false i h = rw (h, i)

    go : (b : Bool) → nack e ≡ b → Moves cam true true false false false n e
    go true h = refused_there (ltb n 65_535) refl h
    go false h = taken_there cam (ack e) refl h

at_last : (cam p t : Bool) (n : ℕ) (e : Envelope) → Moves cam true true true p t n e
at_last false p true n e = refl
at_last false p false n e = refl
at_last true true true n e = refl
at_last true true false n e = refl
at_last true false t n e = refl

at_any : (cam d v k p t : Bool) (n : ℕ) (e : Envelope) → n ≤ 65_535 → Falls d v k p t → Moves cam d v k p t n e
at_any cam true true true p t n e l f = at_last cam p t n e
at_any cam true true false p t n e l f = rw (f.pi refl, f.text refl) (at_ack cam n e l)
at_any cam true false k p t n e l f = rw (f.pi (f.third refl), f.text (f.third refl), f.third refl) (at_avr cam n e)
at_any cam false v k p t n e l f =
    let none = f.third (f.second refl) in
    rw (f.pi none, f.text none, none, f.second refl) (at_dsp cam n e)

-- one more envelope
more : (cam : Bool) (n : ℕ) (a : List Envelope) (e : Envelope)
    → state_of cam n (a ++ e ∷ [])
    ≡ state_by cam (in_order (dsp_status ∷ []) a || dsp_status e) (in_order statuses a || (in_order (dsp_status ∷ []) a && avr_status e))
    (in_order acknowledged a || (in_order statuses a && ack e)) (in_order (acknowledged ++ pi_status ∷ []) a || (in_order acknowledged a && pi_status e))
    (in_order (acknowledged ++ armed ∷ []) a || (in_order acknowledged a && armed e)) n
more cam n a e =
    rw (snoc [] dsp_status a e, snoc (dsp_status ∷ []) avr_status a e, snoc statuses ack a e, snoc acknowledged pi_status a e, snoc acknowledged armed a e)

moves : (cam : Bool) (n : ℕ) (a : List Envelope) (e : Envelope) → n ≤ 65_535
    → (answered_at (state_of cam n a).step (state_of cam n a) e).seq ≡ cond (counted n a e) (state_of cam (suc n) []) (state_of cam n (a ++ e ∷ []))
moves cam n a e l =
    at_any cam (in_order (dsp_status ∷ []) a) (in_order statuses a) (in_order acknowledged a) (in_order (acknowledged ++ pi_status ∷ []) a) (in_order (acknowledged ++ armed ∷ []) a) n e l
    (falls a)
    ∙ ap (λ (s : ArmSequencer). cond (counted n a e) (state_of cam (suc n) []) s) (sym (more cam n a e))

-- ---- a list of feeds

abbrev state_at : Bool → Nacks → ArmSequencer
state_at cam w = state_of cam w.number w.since

-- fewer than 65,535 before a counted one
counted_few : (n : ℕ) (a : List Envelope) (e : Envelope) → counted n a e ≡ true → suc n ≤ 65_535
counted_few n a e h = go (in_order statuses a && not (in_order acknowledged a)) (nack e) h
  where
    go : (x y : Bool) → x && (y && ltb n 65_535) ≡ true → suc n ≤ 65_535
    go true true k = ltb-true n 65_535 k
    go true false k = absurd (true≢false (sym k))
    go false y k = absurd (true≢false (sym k))

-- what holds of the feeds after it holds with one more before them
one_more : (cam : Bool) (e : Envelope) (cs : List Envelope)
    → ((n : ℕ) (a : List Envelope) → n ≤ 65_535 → after_all after (state_of cam n a) cs ≡ state_at cam (nacks_from n a (run cs)))
    → (n : ℕ) (a : List Envelope) → n ≤ 65_535 → after_all after (after (state_of cam n a) e) cs ≡ state_at cam (nacks_from n a (run (e ∷ cs)))
one_more cam e cs ih n a l = go (bytes_outcome e.text e.payload) refl
  where
    s : ArmSequencer
    s = state_of cam n a

    in_run : (b : Bool) → counted n a e ≡ b → bytes_outcome e.text e.payload ≡ Ok tt
        → after_all after (after s e) cs ≡ state_at cam (nacks_from n a (e ∷ run cs))
    in_run true c o =
        let there : after s e ≡ state_of cam (suc n) [] = ap (λ (f : Answer ArmSequencer). f.seq) (sym (by_step s e o)) ∙ moves cam n a e l ∙ rw c in
        rw (there, c) (ih (suc n) [] (counted_few n a e c))
    in_run false c o =
        let there : after s e ≡ state_of cam n (a ++ e ∷ []) = ap (λ (f : Answer ArmSequencer). f.seq) (sym (by_step s e o)) ∙ moves cam n a e l ∙ rw c in
        rw (there, c) (ih n (a ++ e ∷ []) l)

    go : (o : Result (Unit {0}) Refusal) → bytes_outcome e.text e.payload ≡ o → after_all after (after s e) cs ≡ state_at cam (nacks_from n a (run (e ∷ cs)))
    go (Ok u) o =
        let passed : none (bytes_refusals e.text e.payload) ≡ true = sym (bytes_accepted e.text e.payload) ∙ ap accepted o in
        rw passed (in_run (counted n a e) refl o)
    go (Err r) o =
        let refused : none (bytes_refusals e.text e.payload) ≡ false = sym (bytes_accepted e.text e.payload) ∙ ap accepted o in
        let there : after s e ≡ s = ap (λ (f : Answer ArmSequencer). f.seq) (sym (by_bytes s e r o)) in
        rw (there, refused) (ih n a l)

all : (cam : Bool) (cs : List Envelope) (n : ℕ) (a : List Envelope) → n ≤ 65_535
    → after_all after (state_of cam n a) cs ≡ state_at cam (nacks_from n a (run cs))
all cam [] n a l = refl
all cam (e ∷ cs) n a l = one_more cam e cs (all cam cs) n a l

-- ---- done

abbrev is_done : ArmStep → Bool
is_done WaitDspStatus = false
is_done WaitAvrStatus = false
is_done WaitArmAck = false
is_done (WaitPiAndArmed p t) = false
is_done Done = true

done_by : (cam d v k p t : Bool) → Falls d v k p t → (step_of cam d v k p t ≡ Done) ↔ (t && (not cam || p) ≡ true)
done_by cam d v true p t f = go cam p t
  where
    go : (c x y : Bool) → (cond ((not c || x) && y) Done (WaitPiAndArmed (not c || x) y) ≡ Done) ↔ (y && (not c || x) ≡ true)
    go false x true = (λ h. refl, λ h. refl)
    go false x false = (λ h. ap is_done h, λ h. absurd (true≢false (sym h)))
    go true true true = (λ h. refl, λ h. refl)
    go true true false = (λ h. ap is_done h, λ h. absurd (true≢false (sym h)))
    go true false true = (λ h. ap is_done h, λ h. absurd (true≢false (sym h)))
    go true false false = (λ h. ap is_done h, λ h. absurd (true≢false (sym h)))
done_by cam d v false p t f = rw (f.text refl) (λ h. go v d h, λ h. absurd (true≢false (sym h)))
  where
    go : (x y : Bool) → cond x WaitArmAck (cond y WaitAvrStatus WaitDspStatus) ≡ Done → false ≡ true
    go true y h = ap is_done h
    go false true h = ap is_done h
    go false false h = ap is_done h

pub right : Theorem
right m cs =
    let w = nacks (run cs) in
    let is = all (has_camera m) cs 0 [] (omega arith) in
    let a = w.since in
    record {
      retries = ap (λ (s : ArmSequencer). s.retries) is;
      done = rw is (done_by (has_camera m) (in_order (dsp_status ∷ []) a) (in_order statuses a) (in_order acknowledged a) (in_order (acknowledged ++ pi_status ∷ []) a) (in_order (acknowledged ++ armed ∷ []) a) (falls a));
    }
