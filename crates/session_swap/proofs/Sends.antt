-- What a sequence sends at an envelope goes to the device that the envelope came from.
-- Assumes nothing.
use Prim.Native.Nat.{ℕ}
use mathlib.Core.Path.{◌≡◌, refl, sym, ap, subst⁻¹, ◌∙◌}
use mathlib.Core.Bool.{Bool, true, false, cond, ◌&&◌}
use mathlib.Core.List.{List, [], ◌∷◌, ◌++◌, append-nil}
use lib.Dec.{eqb}
use borrow.Author.Tests.{eqb-true}
use Rattle.std.specs.Prelude.{Option, Some, None, Result, Ok, Err, ◌⊎◌}
use Rattle.std.proofs.Common.{inl, inr}
use Rattle.protocol.specs.declared.Action.{Action}
use Rattle.protocol.specs.declared.Refusal.{Refusal}
use Rattle.protocol.specs.declared.BusAddr.{BusAddr}
use Rattle.protocol.specs.Addr.{byte_of}
use Rattle.device.specs.declared.model.DeviceModel.{DeviceModel}
use Rattle.device.specs.Model.{has_factory_cal}
use Rattle.requests.specs.Requests.{cal_data_req}
use Rattle.sequence.specs.Accepted.{feed_outcome, bytes_outcome}
use Rattle.sequence.specs.Events.{Envelope, Event, fed}
use Rattle.sequence.specs.Rows.{judged, refused, idle, ticked}
use Rattle.sequence.specs.declared.Moved.{Moved}
use Rattle.sequence.specs.declared.Answer.{Answer}
use Rattle.avr_table.specs.declared.AvrStep.{AvrStep}
use Rattle.avr_table.specs.declared.AvrStep.TheVariants as A
use Rattle.avr_table.specs.Stores.{Dated}
use Rattle.avr_table.specs.Table as avr_table
use Rattle.avr_steps.specs.declared.AvrState.{AvrState}
use Rattle.avr_steps.specs.Answers as asteps
use Rattle.avr.specs.declared.AvrSequencer.{AvrSequencer}
use Rattle.avr.specs.Answers as avr
use Rattle.pi_table.specs.declared.PiStep.{PiStep}
use Rattle.pi_table.specs.declared.PiStep.TheVariants as P
use Rattle.pi_table.specs.Table as pi_table
use Rattle.pi.specs.declared.PiSequencer.{PiSequencer}
use Rattle.pi.specs.Answers as pi
use Rattle.session.specs.Answers.{sent, heard}
use Rattle.session_swap.specs.Swap.{to}
use Rattle.session_swap.proofs.Deaf.{avr_deaf, pi_deaf}

-- a send, if there is one, goes to the device with this byte
abbrev pub Goes : ℕ → Option Action → Type 0
Goes n None = Unit {0}
Goes n (Some a) = byte_of a.dest ≡ n

-- ---- an AVR

avr_row : (m : DeviceModel) (k : AvrStep) (e : Event Dated) → Goes 0x30 ((avr_table.row m k).send e)
avr_row m A.WaitStatus1 e = refl
avr_row m A.WaitStatus2 e = refl
avr_row m A.WaitDevInfo1 e = refl
avr_row m A.WaitDevInfo2 e = refl
avr_row m A.WaitParam0C e = refl
avr_row m A.WaitParam0D e = refl
avr_row m A.WaitConfig e = go (has_factory_cal m)
  where
    go : (b : Bool) → byte_of (cond b cal_data_req (Rattle.protocol.specs.Action.send_to Rattle.protocol.specs.declared.BusAddr.TheVariants.Avr Rattle.protocol.specs.declared.Command.TheVariants.CalParamReq)).dest ≡ 0x30
    go true = refl
    go false = refl
avr_row m A.WaitFactoryCal e = refl
avr_row m A.WaitIfCal e = go (has_factory_cal m)
  where
    go : (b : Bool) → Goes 0x30 (cond b (Some (Rattle.protocol.specs.Action.send_to Rattle.protocol.specs.declared.BusAddr.TheVariants.Avr Rattle.protocol.specs.declared.Command.TheVariants.AvrConfigQuery)) None)
    go true = refl
    go false = tt
avr_row m A.WaitAvrConfig e = refl
avr_row m A.WaitParam64 e = refl
avr_row m A.WaitTimeSync e = tt
avr_row m A.Done e = tt

-- at a feed that it acts on
avr_steps : (s : AvrState) (d : Dated) (t : ℕ) → Goes 0x30 (asteps.answered s (fed d t)).action
avr_steps s d t = go (asteps.is_nack (fed d t) && asteps.polling s)
  where
    rowed : (b : Bool)
        → Goes 0x30 (cond b (ticked (avr_table.row s.model s.step) (avr_table.next s.model s.step) (avr_table.row s.model (avr_table.next s.model s.step)) (asteps.view s) (fed d t)) (idle (asteps.view s))).action
    rowed true = avr_row s.model s.step (fed d t)
    rowed false = tt

    go : (b : Bool) → Goes 0x30 (cond b (asteps.will_repoll s (fed d t)) (asteps.advance s (fed d t))).action
    go true = tt
    go false = rowed ((avr_table.row s.model s.step).reply d)

pub avr_sends : (d : Dated) (t : ℕ) (o : Option AvrSequencer) → Goes (byte_of d.envelope.src) (heard (λ s. avr.fed_to s d t) o).action
avr_sends d t None = tt
avr_sends d t (Some s) = go (feed_outcome d.envelope.text d.envelope.payload s.last t)
  where
    -- from the Avr, or from another source
    which : (b : Bool) → eqb (byte_of d.envelope.src) 0x30 ≡ b → Goes (byte_of d.envelope.src) (asteps.answered s.state (fed d t)).action
    which true h = subst⁻¹ (λ (n : ℕ). Goes n (asteps.answered s.state (fed d t)).action) (eqb-true (byte_of d.envelope.src) 0x30 h) (avr_steps s.state d t)
    which false h = subst⁻¹ (λ (w : Moved AvrState). Goes (byte_of d.envelope.src) w.action) (avr_deaf s.state d t h) tt

    go : (o : Result (Unit {0}) Refusal) → Goes (byte_of d.envelope.src) (sent (avr.answered o s (fed d t)).outcome)
    go (Err r) = tt
    go (Ok u) = which (eqb (byte_of d.envelope.src) 0x30) refl

-- ---- a Pi

params_send : (b : Bool) (i : ℕ) → Goes 0x12 (cond b (Some (Rattle.pi_table.specs.Stores.param_read_req i)) None)
params_send true i = refl
params_send false i = tt

pi_row : (k : PiStep) (e : Event Envelope) → Goes 0x12 ((pi_table.row k).send e)
pi_row P.WaitStatus e = refl
pi_row P.WaitDevInfo e = refl
pi_row P.WaitParam0A e = refl
pi_row P.WaitCamConfig1 e = refl
pi_row P.WaitCamConfig2 e = refl
pi_row P.WaitNetConfig e = refl
pi_row P.WaitNetConfigPw e = refl
pi_row (P.WaitParams i) e = params_send _ _
pi_row P.Done e = tt

pi_steps : (s : PiSequencer) (e : Envelope) → Goes 0x12 (sent (pi.advance s (fed e 0)).outcome)
pi_steps s e = go ((pi_table.row s.step).reply e)
  where
    go : (b : Bool)
        → Goes 0x12 (cond b (ticked (pi_table.row s.step) (pi_table.next s.step) (pi_table.row (pi_table.next s.step)) (pi.view s) (fed e 0)) (idle (pi.view s))).action
    go true = pi_row s.step (fed e 0)
    go false = tt

pub pi_sends : (e : Envelope) (o : Option PiSequencer) → Goes (byte_of e.src) (heard (λ s. pi.fed_to s e) o).action
pi_sends e None = tt
pi_sends e (Some s) = go (bytes_outcome e.text e.payload)
  where
    which : (b : Bool) → eqb (byte_of e.src) 0x12 ≡ b → Goes (byte_of e.src) (sent (pi.advance s (fed e 0)).outcome)
    which true h = subst⁻¹ (λ (n : ℕ). Goes n (sent (pi.advance s (fed e 0)).outcome)) (eqb-true (byte_of e.src) 0x12 h) (pi_steps s e)
    which false h = subst⁻¹ (λ (f : Answer PiSequencer). Goes (byte_of e.src) (sent f.outcome)) (pi_deaf s e h) tt

    go : (o : Result (Unit {0}) Refusal) → Goes (byte_of e.src) (sent (judged o (pi.advance s (fed e 0)) (refused s)).outcome)
    go (Err r) = tt
    go (Ok u) = which (eqb (byte_of e.src) 0x12) refl

-- ---- what is sent to a device

abbrev pub AllGo : ℕ → List (Option Action) → Type 0
AllGo n [] = Unit {0}
AllGo n (o ∷ l) = Goes n o × AllGo n l

to-append : (d : BusAddr) (l m : List (Option Action)) → to d (l ++ m) ≡ to d l ++ to d m
to-append d [] m = refl
to-append d (None ∷ l) m = to-append d l m
to-append d (Some a ∷ l) m = rw (to-append d l m) (go (eqb (byte_of a.dest) (byte_of d)))
  where
    go : (b : Bool) → cond b (a ∷ to d l ++ to d m) (to d l ++ to d m) ≡ cond b (a ∷ to d l) (to d l) ++ to d m
    go true = refl
    go false = refl

nothing_to : (d : BusAddr) (n : ℕ) (l : List (Option Action)) → AllGo n l → eqb n (byte_of d) ≡ false → to d l ≡ []
nothing_to d n [] w h = refl
nothing_to d n (None ∷ l) w h = nothing_to d n l w.1 h
nothing_to d n (Some a ∷ l) w h = rw (w.0, h, nothing_to d n l w.1 h) refl

-- the sends of two devices change places
pub to_each : (d : BusAddr) (n k : ℕ) (l m : List (Option Action)) → AllGo n l → AllGo k m → (eqb n (byte_of d) ≡ false) ⊎ (eqb k (byte_of d) ≡ false)
    → to d (l ++ m) ≡ to d (m ++ l)
to_each d n k l m v w (inl h) = to-append d l m ∙ rw (nothing_to d n l v h) (sym (append-nil (to d m))) ∙ ap (λ x. to d m ++ x) (sym (nothing_to d n l v h)) ∙ sym (to-append d m l)
to_each d n k l m v w (inr h) = to-append d l m ∙ ap (λ x. to d l ++ x) (nothing_to d k m w h) ∙ append-nil (to d l) ∙ sym (to-append d m l ∙ ap (λ x. x ++ to d l) (nothing_to d k m w h))
