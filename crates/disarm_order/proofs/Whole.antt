-- The theorem holds.
-- Assumes nothing.
use Rattle.std.proofs.Common.{◌≡◌, refl, sym, ap, ◌∙◌, subst, Bool, true, false, not, ◌&&◌, ◌||◌, cond, List, [], ◌∷◌, ◌++◌, eqb, ltb, length, Ok, None}
use mathlib.Core.Bool.{true≢false}
use Rattle.protocol.specs.declared.BusAddr.{BusAddr}
use Rattle.protocol.specs.declared.ConfigAck.{ConfigAck}
use Rattle.protocol.specs.declared.Message.{Message}
use Rattle.protocol.specs.Addr.{byte_of}
use Rattle.protocol.specs.Kinds as kinds
use Rattle.device.specs.Search.{contains}
use Rattle.sequence.specs.Accepted.{bytes_refusals, none}
use Rattle.sequence.specs.Events.{Envelope, of_kind, fed}
use Rattle.sequence.specs.declared.Answer.{Answer}
use Rattle.disarm.specs.declared.DisarmStep.{DisarmStep}
use Rattle.disarm.specs.declared.DisarmStep.TheVariants.{WaitAck, WaitModeReset, WaitStateIdle, Done}
use Rattle.disarm.specs.declared.DisarmSequencer.{DisarmSequencer}
use Rattle.disarm.specs.Table.{row, next, armed_cancelled, system_state}
use Rattle.disarm.specs.Answers.{fed_to, advance, made, view}
use Rattle.sequence.specs.Rows.{ticked, idle}
use Rattle.disarm_order.specs.Order.{Test, decides, tests, swapped, ack_first, source, ignored, answer_by, Accepted, InOrder}

-- an accepted feed is what the row does
goes_on : (s : DisarmSequencer) (e : Envelope) → Accepted e → fed_to s e ≡ advance s (fed e 0)
goes_on s e h = at (ltb 256 (length e.text)) (ltb 256 (length e.payload)) refl refl h
  where
    at : (a b : Bool) → ltb 256 (length e.text) ≡ a → ltb 256 (length e.payload) ≡ b → not a && (not b && true) ≡ true → fed_to s e ≡ advance s (fed e 0)
    at true b i j k = absurd (true≢false (sym k))
    at false true i j k = absurd (true≢false (sym k))
    at false false i j k = rw (i, j) refl

-- the three tests of the first step, and the two of the others
first : (e : Envelope) → eqb (byte_of e.src) 0x30 && of_kind kinds.config_ack e ≡ decides (tests WaitAck) e
first e = at (eqb (byte_of e.src) 0x30) (of_kind kinds.config_ack e)
  where
    at : (a b : Bool) → a && b ≡ cond (not a) false (cond (not b) false (cond b true false))
    at true true = refl
    at true false = refl
    at false b = refl

two : (a b : Bool) → a || b ≡ cond a true (cond b true false)
two true b = refl
two false true = refl
two false false = refl

turned : (a b : Bool) → a || b ≡ cond b true (cond a true false)
turned true true = refl
turned true false = refl
turned false true = refl
turned false false = refl

-- each row's test is what its list decides, mode and text in either order
test_is : (k : DisarmStep) (e : Envelope) → (row k).reply e ≡ decides (tests k) e
test_is WaitAck e = first e
test_is WaitModeReset e = two (of_kind kinds.mode_ack e) (of_kind kinds.text e && contains armed_cancelled e.text)
test_is WaitStateIdle e = turned (of_kind kinds.mode_ack e) (of_kind kinds.text e && contains system_state e.text)
test_is Done e = refl

swapped_is : (k : DisarmStep) (e : Envelope) → (row k).reply e ≡ decides (swapped k) e
swapped_is WaitAck e = first e
swapped_is WaitModeReset e = turned (of_kind kinds.mode_ack e) (of_kind kinds.text e && contains armed_cancelled e.text)
swapped_is WaitStateIdle e = two (of_kind kinds.mode_ack e) (of_kind kinds.text e && contains system_state e.text)
swapped_is Done e = refl

abbrev answered : DisarmStep → Bool → Answer DisarmSequencer
answered k p = record { outcome = Ok None; seq = record { step = cond p (next k) k } }

moved : (k : DisarmStep) (e : Envelope) → advance (record { step = k }) (fed e 0) ≡ answered k ((row k).reply e)
moved k e = at k ((row k).reply e)
  where
    at : (k : DisarmStep) (p : Bool) → made (cond p (ticked (row k) (next k) (row (next k)) (view (record { step = k })) (fed e 0)) (idle (view (record { step = k })))) ≡ answered k p
    at WaitAck true = refl
    at WaitAck false = refl
    at WaitModeReset true = refl
    at WaitModeReset false = refl
    at WaitStateIdle true = refl
    at WaitStateIdle false = refl
    at Done true = refl
    at Done false = refl

pub right : InOrder
right = record {
  by_lists = λ s e h. goes_on s e h ∙ moved s.step e ∙ ap (answered s.step) (test_is s.step e);
  change_places = λ s e h. goes_on s e h ∙ moved s.step e ∙ ap (answered s.step) (swapped_is s.step e);
  not_first = λ s e a k h d m q. other s e a k d m (sym (moved s.step e) ∙ sym (goes_on s e h) ∙ q);
}
  where
    is_waiting : DisarmStep → Bool
    is_waiting WaitAck = true
    is_waiting WaitModeReset = false
    is_waiting WaitStateIdle = false
    is_waiting Done = false

    -- by the row it waits on, by the other list it doesn't
    other : (s : DisarmSequencer) (e : Envelope) (a : ConfigAck) → s.step ≡ WaitAck → e.src ≡ BusAddr.Dsp → e.message ≡ Message.ConfigAck a → answered s.step ((row s.step).reply e) ≡ answer_by ack_first s e → ⊥
    other s e a k d m q =
        let stays : (row WaitAck).reply e ≡ false = ap (λ b. eqb (byte_of b) 0x30 && of_kind kinds.config_ack e) d in
        let goes : decides ack_first e ≡ true = ap (λ n. cond (eqb (kinds.tag n) kinds.config_ack) true (decides (source ∷ ignored ∷ []) e)) m in
        let here : is_waiting (cond ((row s.step).reply e) (next s.step) s.step) ≡ true = rw (k, stays) refl in
        let there : is_waiting (cond (decides ack_first e) (next s.step) s.step) ≡ false = rw (k, goes) refl in
        true≢false (sym here ∙ ap (λ (x : Answer DisarmSequencer). is_waiting x.seq.step) q ∙ there)
