-- An AVR start-up is a sequence that goes by rows: its state is a function of the events that ticked, the last accepted reading and the
-- time at which a refused status poll is sent again, which is pending only while a status is awaited.
-- Assumes nothing.
use Prim.Native.Nat.{ℕ, zero, suc, ◌≤◌, ◌<◌}
use native.Mathlib.Omega.{arith}
use mathlib.Core.Path.{◌≡◌, refl, sym, ap, ◌∙◌}
use mathlib.Core.Bool.{Bool, true, false, cond, ◌&&◌, true≢false}
use mathlib.Core.List.{List, [], ◌∷◌, ◌++◌, map}
use lib.Dec.{leb, ltb, eqb}
use Rattle.protocol.specs.Addr.{byte_of}
use Rattle.protocol.specs.Kinds.{tag}
use lib.ListN.{length, get_or}
use borrow.Author.Tests.{le-ltb, eqb-true}
use Rattle.std.specs.Prelude.{Option, None, Ok}
use Rattle.device.specs.declared.model.DeviceModel.{DeviceModel}
use Rattle.device.specs.Model.{has_factory_cal}
use Rattle.matching.specs.Promise.{Each, clock}
use Rattle.matching.proofs.Machine as machine
use Rattle.matching.proofs.Embeds.{length-snoc}
use Rattle.matching.proofs.Called.{Called, events_rise}
use Rattle.sequence.specs.declared.Answer.{Answer}
use Rattle.sequence.specs.Accepted.{none, feed_refusals, check_refusals, feed_outcome, check_outcome}
use Rattle.sequence.specs.Events.{Event, fed, checked, reading, Wait, forever, nanos}
use Rattle.sequence.specs.Rows.{reached, State, refused}
use Rattle.sequence.specs.Calls.{feed, check, ask}
use Rattle.sequence.proofs.Acceptance.{feed_accepted, check_accepted, feed_fits, check_fits}
use Rattle.sequence.proofs.Events.{rises, judge}
use Rattle.sequence.proofs.Standing as rows
use Rattle.avr_table.specs.declared.AvrStep.{AvrStep}
use Rattle.avr_table.specs.declared.AvrStep.TheVariants.{WaitStatus1, WaitStatus2, WaitDevInfo1, WaitDevInfo2, WaitParam0C, WaitParam0D, WaitConfig, WaitFactoryCal, WaitIfCal, WaitAvrConfig, WaitParam64, WaitTimeSync, Done}
use Rattle.sheet.specs.declared.Tick.{Tick}
use Rattle.sheet.specs.Ticks.{tick_of, stored, then_tick}
use Rattle.sheet.proofs.Stored.{next as kept_next}
use Rattle.avr_steps.specs.declared.AvrState.{AvrState}
use Rattle.avr_table.specs.Stores.{Dated, Held, env, no_replies, status_poll}
use Rattle.avr_table.specs.Table.{row, next, steps_for, table}
use Rattle.avr_steps.specs.Answers as steps
use Rattle.avr.specs.declared.AvrSequencer.{AvrSequencer}
use Rattle.avr.specs.Answers.{answered, is_done}
use Rattle.avr.specs.Calls.{AvrCall, into_result, sheet, after, event}

abbrev pub E : Type 0
E = Event Dated

abbrev first : Held
first = record { replies = no_replies; repoll = None }

abbrev put : Option ℕ → Held → Held
put x y = record { replies = y.replies; repoll = x }

module _ (m : DeviceModel) where
  abbrev keep : AvrStep → E → Option ℕ → Option ℕ
  keep k e x = ((row m k).store e (put x first)).repoll

  keeps : (k : AvrStep) (e : E) (x : Option ℕ) (y : Held) → (row m k).store e (put x y) ≡ put (keep k e x) ((row m k).store e y)
  keeps WaitStatus1 e x y = refl
  keeps WaitStatus2 e x y = refl
  keeps WaitDevInfo1 e x y = refl
  keeps WaitDevInfo2 e x y = refl
  keeps WaitParam0C e x y = refl
  keeps WaitParam0D e x y = refl
  keeps WaitConfig e x y = refl
  keeps WaitFactoryCal e x y = refl
  keeps WaitIfCal e x y = refl
  keeps WaitAvrConfig e x y = refl
  keeps WaitParam64 e x y = refl
  keeps WaitTimeSync e x y = refl
  keeps Done e x y = refl

  -- the steps follow one another, with a factory calibration or without
  follows : (k : ℕ) → k < length (steps_for m) → next m (get_or (steps_for m) k Done) ≡ get_or (steps_for m) (suc k) Done
  follows zero h = refl
  follows (suc zero) h = refl
  follows (suc (suc zero)) h = refl
  follows (suc (suc (suc zero))) h = refl
  follows (suc (suc (suc (suc zero)))) h = refl
  follows (suc (suc (suc (suc (suc zero))))) h = refl
  follows (suc (suc (suc (suc (suc (suc zero)))))) h = go (has_factory_cal m)
    where
      go : (b : Bool) → cond b WaitFactoryCal WaitIfCal ≡ get_or (cond b (WaitFactoryCal ∷ WaitIfCal ∷ WaitAvrConfig ∷ WaitParam64 ∷ WaitTimeSync ∷ []) (WaitIfCal ∷ [])) 0 Done
      go true = refl
      go false = refl
  follows (suc (suc (suc (suc (suc (suc (suc k))))))) h = go (has_factory_cal m) refl k
    where
      go : (b : Bool) → has_factory_cal m ≡ b → (k : ℕ)
          → next m (get_or (cond b (WaitFactoryCal ∷ WaitIfCal ∷ WaitAvrConfig ∷ WaitParam64 ∷ WaitTimeSync ∷ []) (WaitIfCal ∷ [])) k Done)
          ≡ get_or (cond b (WaitFactoryCal ∷ WaitIfCal ∷ WaitAvrConfig ∷ WaitParam64 ∷ WaitTimeSync ∷ []) (WaitIfCal ∷ [])) (suc k) Done
      go true p zero = refl
      go true p (suc zero) = rw p
      go true p (suc (suc zero)) = refl
      go true p (suc (suc (suc zero))) = refl
      go true p (suc (suc (suc (suc zero)))) = refl
      go true p (suc (suc (suc (suc (suc k))))) = refl
      go false p zero = rw p
      go false p (suc k) = refl

  path : rows.Path (row m) (next m) Done (steps_for m) first put keep
  path = record { follows = follows; ended = refl; keeps = keeps }

  abbrev pub standing : List E → Option ℕ → State AvrStep Held
  standing es x = rows.standing (row m) (next m) Done (steps_for m) first put keep es x

  -- a repoll is pending only while a status is awaited
  abbrev pend : List E → Option ℕ → Option ℕ
  pend es x = cond (ltb (length es) 2) x None

  abbrev held : List E → Option ℕ → AvrState
  held es x = steps.unview m (standing es x)

  abbrev pub ticks : E → Tick
  ticks = tick_of env

  abbrev pub state_of : List E → ℕ → Option ℕ → AvrSequencer
  state_of es t x = record { state = held es (pend es x); last = t; ticks = stored (map ticks es) }

  -- what an event that ticks nothing makes of it
  abbrev aside : E → Option ℕ → Option ℕ
  aside (fed d t) x = cond (steps.is_nack (fed d t)) (steps.later x t) x
  aside (checked t) x = cond (reached x t) None x

  abbrev pub kept : List E → Option ℕ → E → Option ℕ
  kept es x e = cond (machine.ticks reading (table m) es e) None (aside e x)

  abbrev pub kept_all : List E → Option ℕ → List E → Option ℕ
  kept_all es x [] = x
  kept_all es x (e ∷ l) = kept es x e

  abbrev pub extra : List E → ℕ → Option ℕ → AvrCall → Option ℕ
  extra es t x (feed d u) = kept_all es x (event t (feed d u))
  extra es t x (check u) = kept_all es x (event t (check u))
  extra es t x (ask into_result) = x
  extra es t x (ask (sheet buf at)) = x

  -- ---- the rows, where the repoll isn't asked

  -- on such a state no deadline is stale
  fresh : (es : List E) (x : Option ℕ) (e : E) → steps.stale m (held es x) e ≡ false
  fresh es x (fed d t) = refl
  fresh es x (checked t) = go (row m (get_or (steps_for m) (length es) Done)).wait
    where
      go : (w : Wait) → cond (steps.waits w) false (reached (rows.deadline_of w (machine.reading_of reading es)) t) ≡ false
      go forever = refl
      go (nanos n) = refl

  advances : (es : List E) (x : Option ℕ) (e : E) → reading e ≤ 18_446_744_071_709_551_615
      → (steps.advance (held es x) e).state ≡ held (machine.heard reading (table m) es e) (rows.kept (row m) (next m) Done (steps_for m) first put keep es x e)
  advances es x e h =
      rw (fresh es x e)
      (ap (steps.unview m) (rows.moves (row m) (next m) Done (steps_for m) first put keep path es x e (omega arith)))

  advances_tells : (es : List E) (x : Option ℕ) (e : E) → reading e ≤ 18_446_744_071_709_551_615
      → (steps.advance (held es x) e).ticked ≡ machine.ticks reading (table m) es e
  advances_tells es x e h =
      rw (fresh es x e) (rows.tells (row m) (next m) Done (steps_for m) first put keep path es x e (omega arith))

  keep_clear : (k : AvrStep) (e : E) → keep k e None ≡ None
  keep_clear WaitStatus1 e = refl
  keep_clear WaitStatus2 e = refl
  keep_clear WaitDevInfo1 e = refl
  keep_clear WaitDevInfo2 e = refl
  keep_clear WaitParam0C e = refl
  keep_clear WaitParam0D e = refl
  keep_clear WaitConfig e = refl
  keep_clear WaitFactoryCal e = refl
  keep_clear WaitIfCal e = refl
  keep_clear WaitAvrConfig e = refl
  keep_clear WaitParam64 e = refl
  keep_clear WaitTimeSync e = refl
  keep_clear Done e = refl

  cond_same : (x : Option ℕ) (b : Bool) → cond b x x ≡ x
  cond_same x true = refl
  cond_same x false = refl

  and_true : (b : Bool) → b && true ≡ b
  and_true true = refl
  and_true false = refl

  and_false : (b : Bool) → b && false ≡ false
  and_false true = refl
  and_false false = refl

  -- a nack is no status
  not_both : (a : Bool) (k : ℕ) (c : Bool) → (a && eqb k 4) && c ≡ true → a && eqb k 0 ≡ false
  not_both true k c h = go (eqb k 4) refl h
    where
      go : (b : Bool) → eqb k 4 ≡ b → b && c ≡ true → eqb k 0 ≡ false
      go true p q = rw (eqb-true k 4 p)
      go false p q = absurd (true≢false (sym q))
  not_both false k c h = refl

  -- whether it says that an entry was ticked
  abbrev Tells : List E → Option ℕ → E → Type 0
  Tells es x e = (steps.answered (held es (pend es x)) e).ticked ≡ machine.ticks reading (table m) es e

  abbrev Goes : List E → Option ℕ → E → Type 0
  Goes es x e = (steps.answered (held es (pend es x)) e).state ≡ held (machine.heard reading (table m) es e) (pend (machine.heard reading (table m) es e) (kept es x e))

  -- ---- while a status is awaited

  record Early (es : List E) : Type 0 where
    small : ltb (length es) 2 ≡ true
    polls : leb (steps.order (get_or (steps_for m) (length es) Done)) 2 ≡ true
    clears : (e : E) (x : Option ℕ) → keep (get_or (steps_for m) (length es) Done) e x ≡ None
    unchecked : (u : ℕ) → machine.ticks reading (table m) es (checked u) ≡ false
    no_nack_lem : (d : Dated) (u : ℕ) → steps.is_nack (fed d u) ≡ true → machine.ticks reading (table m) es (fed d u) ≡ false

  first_status : Early []
  first_status = record {
    small = refl;
    polls = refl;
    clears = λ e x. refl;
    unchecked = λ u. refl;
    no_nack_lem = λ d u h. not_both (eqb (byte_of d.envelope.src) 0x30) (tag d.envelope.message) _ h;
  }

  second_status : (a : E) → Early (a ∷ [])
  second_status a = record {
    small = refl;
    polls = refl;
    clears = λ e x. refl;
    unchecked = λ u. refl;
    no_nack_lem = λ d u h. not_both (eqb (byte_of d.envelope.src) 0x30) (tag d.envelope.message) _ h;
  }

  module _ (es : List E) (w : Early es) (x : Option ℕ) where
    awaiting : (e : E) → reading e ≤ 18_446_744_071_709_551_615 → Goes es x e
    awaiting (checked u) h = rw (w.small, w.unchecked u) (go (reached x u) refl)
      where
        go : (b : Bool) → reached x u ≡ b
            → (cond b (steps.sends status_poll (steps.with_repoll (held es x) None)) (steps.advance (held es x) (checked u))).state
            ≡ held es (cond (ltb (length es) 2) (cond b None x) None)
        go true p = rw w.small
        go false p = rw w.small (advances es x (checked u) h ∙ rw (w.unchecked u))
    awaiting (fed d u) h = rw (w.small, w.polls, and_true (steps.is_nack (fed d u))) (go (steps.is_nack (fed d u)) refl)
      where
        rowed : (b : Bool) → machine.ticks reading (table m) es (fed d u) ≡ b
            → held (cond b (es ++ fed d u ∷ []) es) (cond b (keep (get_or (steps_for m) (length es) Done) (fed d u) x) x)
            ≡ held (cond b (es ++ fed d u ∷ []) es) (pend (cond b (es ++ fed d u ∷ []) es) (cond b None x))
        rowed true q = rw (w.clears (fed d u) x, cond_same None (ltb (length (es ++ fed d u ∷ [])) 2))
        rowed false q = rw w.small

        go : (b : Bool) → steps.is_nack (fed d u) ≡ b
            → (cond b (steps.will_repoll (held es x) (fed d u)) (steps.advance (held es x) (fed d u))).state
            ≡ held (machine.heard reading (table m) es (fed d u))
            (pend (machine.heard reading (table m) es (fed d u)) (cond (machine.ticks reading (table m) es (fed d u)) None (cond b (steps.later x u) x)))
        go true p = rw (w.no_nack_lem d u p, w.small)
        go false p = advances es x (fed d u) h ∙ rowed (machine.ticks reading (table m) es (fed d u)) refl

    awaiting_tells : (e : E) → reading e ≤ 18_446_744_071_709_551_615 → Tells es x e
    awaiting_tells (checked u) h = rw (w.small, w.unchecked u) (go (reached x u))
      where
        go : (b : Bool) → (cond b (steps.sends status_poll (steps.with_repoll (held es x) None)) (steps.advance (held es x) (checked u))).ticked ≡ false
        go true = refl
        go false = advances_tells es x (checked u) h ∙ w.unchecked u
    awaiting_tells (fed d u) h = rw (w.small, w.polls, and_true (steps.is_nack (fed d u))) (go (steps.is_nack (fed d u)) refl)
      where
        go : (b : Bool) → steps.is_nack (fed d u) ≡ b
            → (cond b (steps.will_repoll (held es x) (fed d u)) (steps.advance (held es x) (fed d u))).ticked ≡ machine.ticks reading (table m) es (fed d u)
        go true p = sym (w.no_nack_lem d u p)
        go false p = advances_tells es x (fed d u) h

  -- ---- later

  late_order : (k : ℕ) → 2 ≤ k → leb (steps.order (get_or (steps_for m) k Done)) 2 ≡ false
  late_order zero h = absurd (omega arith)
  late_order (suc zero) h = absurd (omega arith)
  late_order (suc (suc zero)) h = refl
  late_order (suc (suc (suc zero))) h = refl
  late_order (suc (suc (suc (suc zero)))) h = refl
  late_order (suc (suc (suc (suc (suc zero))))) h = refl
  late_order (suc (suc (suc (suc (suc (suc zero)))))) h = refl
  late_order (suc (suc (suc (suc (suc (suc (suc k))))))) h = go (has_factory_cal m) k
    where
      go : (b : Bool) (k : ℕ)
          → leb (steps.order (get_or (cond b (WaitFactoryCal ∷ WaitIfCal ∷ WaitAvrConfig ∷ WaitParam64 ∷ WaitTimeSync ∷ []) (WaitIfCal ∷ [])) k Done)) 2 ≡ false
      go true zero = refl
      go true (suc zero) = refl
      go true (suc (suc zero)) = refl
      go true (suc (suc (suc zero))) = refl
      go true (suc (suc (suc (suc zero)))) = refl
      go true (suc (suc (suc (suc (suc k))))) = refl
      go false zero = refl
      go false (suc k) = refl

  grown : (es : List E) (e : E) → 2 ≤ length es → ltb (length (machine.heard reading (table m) es e)) 2 ≡ false
  grown es e h = go (machine.ticks reading (table m) es e)
    where
      go : (b : Bool) → ltb (length (cond b (es ++ e ∷ []) es)) 2 ≡ false
      go true = le-ltb (length (es ++ e ∷ [])) 2 (omega (arith, length-snoc es e))
      go false = le-ltb (length es) 2 h

  -- the rows make nothing of a repoll that isn't pending
  none_kept : (es : List E) (e : E) → rows.kept (row m) (next m) Done (steps_for m) first put keep es None e ≡ None
  none_kept es e = rw (keep_clear (get_or (steps_for m) (length es) Done) e) (cond_same None (machine.ticks reading (table m) es e))

  afterwards : (es : List E) (x : Option ℕ) (e : E) → 2 ≤ length es → reading e ≤ 18_446_744_071_709_551_615 → Goes es x e
  afterwards es x (checked u) l h = rw (le-ltb (length es) 2 l, grown es (checked u) l) (advances es None (checked u) h ∙ ap (held (machine.heard reading (table m) es (checked u))) (none_kept es (checked u)))
  afterwards es x (fed d u) l h =
      rw (le-ltb (length es) 2 l, grown es (fed d u) l, late_order (length es) l, and_false (steps.is_nack (fed d u)))
      (advances es None (fed d u) h ∙ ap (held (machine.heard reading (table m) es (fed d u))) (none_kept es (fed d u)))

  afterwards_tells : (es : List E) (x : Option ℕ) (e : E) → 2 ≤ length es → reading e ≤ 18_446_744_071_709_551_615 → Tells es x e
  afterwards_tells es x (checked u) l h = rw (le-ltb (length es) 2 l) (advances_tells es None (checked u) h)
  afterwards_tells es x (fed d u) l h =
      rw (le-ltb (length es) 2 l, late_order (length es) l, and_false (steps.is_nack (fed d u))) (advances_tells es None (fed d u) h)

  tells : (es : List E) (x : Option ℕ) (e : E) → reading e ≤ 18_446_744_071_709_551_615 → Tells es x e
  tells [] x e h = awaiting_tells [] first_status x e h
  tells (a ∷ []) x e h = awaiting_tells (a ∷ []) (second_status a) x e h
  tells (a ∷ b ∷ es) x e h = afterwards_tells (a ∷ b ∷ es) x e (omega arith) h

  goes : (es : List E) (x : Option ℕ) (e : E) → reading e ≤ 18_446_744_071_709_551_615 → Goes es x e
  goes [] x e h = awaiting [] first_status x e h
  goes (a ∷ []) x e h = awaiting (a ∷ []) (second_status a) x e h
  goes (a ∷ b ∷ es) x e h = afterwards (a ∷ b ∷ es) x e (omega arith) h

  -- ---- a call

  -- an accepted event moves the state, and the ticks with it
  accepts : (es : List E) (t : ℕ) (x : Option ℕ) (e : E) → reading e ≤ 18_446_744_071_709_551_615
      → (answered (Ok tt) (state_of es t x) e).seq ≡ state_of (machine.heard reading (table m) es e) (reading e) (kept es x e)
  accepts es t x e h =
      let moved = goes es x e h in
      let told = ap (λ (b : Bool). then_tick (stored (map ticks es)) b (ticks e)) (tells es x e h) ∙ kept_next ticks es e (machine.ticks reading (table m) es e) in
      λ i. record { state = moved i; last = reading e; ticks = told i }

  abbrev Is : List E → ℕ → Option ℕ → Answer AvrSequencer → List E → Type 0
  Is es t x f l = f.seq ≡ state_of (machine.ticked_from reading (table m) es l) (clock reading t l) (kept_all es x l)

  one : (es : List E) (t : ℕ) (x : Option ℕ) (c : AvrCall)
      → after (state_of es t x) c ≡ state_of (machine.ticked_from reading (table m) es (event t c)) (clock reading t (event t c)) (extra es t x c)
  one es t x (feed d u) =
      let s = state_of es t x in
      let v = d.envelope in
      judge (Is es t x) (answered (Ok tt) s (fed d u)) (refused s) (fed d u) (feed_outcome v.text v.payload t u)
      (none (feed_refusals v.text v.payload t u)) (feed_accepted v.text v.payload t u)
      (λ p. accepts es t x (fed d u) (feed_fits v.text v.payload t u p).time.small)
      (λ o. refl)
  one es t x (check u) =
      let s = state_of es t x in
      judge (Is es t x) (answered (Ok tt) s (checked u)) (refused s) (checked u) (check_outcome t u)
      (none (check_refusals t u)) (check_accepted t u)
      (λ p. accepts es t x (checked u) (check_fits t u p).small)
      (λ o. refl)
  one es t x (ask into_result) = refl
  one es t x (ask (sheet buf at)) = refl

  pub sequencer : Called reading (table m) after event state_of extra
  sequencer = record { rises = events_rise reading event (rises env) 0; one = λ es t x c h. one es t x c }

  -- Done is none of the table's steps
  pub others : Each (λ k. is_done k ≡ false) (steps_for m)
  others = (refl, (refl, (refl, (refl, (refl, (refl, (refl, go (has_factory_cal m))))))))
    where
      go : (b : Bool) → Each (λ k. is_done k ≡ false) (cond b (WaitFactoryCal ∷ WaitIfCal ∷ WaitAvrConfig ∷ WaitParam64 ∷ WaitTimeSync ∷ []) (WaitIfCal ∷ []))
      go true = (refl, (refl, (refl, (refl, (refl, tt)))))
      go false = (refl, tt)
