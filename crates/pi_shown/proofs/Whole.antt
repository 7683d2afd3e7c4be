-- The theorem holds: two sequencers that are the same but for the network go on so, and show the same.
-- Assumes nothing.
use Prim.Native.Nat.{ℕ, ◌≤◌}
use mathlib.Core.Path.{◌≡◌, refl, sym, ap, ◌∙◌, subst, subst⁻¹}
use mathlib.Core.Bool.{Bool, true, false, ◌&&◌, cond, true≢false}
use mathlib.Core.List.{List, [], ◌∷◌}
use lib.Dec.{eqb}
use lib.ListN.{length}
use borrow.Author.Tests.{le-ltb, eqb-true}
use Rattle.std.specs.Prelude.{Option, Some, Result, Ok, Err, ◌⊎◌}
use Rattle.std.proofs.Common.{inl, inr}
use Rattle.protocol.specs.declared.CamConfig.{CamConfig}
use Rattle.protocol.specs.declared.DevInfoResp.{DevInfoResp}
use Rattle.protocol.specs.declared.Refusal.{Refusal}
use Rattle.protocol.specs.declared.Stored.{Stored}
use Rattle.protocol.specs.Addr.{byte_of}
use Rattle.protocol.specs.Kinds.{tag, net_config_resp}
use Rattle.protocol.specs.Stored.{stored}
use Rattle.sequence.specs.Accepted.{bytes_outcome}
use Rattle.sequence.specs.Events.{Envelope, fed, of_kind}
use Rattle.sequence.specs.Replies.{dev_info_in}
use Rattle.sequence.specs.declared.Answer.{Answer}
use Rattle.sequence.specs.Rows.{ticked, idle, judged, refused}
use Rattle.sequence.specs.Calls.{feed, ask}
use Rattle.sheet.specs.declared.StartUp.{StartUp}
use Rattle.sheet.specs.declared.Ticks.{Ticks}
use Rattle.sheet.specs.Sheet as text
use Rattle.sheet.specs.Sheet.{given}
use Rattle.sheet.specs.Ticks.{tick_of, with_tick, kept}
use Rattle.pi_table.specs.declared.PiStep.{PiStep}
use Rattle.pi_table.specs.declared.PiStep.TheVariants.{WaitStatus, WaitDevInfo, WaitParam0A, WaitCamConfig1, WaitCamConfig2, WaitNetConfig, WaitNetConfigPw, WaitParams, Done}
use Rattle.pi_table.specs.Stores.{from_pi}
use Rattle.pi_table.specs.Table.{PiRow, row, next}
use Rattle.pi.specs.declared.PiSequencer.{PiSequencer}
use Rattle.pi.specs.Answers.{view, made, arm_at, fed_to, finished, begun}
use Rattle.pi.specs.Calls.{PiCall, Asked, into_result, sheet, after}
use Rattle.pi_shown.specs.Shown.{with_text, OtherText, Alike, AllAlike, rest, Outcome, of_feed, of_result, of_sheet, outcome_of, beside, shown, shown_all}
use Rattle.pi_shown.specs.Theorem.{Theorem}
use Rattle.pi_shown.proofs.Compared.{reads}

-- the sequencer at a step, with what is kept and stored; n: the network
abbrev at : PiStep → Ticks → Option DevInfoResp → Option CamConfig → Stored × Stored → PiSequencer
at k ts d c n = record { step = k; replies = record { dev_info = d; cam_config = c; ssid = n.0; password = n.1 }; ticks = ts }

-- the same but for the network
record Near (s t : PiSequencer) : Type 0 where
  step : s.step ≡ t.step
  ticks : s.ticks ≡ t.ticks
  dev_info : s.replies.dev_info ≡ t.replies.dev_info
  cam_config : s.replies.cam_config ≡ t.replies.cam_config

-- two answers to feeds, and the sequencers then
record Same (f g : Answer PiSequencer) : Type 0 where
  outcome : f.outcome ≡ g.outcome
  seq : Near f.seq g.seq

module _ (ts : Ticks) (d : Option DevInfoResp) (c : Option CamConfig) (n m : Stored × Stored) where
  abbrev s_at : PiStep → PiSequencer
  s_at k = at k ts d c n

  abbrev t_at : PiStep → PiSequencer
  t_at k = at k ts d c m

  near : (k : PiStep) → Near (s_at k) (t_at k)
  near k = record { step = refl; ticks = refl; dev_info = refl; cam_config = refl }

  -- ---- an accepted envelope, or the one beside it

  -- a row sees no difference between these two, and keeps them the same but for the network; so does the sheet
  record Blind (r : PiRow) (a b : Envelope) : Type 0 where
    tick : tick_of (λ v. v) (fed a 0) ≡ tick_of (λ v. v) (fed b 0)
    reply : r.reply a ≡ r.reply b
    send : r.send (fed a 0) ≡ r.send (fed b 0)
    dev_info : r.reply a ≡ true → (r.store (fed a 0) (s_at Done).replies).dev_info ≡ (r.store (fed b 0) (t_at Done).replies).dev_info
    cam_config : r.reply a ≡ true → (r.store (fed a 0) (s_at Done).replies).cam_config ≡ (r.store (fed b 0) (t_at Done).replies).cam_config

  goes : (r : PiRow) (k k' : PiStep) (r' : PiRow) (a b : Envelope) → Blind r a b → Same (arm_at r k' r' (s_at k) (fed a 0)) (arm_at r k' r' (t_at k) (fed b 0))
  goes r k k' r' a b w = rw (← w.reply) (go (r.reply a) refl)
    where
      go : (x : Bool) → r.reply a ≡ x
          → Same (made ts (fed a 0) (cond x (ticked r k' r' (view (s_at k)) (fed a 0)) (idle (view (s_at k))))) (made ts (fed b 0) (cond x (ticked r k' r' (view (t_at k)) (fed b 0)) (idle (view (t_at k)))))
      go true p = record { outcome = ap Ok w.send; seq = record { step = refl; ticks = ap (with_tick ts) w.tick; dev_info = w.dev_info p; cam_config = w.cam_config p } }
      go false p = record { outcome = refl; seq = near k }

  -- a network reply is no device info
  no_info : (x : Bool) (k : ℕ) → eqb k 15 ≡ true → x && eqb k 13 ≡ true → ⊥
  no_info true k h p = true≢false (sym p ∙ rw (eqb-true k 15 h) refl)
  no_info false k h p = true≢false (sym p)

  -- an envelope with its own text, or a network reply with any
  abbrev Retold : Envelope → List ℕ → Type 0
  Retold a x = (a.text ≡ x) ⊎ (of_kind net_config_resp a ≡ true)

  infos : (a : Envelope) (x : List ℕ) → Retold a x → from_pi 13 a ≡ true → dev_info_in (λ v. v) (fed a 0) ≡ dev_info_in (λ v. v) (fed (with_text x a) 0)
  infos a x (inl h) p = ap (λ t. Some (record { text = stored t; payload = stored a.payload })) h
  infos a x (inr h) p = absurd (no_info (eqb (byte_of a.src) 0x12) (tag a.message) h p)

  blind : (k : PiStep) (a : Envelope) (x : List ℕ) → Retold a x → Blind (row k) a (with_text x a)
  blind WaitStatus a x w = record { tick = refl; reply = refl; send = refl; dev_info = λ p. refl; cam_config = λ p. refl }
  blind WaitDevInfo a x w = record { tick = refl; reply = refl; send = refl; dev_info = infos a x w; cam_config = λ p. refl }
  blind WaitParam0A a x w = record { tick = refl; reply = refl; send = refl; dev_info = λ p. refl; cam_config = λ p. refl }
  blind WaitCamConfig1 a x w = record { tick = refl; reply = refl; send = refl; dev_info = λ p. refl; cam_config = λ p. refl }
  blind WaitCamConfig2 a x w = record { tick = refl; reply = refl; send = refl; dev_info = λ p. refl; cam_config = λ p. refl }
  blind WaitNetConfig a x w = record { tick = refl; reply = refl; send = refl; dev_info = λ p. refl; cam_config = λ p. refl }
  blind WaitNetConfigPw a x w = record { tick = refl; reply = refl; send = refl; dev_info = λ p. refl; cam_config = λ p. refl }
  blind (WaitParams i) a x w = record { tick = refl; reply = refl; send = refl; dev_info = λ p. refl; cam_config = λ p. refl }
  blind Done a x w = record { tick = refl; reply = refl; send = refl; dev_info = λ p. refl; cam_config = λ p. refl }

  -- ---- a feed, refused or not

  judges : (k : PiStep) (o : Result (Unit {0}) Refusal) (f g : Answer PiSequencer) → Same f g → Same (judged o f (refused (s_at k))) (judged o g (refused (t_at k)))
  judges k (Ok u) f g w = w
  judges k (Err r) f g w = record { outcome = refl; seq = near k }

  feeds_at : (k : PiStep) (a : Envelope) (x : List ℕ) → bytes_outcome a.text a.payload ≡ bytes_outcome x a.payload → Retold a x
      → Same (fed_to (s_at k) a) (fed_to (t_at k) (with_text x a))
  feeds_at k a x o w =
      rw o (judges k (bytes_outcome x a.payload) _ _ (goes (row k) k (next k) (row (next k)) a (with_text x a) (blind k a x w)))

  -- no text of at most 256 bytes is refused
  both_fit : (x y z : List ℕ) → length x ≤ 256 → length y ≤ 256 → bytes_outcome x z ≡ bytes_outcome y z
  both_fit x y z h i = rw (le-ltb 256 (length x) h, le-ltb 256 (length y) i) refl

  feeds : (k : PiStep) (a b : Envelope) → (a ≡ b) ⊎ OtherText a b → Same (fed_to (s_at k) a) (fed_to (t_at k) b)
  feeds k a b (inl h) = subst (λ (e : Envelope). Same (fed_to (s_at k) a) (fed_to (t_at k) e)) h (feeds_at k a a.text refl (inl refl))
  feeds k a b (inr w) =
      subst⁻¹ (λ (e : Envelope). Same (fed_to (s_at k) a) (fed_to (t_at k) e)) w.same
      (feeds_at k a b.text (both_fit a.text b.text a.payload w.first w.second) (inr w.network))

-- ---- what is shown

-- t, as s has it but for the network
spelled : (s t : PiSequencer) → Near s t → t ≡ at s.step s.ticks s.replies.dev_info s.replies.cam_config (t.replies.ssid, t.replies.password)
spelled s t h = rw (h.step, h.ticks, h.dev_info, h.cam_config) refl

-- what is shown, and the result that is asked for, are without it
record Unseen (s t : PiSequencer) : Type 0 where
  showing : (o : Outcome) → beside o s ≡ beside o t
  result : rest (finished s) ≡ rest (finished t)

unseen_at : (k : PiStep) (ts : Ticks) (d : Option DevInfoResp) (c : Option CamConfig) (n m : Stored × Stored) → Unseen (at k ts d c n) (at k ts d c m)
unseen_at WaitStatus ts d c n m = record { showing = λ o. refl; result = refl }
unseen_at WaitDevInfo ts d c n m = record { showing = λ o. refl; result = refl }
unseen_at WaitParam0A ts d c n m = record { showing = λ o. refl; result = refl }
unseen_at WaitCamConfig1 ts d c n m = record { showing = λ o. refl; result = refl }
unseen_at WaitCamConfig2 ts d c n m = record { showing = λ o. refl; result = refl }
unseen_at WaitNetConfig ts d c n m = record { showing = λ o. refl; result = refl }
unseen_at WaitNetConfigPw ts d c n m = record { showing = λ o. refl; result = refl }
unseen_at (WaitParams i) ts d c n m = record { showing = λ o. refl; result = refl }
unseen_at Done ts d c n m = record { showing = λ o. refl; result = refl }

unseen : (s t : PiSequencer) → Near s t → Unseen s t
unseen s t h =
    subst⁻¹ (λ (u : PiSequencer). Unseen s u) (spelled s t h)
    (unseen_at s.step s.ticks s.replies.dev_info s.replies.cam_config (s.replies.ssid, s.replies.password) (t.replies.ssid, t.replies.password))

fed_both : (s t : PiSequencer) → Near s t → (a b : Envelope) → (a ≡ b) ⊎ OtherText a b → Same (fed_to s a) (fed_to t b)
fed_both s t h a b w =
    subst⁻¹ (λ (u : PiSequencer). Same (fed_to s a) (fed_to u b)) (spelled s t h)
    (feeds s.ticks s.replies.dev_info s.replies.cam_config (s.replies.ssid, s.replies.password) (t.replies.ssid, t.replies.password) s.step a b w)

asked : (s t : PiSequencer) → Near s t → (q : Asked) → outcome_of s (ask q) ≡ outcome_of t (ask q)
asked s t h into_result = ap of_result (unseen s t h).result
asked s t h (sheet buf place) = ap (λ ts. of_sheet (given (text.sheet StartUp.Pi (kept ts)) place buf)) h.ticks

-- two calls
record Shows (s t : PiSequencer) (c d : PiCall) : Type 0 where
  told : shown s c ≡ shown t d
  seq : Near (after s c) (after t d)

both : (s t : PiSequencer) (c d : PiCall) → outcome_of s c ≡ outcome_of t d → Near (after s c) (after t d) → Shows s t c d
both s t c d f h = record { told = ap (λ o. beside o (after s c)) f ∙ (unseen (after s c) (after t d) h).showing (outcome_of t d); seq = h }

call : (s t : PiSequencer) → Near s t → (c d : PiCall) → Alike c d → Shows s t c d
call s t h (feed a) (feed b) w =
    let f = fed_both s t h a b w in
    both s t (feed a) (feed b) (ap of_feed f.outcome) f.seq
call s t h (feed a) (ask r) w = absurd w
call s t h (ask q) (feed b) w = absurd w
call s t h (ask q) (ask r) w = subst (λ r. Shows s t (ask q) (ask r)) w (both s t (ask q) (ask q) (asked s t h q) (stays q))
  where
    stays : (q : Asked) → Near (after s (ask q)) (after t (ask q))
    stays into_result = h
    stays (sheet buf place) = h

all : (s t : PiSequencer) → Near s t → (cs ds : List PiCall) → AllAlike cs ds → shown_all s cs ≡ shown_all t ds
all s t h [] [] w = refl
all s t h [] (d ∷ ds) w = absurd w
all s t h (c ∷ cs) [] w = absurd w
all s t h (c ∷ cs) (d ∷ ds) w =
    let v = call s t h c d w.0 in
    ap (λ x. x ∷ shown_all (after s c) cs) v.told ∙ ap (λ l. shown t d ∷ l) (all (after s c) (after t d) v.seq cs ds w.1)

pub stays_out : Theorem
stays_out = record {
  same = all begun.seq begun.seq (record { step = refl; ticks = refl; dev_info = refl; cam_config = refl });
  reads = reads;
}
