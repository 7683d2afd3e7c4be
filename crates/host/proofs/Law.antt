-- Where nothing stands beside an absent record, what Beside.antt adds is what is there already.
-- Assumes nothing.
use Rattle.std.proofs.Common.{◌≡◌, refl, sym, ap, ◌∙◌, Bool, true, false, ◌||◌, Option, Some, None, Result, Ok, Err, ℕ, []}
use Rattle.std.specs.Bool.{then_some}
use Rattle.std.specs.Prelude.{unwrap_or}
use mathlib.Core.Bool.{true≢false}
use Rattle.protocol.specs.declared.Nack.{Nack}
use Rattle.protocol.specs.declared.Refusal.{Refusal}
use Rattle.protocol.specs.declared.DevInfoResp.{DevInfoResp}
use Rattle.protocol.specs.declared.ConfigResp.{ConfigResp}
use Rattle.protocol.specs.Carried.{no_dev_info, no_config, no_avr_status, no_cam_config}
use Rattle.sequence.specs.declared.Answer.{Answer}
use Rattle.sequence.specs.Rows.{judged}
use Rattle.dsp_table.specs.declared.DspReplies.{DspReplies}
use Rattle.dsp_table.specs.declared.DspStatusReply.{DspStatusReply}
use Rattle.dsp_table.specs.Stores.{no_status}
use Rattle.avr_table.specs.declared.AvrReplies.{AvrReplies}
use Rattle.pi_table.specs.declared.PiReplies.{PiReplies}
use Rattle.dsp.specs.declared.DspSequencer.{DspSequencer}
use Rattle.dsp.specs.Answers as dsp
use Rattle.avr.specs.declared.AvrSequencer.{AvrSequencer}
use Rattle.avr.specs.Answers as avr_answers
use Rattle.pi.specs.declared.PiSequencer.{PiSequencer}
use Rattle.pi.specs.Answers as pi_answers
use Rattle.avr_config.specs.declared.AvrConfigSequencer.{AvrConfigSequencer}
use Rattle.avr_config.specs.Answers as config_answers
use Rattle.abi_values.specs.declared.UnknownNumber.{UnknownNumber}
use Rattle.abi_values.specs.declared.options.COptionInstant.{COptionInstant}
use Rattle.abi_values.specs.declared.options.COptionDevInfoResp.{COptionDevInfoResp}
use Rattle.abi_values.specs.declared.options.COptionConfigResp.{COptionConfigResp}
use Rattle.abi_values.specs.Numbers.{and_then, addr_in}
use Rattle.abi_values.specs.Options.{instant_out, dev_info_in, dev_info_out, config_in, config_out}
use Rattle.abi_messages.specs.declared.Envelope as host
use Rattle.abi_messages.specs.Messages.{envelope_in, dsp_status_in, dsp_status_out}
use Rattle.abi_sheet.specs.Ticks.{ticks_in}
use Rattle.abi.specs.Settings.{radar_cal_out}
use Rattle.abi_dsp.specs.declared.COptionNack.{COptionNack}
use Rattle.abi_dsp.specs.declared.COptionDspStatus.{COptionDspStatus}
use Rattle.abi_dsp.specs.State.{nack_in, nack_out, status_in, status_out, hw_info_in, hw_info_out, dsp_step_in, dsp_in, dsp_out}
use Rattle.abi_dsp.specs.declared.CDsp.{CDsp}
use Rattle.abi_avr.specs.declared.CAvr.{CAvr}
use Rattle.abi_avr.specs.State as avr
use Rattle.abi_avr.specs.State.{stored_out, factory_cal_out, if_cal_out, avr_step_in, avr_in, avr_out}
use Rattle.abi_pi.specs.declared.CPi.{CPi}
use Rattle.abi_pi.specs.State as pi_state
use Rattle.abi_pi.specs.State.{cam_config_out, pi_step_in, pi_in, pi_out}
use Rattle.abi_avr_config.specs.declared.CAvrConfig.{CAvrConfig}
use Rattle.abi_avr_config.specs.State.{avr_config_in, avr_config_out}
use Rattle.host.specs.declared.c_dsp.CDspTaken.{CDspTaken}
use Rattle.host.specs.declared.fed.Fed.{Fed}
use Rattle.host.specs.Sends.{known, both, opened}
use Rattle.host.specs.Fed.{answered, alone, declined}
use Rattle.host.specs.Beside.{beside, plain, dsp_beside, avr_beside, pi_beside, avr_config_beside}
use Rattle.host.specs.Timed.{dsp_fed, dsp_sync, dsp_sync_beside, dsp_finished, without_nack, avr_fed, avr_sync, avr_sync_beside, avr_finished}
use Rattle.host.specs.Untimed.{pi_fed, pi_sync_beside, pi_finished, avr_config_fed}
use Rattle.host.specs.Law.{Bare, DspTold, DspBare, AvrTold, AvrBare, PiBare, AvrConfigBare, dsp_told, avr_told, pi_told, NothingBeside}

-- ---- a record that may be absent

same : {A C : Type 0} (there : C → Bool) (out : Option A → C) → there (out None) ≡ false → ((x : A) → there (out (Some x)) ≡ true) → (n : Option A) (c : C)
    → Bare (there c) c (out None) → beside (there (out n) || there c) (out n) c ≡ out n
same there out none some (Some x) c h = rw (some x)
same there out none some None c h = go (there c) refl
  where
    go : (b : Bool) → there c ≡ b → beside (there (out None) || there c) (out None) c ≡ out None
    go true p = rw (none, p)
    go false p = rw (none, p) (h p)

-- of a deadline, which its step may have left, too
instant : (n : Option ℕ) (c : COptionInstant) (over : Bool) → Bare c.some c (instant_out None) → beside (((instant_out n).some || c.some) || over) (instant_out n) c ≡ instant_out n
instant (Some t) c over h = refl
instant None c over h = go c.some over refl
  where
    go : (b o : Bool) → c.some ≡ b → beside ((false || c.some) || o) (instant_out None) c ≡ instant_out None
    go true o p = rw p
    go false true p = rw (h p)
    go false false p = rw (h p)

-- of the DSP's status, of which the record of its own layout alone comes back
dsp_status : (n : Option DspStatusReply) (c : COptionDspStatus) → Bare c.some (record { some = false; value = plain c.value; payload = c.payload }) (status_out None)
    → beside ((status_out n).some || c.some) (status_out n) (record { some = false; value = plain c.value; payload = c.payload }) ≡ status_out n
dsp_status (Some r) c h = refl
dsp_status None c h = go c.some refl
  where
    go : (b : Bool) → c.some ≡ b
        → beside (false || c.some) (status_out None) (record { some = false; value = plain c.value; payload = c.payload }) ≡ status_out None
    go true p = rw p
    go false p = rw p (h p)

-- ---- a state

dev_info : (n : Option DevInfoResp) (c : COptionDevInfoResp) → Bare c.some c (dev_info_out None) → beside ((dev_info_out n).some || c.some) (dev_info_out n) c ≡ dev_info_out n
dev_info = same (λ c. c.some) dev_info_out refl (λ x. refl)

config : (n : Option ConfigResp) (c : COptionConfigResp) → Bare c.some c (config_out None) → beside ((config_out n).some || c.some) (config_out n) c ≡ config_out n
config = same (λ c. c.some) config_out refl (λ x. refl)

dsp_same : (n : DspSequencer) (c : CDsp) → DspBare c → dsp_beside (dsp_out n) c ≡ dsp_out n
dsp_same n c h =
    let y = n.state.replies in
    rw (dsp_status y.status c.status h.told.status, same (λ c. c.some) hw_info_out refl (λ x. refl) y.hw_info c.hw_info h.told.hw_info, dev_info y.dev_info c.dev_info h.told.dev_info, config y.config c.config h.told.config, same (λ c. c.some) nack_out refl (λ x. refl) y.refused c.refused h.refused, instant n.state.deadline c.deadline _ h.deadline)

avr_same : (n : AvrSequencer) (c : CAvr) → AvrBare c → avr_beside (avr_out n) c ≡ avr_out n
avr_same n c h =
    let y = n.state.replies in
    let z = c.replies in
    rw (same (λ c. c.some) avr.status_out refl (λ x. refl) y.status z.status h.told.status, dev_info y.dev_info z.dev_info h.told.dev_info, config y.config z.config h.told.config, same (λ c. c.some) factory_cal_out refl (λ x. refl) y.factory_cal z.factory_cal h.told.factory_cal, same (λ c. c.some) if_cal_out refl (λ x. refl) y.if_cal z.if_cal h.told.if_cal, same (λ c. c.some) avr.avr_config_out refl (λ x. refl) y.avr_config z.avr_config h.told.avr_config, instant n.state.cal_deadline c.cal_deadline _ h.cal_deadline, instant n.state.repoll_at c.repoll_at _ h.repoll_at)

pi_same : (n : PiSequencer) (c : CPi) → PiBare c → pi_beside (pi_out n) c ≡ pi_out n
pi_same n c h = rw (dev_info n.replies.dev_info c.replies.dev_info h.dev_info, same (λ c. c.some) cam_config_out refl (λ x. refl) n.replies.cam_config c.replies.cam_config h.cam_config)

avr_config_same : (n : AvrConfigSequencer) (c : CAvrConfig) → AvrConfigBare c → avr_config_beside (avr_config_out n) c ≡ avr_config_out n
avr_config_same n c h = rw (same (λ c. c.some) radar_cal_out refl (λ x. refl) n.settings.radar_cal c.settings.radar_cal h)

-- ---- what is known

known_alike : {A R : Type 0} (r : Result A UnknownNumber) (f g : A → R) (z : R) → ((a : A) → r ≡ Ok a → f a ≡ g a) → known r f z ≡ known r g z
known_alike (Ok a) f g z h = h a refl
known_alike (Err e) f g z h = refl

and_then_ok : {A B P : Type 0} (r : Result A UnknownNumber) (f : A → Result B UnknownNumber) (y : B) → and_then r f ≡ Ok y → ((x : A) → r ≡ Ok x → f x ≡ Ok y → P) → P
and_then_ok (Ok x) f y h k = k x refl h
and_then_ok (Err e) f y h k = absurd (cc)

-- ---- an answer

answered_alike : {S C : Type 0} (out : S → C) (made : C → C → C) (c : C) → ((n : S) → made (out n) c ≡ out n) → (f : Answer S) → answered out made f c ≡ answered out alone f c
answered_alike out made c same f = rw (same f.seq)

-- of a feed, whose envelope may have a number that is unknown
fed_alike : {S C F : Type 0} (fed : Fed C → F) (out : S → C) (made : C → C → C) (c : C) → ((n : S) → made (out n) c ≡ out n)
    → (r : Result S UnknownNumber) (q : Result host.Envelope UnknownNumber) (f : S → host.Envelope → Answer S)
    → fed (both r q (λ s v. answered out made (f s v) c) (declined c)) ≡ fed (both r q (λ s v. answered out alone (f s v) c) (declined c))
fed_alike fed out made c same r q f =
    ap fed (known_alike r _ _ (declined c) (λ s p. known_alike q _ _ (declined c) (λ v k. answered_alike out made c same (f s v))))

checked_alike : {S C F : Type 0} (fed : Fed C → F) (out : S → C) (made : C → C → C) (c : C) → ((n : S) → made (out n) c ≡ out n)
    → (r : Result S UnknownNumber) (f : S → Answer S)
    → fed (known r (λ s. answered out made (f s) c) (declined c)) ≡ fed (known r (λ s. answered out alone (f s) c) (declined c))
checked_alike fed out made c same r f = ap fed (known_alike r _ _ (declined c) (λ s p. answered_alike out made c same (f s)))

-- ---- what a state is read as

ok_inj : {A : Type 0} (x y : A) → Path (Result A UnknownNumber) (Ok x) (Ok y) → x ≡ y
ok_inj x y h = cc

gone : {A : Type 0} (there : Bool) (x : A) (r : Option A) → r ≡ then_some there x → there ≡ false → r ≡ None
gone there x r h p = h ∙ ap (λ b. then_some b x) p

no_status_read : (c : COptionDspStatus) (r : Option DspStatusReply) → status_in c ≡ Ok r → c.some ≡ false → r ≡ None
no_status_read c r h p = and_then_ok (dsp_status_in c.value) _ r h (λ x q e. gone c.some _ r (sym (ok_inj _ r e)) p)

no_nack_read : (c : COptionNack) (r : Option Nack) → nack_in c ≡ Ok r → c.some ≡ false → r ≡ None
no_nack_read c r h p = and_then_ok (addr_in c.src) _ r h (λ x q e. gone c.some _ r (sym (ok_inj _ r e)) p)

record DspRead (c : CDsp) (y : DspReplies) : Type 0 where
  status : status_in c.status ≡ Ok y.status
  hw_info : y.hw_info ≡ hw_info_in c.hw_info
  dev_info : y.dev_info ≡ dev_info_in c.dev_info
  config : y.config ≡ config_in c.config
  refused : nack_in c.refused ≡ Ok y.refused

dsp_read : (c : CDsp) (s : DspSequencer) → dsp_in c ≡ Ok s → DspRead c s.state.replies
dsp_read c s h =
    and_then_ok (dsp_step_in c.step) _ s h (λ step p h1.
    and_then_ok (status_in c.status) _ s h1 (λ status q h2.
    and_then_ok (nack_in c.refused) _ s h2 (λ refused r h3.
    and_then_ok (ticks_in c.ticks) _ s h3 (λ ticks t h4.
    let e = ok_inj _ s h4 in
    record {
      status = q ∙ ap (λ (x : DspSequencer). Ok x.state.replies.status) e;
      hw_info = sym (ap (λ (x : DspSequencer). x.state.replies.hw_info) e);
      dev_info = sym (ap (λ (x : DspSequencer). x.state.replies.dev_info) e);
      config = sym (ap (λ (x : DspSequencer). x.state.replies.config) e);
      refused = r ∙ ap (λ (x : DspSequencer). Ok x.state.replies.refused) e;
    }))))

avr_read : (c : CAvr) (s : AvrSequencer) → avr_in c ≡ Ok s → s.state.replies ≡ avr.replies_in c.replies
avr_read c s h =
    and_then_ok (avr_step_in c.step) _ s h (λ step p h1.
    and_then_ok (ticks_in c.ticks) _ s h1 (λ ticks t h2. sym (ap (λ (x : AvrSequencer). x.state.replies) (ok_inj _ s h2))))

pi_read : (c : CPi) (s : PiSequencer) → pi_in c ≡ Ok s → s.replies ≡ pi_state.replies_in c.replies
pi_read c s h =
    and_then_ok (pi_step_in c.step) _ s h (λ step p h1.
    and_then_ok (ticks_in c.ticks) _ s h1 (λ ticks t h2. sym (ap (λ (x : PiSequencer). x.replies) (ok_inj _ s h2))))

-- ---- a result

told_of : {A B C : Type 0} (there : C → Bool) (value : C → B) (out : Option A → C) (of : Option A → B) → value (out None) ≡ of None → (c : C) (r : Option A)
    → Bare (there c) c (out None) → (there c ≡ false → r ≡ None) → beside (there c) (of r) (value c) ≡ of r
told_of there value out of empty c r h k = go (there c) refl
  where
    go : (b : Bool) → there c ≡ b → beside (there c) (of r) (value c) ≡ of r
    go true p = rw p
    go false p = rw (p, k p, h p) empty

dev_info_told : (c : COptionDevInfoResp) (r : Option DevInfoResp) → Bare c.some c (dev_info_out None) → r ≡ dev_info_in c
    → beside c.some (unwrap_or r no_dev_info) c.value ≡ unwrap_or r no_dev_info
dev_info_told c r h k = told_of (λ c. c.some) (λ c. c.value) dev_info_out (λ r. unwrap_or r no_dev_info) refl c r h (gone c.some _ r k)

config_told : (c : COptionConfigResp) (r : Option ConfigResp) → Bare c.some c (config_out None) → r ≡ config_in c
    → beside c.some (unwrap_or r no_config) c.value ≡ unwrap_or r no_config
config_told c r h k = told_of (λ c. c.some) (λ c. c.value) config_out (λ r. unwrap_or r no_config) refl c r h (gone c.some _ r k)

-- of the DSP's status, or of its payload
status_told : {B : Type 0} (value : COptionDspStatus → B) (of : Option DspStatusReply → B) → value (status_out None) ≡ of None → (c : COptionDspStatus) (r : Option DspStatusReply)
    → Bare c.some (record { some = false; value = plain c.value; payload = c.payload }) (status_out None) → (c.some ≡ false → r ≡ None)
    → beside c.some (of r) (value (record { some = false; value = plain c.value; payload = c.payload })) ≡ of r
status_told value of empty c r h k = go c.some refl
  where
    go : (b : Bool) → c.some ≡ b → beside c.some (of r) (value (record { some = false; value = plain c.value; payload = c.payload })) ≡ of r
    go true p = rw p
    go false p = rw (p, k p) (ap value (h p) ∙ empty)

dsp_sync_same : (c : CDsp) (y : DspReplies) → DspTold c → DspRead c y → dsp_sync_beside (dsp_sync (dsp.sync_of y)) c ≡ dsp_sync (dsp.sync_of y)
dsp_sync_same c y h k =
    let none = no_status_read c.status y.status k.status in
    rw (status_told (λ c. c.value) (λ r. dsp_status_out (unwrap_or r no_status).status) refl c.status y.status h.status none, status_told (λ c. c.payload) (λ r. (unwrap_or r no_status).payload) refl c.status y.status h.status none, told_of (λ c. c.some) (λ c. c) hw_info_out hw_info_out refl c.hw_info y.hw_info h.hw_info (gone c.hw_info.some _ y.hw_info k.hw_info), dev_info_told c.dev_info y.dev_info h.dev_info k.dev_info, config_told c.config y.config h.config k.config)

avr_sync_same : (c : CAvr) (y : AvrReplies) → AvrTold c.replies → y ≡ avr.replies_in c.replies → avr_sync_beside (avr_sync (avr_answers.sync_of y)) c.replies ≡ avr_sync (avr_answers.sync_of y)
avr_sync_same c y h k =
    let z = c.replies in
    rw (told_of (λ c. c.some) (λ c. c.value) avr.status_out (λ r. unwrap_or r no_avr_status) refl z.status y.status h.status (gone z.status.some _ y.status (ap (λ (y : AvrReplies). y.status) k)), dev_info_told z.dev_info y.dev_info h.dev_info (ap (λ (y : AvrReplies). y.dev_info) k), config_told z.config y.config h.config (ap (λ (y : AvrReplies). y.config) k), told_of (λ c. c.some) (λ c. c) factory_cal_out factory_cal_out refl z.factory_cal y.factory_cal h.factory_cal (gone z.factory_cal.some _ y.factory_cal (ap (λ (y : AvrReplies). y.factory_cal) k)), told_of (λ c. c.some) (λ c. c) if_cal_out if_cal_out refl z.if_cal y.if_cal h.if_cal (gone z.if_cal.some _ y.if_cal (ap (λ (y : AvrReplies). y.if_cal) k)), told_of (λ c. c.some) (λ c. c) avr.avr_config_out avr.avr_config_out refl z.avr_config y.avr_config h.avr_config (gone z.avr_config.some _ y.avr_config (ap (λ (y : AvrReplies). y.avr_config) k)))

pi_sync_same : (c : CPi) (y : PiReplies) → PiBare c → y ≡ pi_state.replies_in c.replies → pi_sync_beside (pi_answers.sync_of y) c.replies ≡ pi_answers.sync_of y
pi_sync_same c y h k =
    let z = c.replies in
    rw (dev_info_told z.dev_info y.dev_info h.dev_info (ap (λ (y : PiReplies). y.dev_info) k), told_of (λ c. c.some) (λ c. c.value) cam_config_out (λ r. unwrap_or r no_cam_config) refl z.cam_config y.cam_config h.cam_config (gone z.cam_config.some _ y.cam_config (ap (λ (y : PiReplies). y.cam_config) k)))

-- refused before Done, whatever was asked
judged_alike : {A F : Type 0} (f g : Result A Refusal → F) (x : A) (o : Result (Unit {0}) Refusal) → f (Ok x) ≡ g (Ok x) → ((r : Refusal) → f (Err r) ≡ g (Err r))
    → f (judged o (Ok x) (λ r. Err r)) ≡ g (judged o (Ok x) (λ r. Err r))
judged_alike f g x (Ok u) h k = h
judged_alike f g x (Err r) h k = k r

-- ---- what the library writes

made : {A C : Type 0} (there : C → Bool) (out : Option A → C) → ((x : A) → there (out (Some x)) ≡ true) → (r : Option A) → Bare (there (out r)) (out r) (out None)
made there out some (Some x) p = absurd (true≢false (sym (some x) ∙ p))
made there out some None p = refl

made_status : (r : Option DspStatusReply)
    → Bare (status_out r).some (record { some = false; value = plain (status_out r).value; payload = (status_out r).payload }) (status_out None)
made_status (Some x) p = absurd (true≢false p)
made_status None p = refl

-- ---- the law

abbrev taken_with : DspSequencer → CDsp → CDspTaken
taken_with s c = record { refusal = 0; refused = nack_out (dsp.taken s).refused; seq = without_nack c }

pub nothing_beside : NothingBeside
nothing_beside = record {
  of_dsp_feed = λ c e text payload t h. fed_alike dsp_fed dsp_out dsp_beside c (λ n. dsp_same n c h) (dsp_in c) (envelope_in e) (λ s v. dsp.fed_to s (opened v v.params text payload) t);
  of_dsp_check = λ c t h. checked_alike dsp_fed dsp_out dsp_beside c (λ n. dsp_same n c h) (dsp_in c) (λ s. dsp.polled s t);
  of_dsp_result = λ c h. known_alike (dsp_in c) _ _ _ (λ s p. judged_alike (λ q. dsp_finished q c) dsp_told (dsp.sync_of s.state.replies) _ (rw (dsp_sync_same c s.state.replies h (dsp_read c s p))) (λ r. refl));
  of_dsp_take = λ c h. known_alike (dsp_in c) _ _ _ (λ s p.
      rw (told_of (λ c. c.some) (λ c. c) nack_out nack_out refl c.refused s.state.replies.refused h.refused (no_nack_read c.refused s.state.replies.refused (dsp_read c s p).refused))
      (ap (taken_with s) (dsp_same (dsp.taken s).seq c h)));
  of_avr_feed = λ c e text payload t wall h. fed_alike avr_fed avr_out avr_beside c (λ n. avr_same n c h) (avr_in c) (envelope_in e)
      (λ s v. avr_answers.fed_to s (record { envelope = opened v v.params text payload; wall = wall }) t);
  of_avr_check = λ c t h. checked_alike avr_fed avr_out avr_beside c (λ n. avr_same n c h) (avr_in c) (λ s. avr_answers.polled s t);
  of_avr_result = λ c h. known_alike (avr_in c) _ _ _ (λ s p. judged_alike (λ q. avr_finished q c) avr_told (avr_answers.sync_of s.state.replies) _ (rw (avr_sync_same c s.state.replies h (avr_read c s p))) (λ r. refl));
  of_pi_feed = λ c e text payload h. fed_alike pi_fed pi_out pi_beside c (λ n. pi_same n c h) (pi_in c) (envelope_in e) (λ s v. pi_answers.fed_to s (opened v [] text payload));
  of_pi_result = λ c h. known_alike (pi_in c) _ _ _ (λ s p. judged_alike (λ q. pi_finished q c) pi_told (pi_answers.sync_of s.replies) _ (rw (pi_sync_same c s.replies h (pi_read c s p))) (λ r. refl));
  of_avr_config_feed = λ c e text payload h. fed_alike avr_config_fed avr_config_out avr_config_beside c (λ n. avr_config_same n c h) (avr_config_in c) (envelope_in e)
      (λ s v. config_answers.fed_to s (opened v [] text payload));
  made_by_dsp = λ s.
      let y = s.state.replies in
      record {
        told = record {
          status = made_status y.status;
          hw_info = made (λ c. c.some) hw_info_out (λ x. refl) y.hw_info;
          dev_info = made (λ c. c.some) dev_info_out (λ x. refl) y.dev_info;
          config = made (λ c. c.some) config_out (λ x. refl) y.config;
        };
        refused = made (λ c. c.some) nack_out (λ x. refl) y.refused;
        deadline = made (λ c. c.some) instant_out (λ x. refl) s.state.deadline;
      };
  made_by_avr = λ s.
      let y = s.state.replies in
      record {
        told = record {
          status = made (λ c. c.some) avr.status_out (λ x. refl) y.status;
          dev_info = made (λ c. c.some) dev_info_out (λ x. refl) y.dev_info;
          config = made (λ c. c.some) config_out (λ x. refl) y.config;
          factory_cal = made (λ c. c.some) factory_cal_out (λ x. refl) y.factory_cal;
          if_cal = made (λ c. c.some) if_cal_out (λ x. refl) y.if_cal;
          avr_config = made (λ c. c.some) avr.avr_config_out (λ x. refl) y.avr_config;
        };
        cal_deadline = made (λ c. c.some) instant_out (λ x. refl) s.state.cal_deadline;
        repoll_at = made (λ c. c.some) instant_out (λ x. refl) s.state.repoll_at;
      };
  made_by_pi = λ s. record {
    dev_info = made (λ c. c.some) dev_info_out (λ x. refl) s.replies.dev_info;
    cam_config = made (λ c. c.some) cam_config_out (λ x. refl) s.replies.cam_config;
  };
  made_by_avr_config = λ s. made (λ c. c.some) radar_cal_out (λ x. refl) s.settings.radar_cal;
}
