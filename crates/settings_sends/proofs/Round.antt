-- Sends and the contents of settings: there and back.
-- Assumes nothing.
use Rattle.std.proofs.Common.{◌≡◌, refl, sym, ap, ◌∙◌, subst, ℕ, Bool, true, false, ◌&&◌, cond, eqb, eqb-true, List, [], ◌∷◌, ◌++◌, replicate, Option, Some, None, option_map, Result, Ok, Err}
use mathlib.Core.Bool.{true≢false}
use Rattle.std.specs.List.{flat_map}
use Rattle.std.specs.Cmp.Lexicographic.{pointwise}
use Rattle.protocol.specs.declared.BusAddr.{BusAddr}
use Rattle.protocol.specs.declared.BusAddr.TheVariants.{App, Pi, Avr, Dsp}
use Rattle.protocol.specs.declared.Action.{Action}
use Rattle.protocol.specs.declared.Command.{Command}
use Rattle.protocol.specs.declared.Command.TheVariants as Cmd
use Rattle.protocol.specs.declared.ParamValue.{ParamValue}
use Rattle.protocol.specs.declared.RadarCal.{RadarCal}
use Rattle.protocol.specs.declared.ModeSet.{ModeSet}
use Rattle.protocol.specs.Addr.{byte_of}
use Rattle.avr_config_steps.specs.Table.{to_avr, commit}
use Rattle.settings_sends.specs.declared.Setting.{Setting}
use Rattle.settings_sends.specs.declared.SendsRefusal.{SendsRefusal}
use Rattle.settings_sends.specs.ReadBack.{Contents, command_in, commits, with_param, of_mode, cal_in, cal_read, setting, what, read_on, read, or_refused}

-- ---- what is sent, written out

-- a setting and a commit
abbrev pub pair : Command → List Action
pair c = to_avr c ∷ commit ∷ []

abbrev pub cal_sent : Option RadarCal → List Action
cal_sent None = []
cal_sent (Some c) = pair (Command.RadarCal c)

abbrev pub last_sent : Contents → List Action
last_sent f = to_avr (Command.ModeSet (record { mode = f.mode })) ∷ commit ∷ cal_sent f.cal

abbrev pub param_sent : ParamValue → List Action
param_sent p = pair (Command.ParamValue p)

abbrev pub sent_on : Contents → List Action
sent_on f = flat_map param_sent f.params ++ last_sent f

abbrev pub sent : Contents → List Action
sent f = commit ∷ sent_on f

-- ---- of an option

pub some_same : {X : Type 0} (x y : X) → Some x ≡ Some y → x ≡ y
some_same {X} x y e = ap or e
  where
    or : Option X → X
    or (Some z) = z
    or None = x

pub none_some : {X : Type 0} (x : X) → None ≡ Some x → ⊥
none_some {X} x e = subst is e tt
  where
    is : Option X → Type 0
    is None = Unit {0}
    is (Some z) = ⊥

-- what a map gives, it gives of something
mapped : {X Y : Type 0} (g : X → Y) (o : Option X) (y : Y) → option_map g o ≡ Some y → (x : X) × ((o ≡ Some x) × (g x ≡ y))
mapped g None y h = absurd (none_some y h)
mapped g (Some x) y h = (x, (refl, some_same (g x) y h))

-- what stands behind a test that holds
pub past : {X : Type 0} (b : Bool) (o : Option X) (x : X) → cond b o None ≡ Some x → (b ≡ true) × (o ≡ Some x)
past true o x h = (refl, h)
past false o x h = absurd (none_some x h)

-- what is answered, it is answered of something, or of nothing
pub ok_from : {X : Type 0} (o : Option X) (x : X) → Ok x ≡ or_refused o → o ≡ Some x
ok_from {X} (Some y) x h = ap of (sym h)
  where
    of : Result X SendsRefusal → Option X
    of (Ok z) = Some z
    of (Err e) = None
ok_from {X} None x h = absurd (subst is h tt)
  where
    is : Result X SendsRefusal → Type 0
    is (Ok z) = Unit {0}
    is (Err e) = ⊥

pub err_from : {X : Type 0} (o : Option X) (e : SendsRefusal) → Err e ≡ or_refused o → o ≡ None
err_from {X} (Some y) e h = absurd (subst is h tt)
  where
    is : Result X SendsRefusal → Type 0
    is (Ok z) = ⊥
    is (Err e) = Unit {0}
err_from {X} None e h = refl

-- ---- one send

same_bytes : (xs ys : List ℕ) → pointwise eqb xs ys ≡ true → xs ≡ ys
same_bytes [] [] h = refl
same_bytes [] (y ∷ ys) h = absurd (true≢false (sym h))
same_bytes (x ∷ xs) [] h = absurd (true≢false (sym h))
same_bytes (x ∷ xs) (y ∷ ys) h = let t = two (eqb x y) (pointwise eqb xs ys) h in rw (eqb-true x y t.0, same_bytes xs ys t.1) refl
  where
    two : (b c : Bool) → b && c ≡ true → (b ≡ true) × (c ≡ true)
    two true c h = (refl, h)
    two false c h = absurd (true≢false (sym h))

to_the_avr : (d : BusAddr) → eqb (byte_of d) 0x30 ≡ true → d ≡ Avr
to_the_avr App h = absurd (true≢false (sym h))
to_the_avr Pi h = absurd (true≢false (sym h))
to_the_avr Avr h = refl
to_the_avr Dsp h = absurd (true≢false (sym h))

is_send : (a : Action) (c : Command) → command_in a ≡ Some c → a ≡ to_avr c
is_send a c h = at (eqb (byte_of a.dest) 0x30) (pointwise eqb a.payload (replicate 10 0)) (pointwise eqb a.tail (replicate 2 0)) refl refl refl h
  where
    at : (p q r : Bool) → eqb (byte_of a.dest) 0x30 ≡ p → pointwise eqb a.payload (replicate 10 0) ≡ q → pointwise eqb a.tail (replicate 2 0) ≡ r
        → cond (p && (q && r)) (Some a.command) None ≡ Some c → a ≡ to_avr c
    at true true true d e f h =
        rw (sym (to_the_avr a.dest d), sym (same_bytes a.payload (replicate 10 0) e), sym (same_bytes a.tail (replicate 2 0) f), sym (some_same a.command c h)) refl
    at true true false d e f h = absurd (none_some c h)
    at true false r d e f h = absurd (none_some c h)
    at false q r d e f h = absurd (none_some c h)

-- what a command is to the reading
data Seen (o : Option Command) : Type 0 where
  a_commit : o ≡ Some (Command.AvrConfigCmd (record { arm = false })) → Seen o
  a_param : (p : ParamValue) → o ≡ Some (Command.ParamValue p) → Seen o
  a_mode : (m : ModeSet) → o ≡ Some (Command.ModeSet m) → Seen o
  a_cal : (c : RadarCal) → o ≡ Some (Command.RadarCal c) → Seen o
  another : commits o ≡ false → what o ≡ Setting.Other → cal_in o ≡ None → Seen o

seen : (o : Option Command) → Seen o
seen None = another refl refl refl
seen (Some (Cmd.StatusPoll x)) = another refl refl refl
seen (Some (Cmd.ModeSet x)) = a_mode x refl
seen (Some (Cmd.AvrConfigCmd x)) = at x.arm refl
  where
    at : (b : Bool) → x.arm ≡ b → Seen (Some (Command.AvrConfigCmd x))
    at false e = a_commit (ap (λ b. Some (Command.AvrConfigCmd (record { arm = b }))) e)
    at true e = another (rw e refl) refl refl
seen (Some (Cmd.ParamReadReq x)) = another refl refl refl
seen (Some (Cmd.ParamValue x)) = a_param x refl
seen (Some (Cmd.RadarCal x)) = a_cal x refl
seen (Some Cmd.DspQuery) = another refl refl refl
seen (Some Cmd.ConfigQuery) = another refl refl refl
seen (Some Cmd.AvrConfigQuery) = another refl refl refl
seen (Some Cmd.DevInfoReq) = another refl refl refl
seen (Some (Cmd.ProdInfoReq x)) = another refl refl refl
seen (Some (Cmd.NetConfigReq x)) = another refl refl refl
seen (Some Cmd.CalParamReq) = another refl refl refl
seen (Some (Cmd.CalDataReq x)) = another refl refl refl
seen (Some (Cmd.TimeSync x)) = another refl refl refl
seen (Some Cmd.CamConfigReq) = another refl refl refl
seen (Some (Cmd.ConfigAck x)) = another refl refl refl

commit_is : (o : Option Command) → Seen o → commits o ≡ true → o ≡ Some (Command.AvrConfigCmd (record { arm = false }))
commit_is o (a_commit e) h = e
commit_is o (a_param p e) h = absurd (true≢false (sym h ∙ ap commits e))
commit_is o (a_mode m e) h = absurd (true≢false (sym h ∙ ap commits e))
commit_is o (a_cal c e) h = absurd (true≢false (sym h ∙ ap commits e))
commit_is o (another e w c) h = absurd (true≢false (sym h ∙ e))

is_commit : (a : Action) → commits (command_in a) ≡ true → a ≡ commit
is_commit a h = is_send a (Command.AvrConfigCmd (record { arm = false })) (commit_is (command_in a) (seen (command_in a)) h)

cal_is : (o : Option Command) → Seen o → (c : RadarCal) → cal_in o ≡ Some c → o ≡ Some (Command.RadarCal c)
cal_is o (a_commit e) c h = absurd (none_some c (sym (ap cal_in e) ∙ h))
cal_is o (a_param p e) c h = absurd (none_some c (sym (ap cal_in e) ∙ h))
cal_is o (a_mode m e) c h = absurd (none_some c (sym (ap cal_in e) ∙ h))
cal_is o (a_cal d e) c h = e ∙ ap (λ y. Some (Command.RadarCal y)) (some_same d c (sym (ap cal_in e) ∙ h))
cal_is o (another e w n) c h = absurd (none_some c (sym n ∙ h))

-- ---- what is read was sent so

cal_was : (l : List Action) (c : Option RadarCal) → cal_read l ≡ Some c → l ≡ cal_sent c
cal_was [] c h = ap cal_sent (some_same None c h)
cal_was (a ∷ []) c h = absurd (none_some c h)
cal_was (a ∷ b ∷ []) c h =
    let p = past (commits (command_in b)) (option_map Some (cal_in (command_in a))) c h in
    let d = mapped Some (cal_in (command_in a)) c p.1 in
    made d.0 (is_send a (Command.RadarCal d.0) (cal_is (command_in a) (seen (command_in a)) d.0 d.1.0)) (is_commit b p.0) d.1.1
  where
    made : (d : RadarCal) → a ≡ to_avr (Command.RadarCal d) → b ≡ commit → Some d ≡ c → a ∷ b ∷ [] ≡ cal_sent c
    made d i j k = rw (i, j, sym k) refl
cal_was (a ∷ b ∷ d ∷ l) c h = absurd (none_some c h)

-- a mode, a calibration behind it or none
last_was : (m : ModeSet) (a b : Action) (l : List Action) (f : Contents) → a ≡ to_avr (Command.ModeSet m) → b ≡ commit → option_map (of_mode m.mode) (cal_read l) ≡ Some f → a ∷ b ∷ l ≡ sent_on f
last_was m a b l f i j h =
    let c = mapped (of_mode m.mode) (cal_read l) f h in
    at c.0 (cal_was l c.0 c.1.0) c.1.1
  where
    at : (c : Option RadarCal) → l ≡ cal_sent c → of_mode m.mode c ≡ f → a ∷ b ∷ l ≡ sent_on f
    at c k e = rw (i, j, k, sym e) refl

-- one parameter more
param_was : (p : ParamValue) (a b : Action) (l : List Action) (g f : Contents) → a ≡ to_avr (Command.ParamValue p) → b ≡ commit → l ≡ sent_on g → with_param p g ≡ f → a ∷ b ∷ l ≡ sent_on f
param_was p a b l g f i j k e = rw (i, j, k, sym e) refl

module _ (a b : Action) (l : List Action) (f : Contents) (j : b ≡ commit) (rest : (g : Contents) → read_on l ≡ Some g → l ≡ sent_on g) where
  abbrev Read : Setting → Type 0
  Read x = setting x l (read_on l) ≡ Some f

  setting_was : Seen (command_in a) → Read (what (command_in a)) → a ∷ b ∷ l ≡ sent_on f
  setting_was (a_commit e) h = absurd (none_some f (subst Read (ap what e) h))
  setting_was (a_param p e) h =
      let t = mapped (with_param p) (read_on l) f (subst Read (ap what e) h) in
      param_was p a b l t.0 f (is_send a (Command.ParamValue p) e) j (rest t.0 t.1.0) t.1.1
  setting_was (a_mode m e) h = last_was m a b l f (is_send a (Command.ModeSet m) e) j (subst Read (ap what e) h)
  setting_was (a_cal c e) h = absurd (none_some f (subst Read (ap what e) h))
  setting_was (another e w c) h = absurd (none_some f (subst Read w h))

was_on : (l : List Action) (f : Contents) → read_on l ≡ Some f → l ≡ sent_on f
was_on [] f h = absurd (none_some f h)
was_on (a ∷ []) f h = absurd (none_some f h)
was_on (a ∷ b ∷ l) f h =
    let p = past (commits (command_in b)) (setting (what (command_in a)) l (read_on l)) f h in
    setting_was a b l f (is_commit b p.0) (λ g k. was_on l g k) (seen (command_in a)) p.1

-- what is read as f is what f sends
pub was : (l : List Action) (f : Contents) → read l ≡ Some f → l ≡ sent f
was [] f h = absurd (none_some f h)
was (a ∷ l) f h = let p = past (commits (command_in a)) (read_on l) f h in rw (is_commit a p.0, was_on l f p.1) refl

-- ---- what is sent is read so

reads_cal : (c : Option RadarCal) → cal_read (cal_sent c) ≡ Some c
reads_cal None = refl
reads_cal (Some c) = refl

reads_on : (ps : List ParamValue) (m : ℕ) (c : Option RadarCal) → read_on (sent_on (record { params = ps; mode = m; cal = c })) ≡ Some (record { params = ps; mode = m; cal = c })
reads_on [] m c = ap (option_map (of_mode m)) (reads_cal c)
reads_on (p ∷ ps) m c = ap (option_map (with_param p)) (reads_on ps m c)

pub reads : (f : Contents) → read (sent f) ≡ Some f
reads f = reads_on f.params f.mode f.cal
