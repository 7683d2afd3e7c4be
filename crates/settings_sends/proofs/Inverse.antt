-- The theorem holds.
-- Assumes nothing.
use Rattle.std.proofs.Common.{arith, ◌≡◌, refl, sym, ap, ◌∙◌, subst, ◌≤◌, Bool, true, false, not, ◌&&◌, cond, ltb, List, length, Option, Some, None, Ok, Err}
use mathlib.Core.Bool.{true≢false}
use borrow.Author.Tests.{ltb-false}
use Rattle.std.proofs.lemmas.List.{length-take-le}
use Rattle.protocol.specs.declared.Action.{Action}
use Rattle.protocol.specs.Refusals as calls
use Rattle.sequence.specs.Accepted.{none}
use Rattle.settings.specs.declared.AvrSettings.{AvrSettings}
use Rattle.settings.specs.Settings.{count, kept}
use Rattle.settings.specs.Repeats.{counted, repeats}
use Rattle.avr_config.specs.Answers.{settings_refusals}
use Rattle.settings_sends.specs.declared.SendsRefusal.{SendsRefusal}
use Rattle.settings_sends.specs.declared.SendsRefusal.TheVariants.{OfNoSettings}
use Rattle.settings_sends.specs.Sends.{sends_of}
use Rattle.settings_sends.specs.ReadBack.{Contents, contents_of, settings_from, read, given, settings_read, answered, or_refused, number}
use Rattle.settings_sends.specs.Inverse.{IsRun, Accepted, Inverse}
use Rattle.settings_sends.proofs.Round.{sent, was, reads, some_same, none_some, past, ok_from, err_from}
use Rattle.settings_sends.proofs.Sent.{sends_are, kept_is, long_enough, contents_are}

-- no more parameters than there are places
pub few : (s : AvrSettings) → IsRun s → s.len ≤ 32
few s r = at (ltb 32 s.len) (repeats (counted s)) refl r
  where
    at : (b c : Bool) → ltb 32 s.len ≡ b → not b && (not c && true) ≡ true → s.len ≤ 32
    at false c e h = ltb-false 32 s.len e
    at true c e h = absurd (true≢false (sym h))

-- they are stored as they are given, and stay such as a run accepts
pub kept_run : (s : AvrSettings) → Accepted s → (settings_from (contents_of s) ≡ kept s) × IsRun (settings_from (contents_of s))
kept_run s a =
    let n = few s a.is_run in
    let long = length-take-le (count s.len) s.params (omega (arith, a.places)) in
    let same = contents_are (contents_of s) (omega (arith, long)) in
    let len : length (contents_of s).params ≡ s.len = omega (arith, long, n) in
    (kept_is s a.places n, at (contents_of (settings_from (contents_of s))).params (ap (λ f. f.params) same) (length (contents_of s).params) len)
  where
    at : (ps : List _) → ps ≡ counted s → (k : _) → k ≡ s.len → not (ltb 32 k) && (not (repeats ps) && true) ≡ true
    at ps e k h = rw (e, h) a.is_run

reads_back : (s : AvrSettings) → Accepted s → settings_read (sends_of s) ≡ Some (kept s)
reads_back s a =
    let k = kept_run s a in
    ap settings_read (sends_are s a.places) ∙ ap given (reads (contents_of s))
    ∙ ap (λ b. cond b (Some (settings_from (contents_of s))) None) k.1
    ∙ ap Some k.0

-- what is given is what is sent
abbrev Exact : List Action → AvrSettings → Type 0
Exact l s = Accepted s × (kept s ≡ s) × (l ≡ sends_of s)

exact : (l : List Action) (s : AvrSettings) → settings_read l ≡ Some s → Exact l s
exact l s h = at (read l) refl h
  where
    of : (f : Contents) → read l ≡ Some f → IsRun (settings_from f) → settings_from f ≡ s → Exact l s
    of f e r k =
        let n = few (settings_from f) r in
        let places = long_enough f n in
        let same = contents_are f n in
        let kept_so = sym (kept_is (settings_from f) places n) ∙ ap settings_from same in
        subst (Exact l) k (record { places = places; is_run = r }, kept_so, was l f e ∙ sym (ap sent same) ∙ sym (sends_are (settings_from f) places))

    at : (o : Option Contents) → read l ≡ o → given o ≡ Some s → Exact l s
    at None e k = absurd (none_some s k)
    at (Some f) e k =
        let t = past (none (settings_refusals (settings_from f))) (Some (settings_from f)) s k in
        of f e t.0 (some_same (settings_from f) s t.1)

pub back : (s : AvrSettings) → Accepted s → answered (sends_of s) ≡ Ok (kept s)
back s a = ap or_refused (reads_back s a)

pub right : Inverse
right = record {
  back = back;
  exact = λ l s h. exact l s (ok_from (settings_read l) s (sym h));
  apart = λ s t a b h. some_same (kept s) (kept t) (sym (reads_back s a) ∙ ap settings_read h ∙ reads_back t b);
  none = λ l. (
    λ e s a h. none_some (kept s) (sym (err_from (settings_read l) OfNoSettings (sym e)) ∙ ap settings_read h ∙ reads_back s a),
    λ h. none_of l h (settings_read l) refl,
  );
  eight = eight;
}
  where
    none_of : (l : List Action) → ((s : AvrSettings) → Accepted s → l ≡ sends_of s → ⊥) → (o : Option AvrSettings) → settings_read l ≡ o → answered l ≡ Err OfNoSettings
    none_of l h None e = ap or_refused e
    none_of l h (Some s) e = let t = exact l s e in absurd (h s t.0 t.2)

    eight : (r : SendsRefusal) → (number r ≡ 8) × (calls.outcome (number r) ≡ Ok tt)
    eight OfNoSettings = (refl, refl)
