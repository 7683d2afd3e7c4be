-- Each sequence is ticked off over its part.
-- Assumes nothing.
use Prim.Native.Nat.{ℕ}
use mathlib.Core.Path.{◌≡◌, refl, sym, ap, subst, subst⁻¹, ◌∙◌}
use mathlib.Core.Bool.{Bool, true, false, cond}
use mathlib.Core.List.{List, [], ◌∷◌, ◌++◌, map}
use Rattle.std.specs.Prelude.{Some, None}
use Rattle.device.specs.declared.model.DeviceModel.{DeviceModel}
use Rattle.device.specs.Model.{has_camera}
use Rattle.matching.specs.Matching.{Matching, Earliest}
use Rattle.matching.specs.Promise.{after_all, events}
use Rattle.sequence.specs.Events.{Envelope, Event, checked, reading}
use Rattle.dsp_runs.proofs.Whole as dsp_runs
use Rattle.avr_table.specs.Stores.{Dated}
use Rattle.avr_table.specs.Table as avr_table
use Rattle.avr.specs.declared.AvrSequencer.{AvrSequencer}
use Rattle.avr.specs.Answers as avr
use Rattle.avr.specs.Calls as avr_calls
use Rattle.avr_runs.proofs.Whole as avr_runs
use Rattle.pi_table.specs.Table as pi_table
use Rattle.pi.specs.declared.PiSequencer.{PiSequencer}
use Rattle.pi.specs.Answers as pi
use Rattle.pi.specs.Calls as pi_asked
use Rattle.pi_runs.proofs.Whole as pi_runs
use Rattle.session_runs.specs.Calls.{SessionCall, state, dsp_call, avr_call, pi_calls, pi_events}
use Rattle.session_runs.specs.Parts.{done, places, EndsIt}
use Rattle.session_runs.proofs.Whole as parts
use Rattle.session_promise.specs.Places.{Names, DspTicked, DspFirst, part}
use Rattle.session_promise.specs.Ticking.{Start, AvrPart, PiPart, Theorem}
use Rattle.session_promise.proofs.Start.{dsp_ends, done_iff, same_done, is_start, is_part, is_model}

-- ---- before the DSP is done

pub not_done : (m : DeviceModel) (cs : List SessionCall) → Names m cs → (DspTicked m cs → ⊥) → done cs ≡ false
not_done m cs n un = go (done cs) refl
  where
    go : (b : Bool) → done cs ≡ b → done cs ≡ false
    go true h = absurd (un ((done_iff m cs n).0 (sym (same_done cs) ∙ h)))
    go false h = h

pub no_avr : (m : DeviceModel) (cs : List SessionCall) → Names m cs → (DspTicked m cs → ⊥) → (state cs).avr ≡ None
no_avr m cs n un = (parts.right cs).no_avr (not_done m cs n un)

pub no_pi : (m : DeviceModel) (cs : List SessionCall) → Names m cs → (DspTicked m cs → ⊥) → (state cs).pi ≡ None
no_pi m cs n un = (parts.right cs).no_pi (not_done m cs n un)

-- ---- from then on

-- the AVR start-up and the Pi start-up of a part
abbrev pub avr_of : DeviceModel → List (Event Dated) → AvrSequencer
avr_of m r = after_all avr_calls.after (avr.begun m).seq (map avr_call r)

abbrev pub pi_of : List (Event Dated) → PiSequencer
pi_of r = after_all pi_asked.after pi.begun.seq (pi_calls r)

abbrev Ending : List SessionCall → Type 0
Ending cs = (pre : List SessionCall) × (c : SessionCall) × (post : List SessionCall) × EndsIt cs pre c post

module _ (m : DeviceModel) (cs : List SessionCall) (n : Names m cs) (ps : List ℕ) (f : DspFirst m cs ps) where
  ending : Ending cs
  ending = (parts.right cs).ended (same_done cs ∙ (done_iff m cs n).1 (ps, f.matching))

  pub is_avr : (state cs).avr ≡ Some (avr_of m (part m cs ps))
  is_avr =
      let w = ending in
      let first = w.0 ++ w.1 ∷ [] in
      (parts.right cs).is_avr w.0 w.1 w.2 w.3
      ∙ ap (λ (k : DeviceModel). Some (avr_of k (places first w.2))) (is_model m cs n ps f w.0 w.1 w.2 w.3)
      ∙ ap (λ (r : List (Event Dated)). Some (avr_of m r)) (sym (is_part m cs n ps f w.0 w.1 w.2 w.3))

  pub avr_run : events reading avr_calls.event 0 (map avr_call (part m cs ps)) ≡ part m cs ps
  avr_run =
      let w = ending in
      subst⁻¹ (λ (r : List (Event Dated)). events reading avr_calls.event 0 (map avr_call r) ≡ r) (is_part m cs n ps f w.0 w.1 w.2 w.3)
      ((parts.right cs).avr_run (w.0 ++ w.1 ∷ []) w.2 w.3.split)

  pub pi_there : (state cs).pi ≡ cond (has_camera m) (Some (pi_of (part m cs ps))) None
  pi_there =
      let w = ending in
      let first = w.0 ++ w.1 ∷ [] in
      (parts.right cs).is_pi w.0 w.1 w.2 w.3
      ∙ ap (λ (k : DeviceModel). cond (has_camera k) (Some (pi_of (places first w.2))) None) (is_model m cs n ps f w.0 w.1 w.2 w.3)
      ∙ ap (λ (r : List (Event Dated)). cond (has_camera m) (Some (pi_of r)) None) (sym (is_part m cs n ps f w.0 w.1 w.2 w.3))

  pub is_pi : has_camera m ≡ true → (state cs).pi ≡ Some (pi_of (part m cs ps))
  is_pi camera = pi_there ∙ ap (λ (b : Bool). cond b (Some (pi_of (part m cs ps))) None) camera

  pub pi_run : events reading pi_asked.event 0 (pi_calls (part m cs ps)) ≡ pi_events (part m cs ps)
  pi_run =
      let w = ending in
      subst⁻¹ (λ (r : List (Event Dated)). events reading pi_asked.event 0 (pi_calls r) ≡ pi_events r) (is_part m cs n ps f w.0 w.1 w.2 w.3)
      ((parts.right cs).pi_run (w.0 ++ w.1 ∷ []) w.2 w.3.split)

  starts : Start m cs ps
  starts = record {
    some = let w = ending in (w.0, w.1, w.2, w.3.split, record { before = sym (same_done w.0) ∙ w.3.before; from = sym (same_done (w.0 ++ w.1 ∷ [])) ∙ w.3.from });
    each = λ pre c post e h. is_start m cs n ps f pre c post (record { split = e; before = same_done pre ∙ h.before; from = same_done (pre ++ c ∷ []) ∙ h.from });
  }

  pub avr_part : AvrPart m cs ps
  avr_part =
      let T = avr_table.table m in
      let w = (avr_runs.right m (map avr_call (part m cs ps))).ends in
      let over = λ (r : List (Event Dated)). (qs : List ℕ) × Matching reading (checked 0) T r qs in
      record {
        seq = avr_of m (part m cs ps);
        there = is_avr;
        called = refl;
        run = avr_run;
        done = (λ h. subst over avr_run (w.done.0 h), λ k. w.done.1 (subst⁻¹ over avr_run k));
        first = λ k.
            let q = w.first (subst⁻¹ over avr_run k) in
            (q.0, subst (λ (r : List (Event Dated)). Earliest reading (checked 0) T r q.0) avr_run q.1);
      }

  pub pi_part : has_camera m ≡ true → PiPart m cs ps
  pi_part camera =
      let T = pi_table.table in
      let w = (pi_runs.right (pi_calls (part m cs ps))).ends in
      let over = λ (r : List (Event Envelope)). (rs : List ℕ) × Matching reading (checked 0) T r rs in
      record {
        seq = pi_of (part m cs ps);
        there = is_pi camera;
        called = refl;
        run = pi_run;
        done = (λ h. subst over pi_run (w.done.0 h), λ k. w.done.1 (subst⁻¹ over pi_run k));
        first = λ k.
            let q = w.first (subst⁻¹ over pi_run k) in
            (q.0, subst (λ (r : List (Event Envelope)). Earliest reading (checked 0) T r q.0) pi_run q.1);
      }

-- ---- without a camera

pub no_camera : (m : DeviceModel) (cs : List SessionCall) → Names m cs → has_camera m ≡ false → (state cs).pi ≡ None
no_camera m cs n h = go (done cs) refl
  where
    go : (b : Bool) → done cs ≡ b → (state cs).pi ≡ None
    go false e = (parts.right cs).no_pi e
    go true e =
        let k = (done_iff m cs n).0 (sym (same_done cs) ∙ e) in
        let q = (dsp_ends m cs n).first k in
        pi_there m cs n q.0 q.1 ∙ ap (λ (b : Bool). cond b (Some (pi_of (part m cs q.0))) None) h

pub ticking : Theorem
ticking = record {
  named = λ cs. dsp_runs.right.named (map dsp_call cs);
  right = λ m cs n.
      record {
        dsp = dsp_ends m cs n;
        no_avr = no_avr m cs n;
        no_pi = no_pi m cs n;
        starts = λ ps f. starts m cs n ps f;
        avr = λ ps f. avr_part m cs n ps f;
        pi = λ ps f camera. pi_part m cs n ps f camera;
        no_camera = no_camera m cs n;
      };
}
