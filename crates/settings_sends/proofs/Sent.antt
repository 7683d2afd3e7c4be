-- What the steps request is what the contents of the settings send, written out; and what is made of these contents is what a run stores.
-- Assumes nothing.
use Rattle.std.proofs.Common.{arith, ◌≡◌, refl, ap, ℕ, zero, suc, ◌+◌, ◌-◌, ◌≤◌, cond, List, [], ◌∷◌, length, take, drop, replicate, Option, Some, None, option_map, drop-cons}
use Rattle.std.specs.List.{filter_map, flat_map}
use Rattle.std.proofs.lemmas.List.{length-take-le, length-append, length-replicate}
use Rattle.std.proofs.Math.Seq.{take-append_seam}
use Rattle.std.proofs.lemmas.List.Elements.{filter_map-append}
use Rattle.std.specs.Prelude.{is_some}
use Rattle.protocol.specs.declared.Command.{Command}
use Rattle.protocol.specs.declared.RadarCal.{RadarCal}
use Rattle.settings.specs.declared.AvrSettings.{AvrSettings}
use Rattle.settings.specs.Settings.{no_param, count, kept}
use Rattle.avr_config_steps.specs.declared.AvrConfigStep.{AvrConfigStep}
use Rattle.avr_config_steps.specs.declared.AvrConfigStep.TheVariants.{WaitModeEcho, WaitModeCommitAck, WaitRadarCalEcho, WaitRadarCalCommitAck}
use Rattle.avr_config_steps.specs.Table.{request, param_steps, to_avr}
use Rattle.settings_sends.specs.Sends.{sends_of}
use Rattle.settings_sends.specs.ReadBack.{Contents, contents_of, settings_from}
use Rattle.settings_sends.proofs.Round.{sent, last_sent, param_sent}

params_are : (s : AvrSettings) (n i : ℕ) → i + n ≤ length s.params → filter_map (request s) (param_steps n i) ≡ flat_map param_sent (take n (drop i s.params))
params_are s zero i h = refl
params_are s (suc n) i h = rw (drop-cons s.params i no_param (omega (arith, h)), params_are s n (suc i) (omega (arith, h))) refl

module _ (s : AvrSettings) where
  -- the mode, and the calibration if there is one
  abbrev last_steps : List AvrConfigStep
  last_steps = WaitModeEcho ∷ WaitModeCommitAck ∷ cond (is_some s.radar_cal) (WaitRadarCalEcho ∷ WaitRadarCalCommitAck ∷ []) []

  last_is : filter_map (request s) last_steps ≡ last_sent (contents_of s)
  last_is = at s.radar_cal refl
    where
      at : (c : Option RadarCal) → s.radar_cal ≡ c → filter_map (request s) last_steps ≡ last_sent (contents_of s)
      at None e = rw e refl
      at (Some c) e = let r : request s WaitRadarCalEcho ≡ Some (to_avr (Command.RadarCal c)) = ap (option_map (λ c. to_avr (Command.RadarCal c))) e in rw (e, r) refl

  -- an array has 32 places
  pub sends_are : length s.params ≡ 32 → sends_of s ≡ sent (contents_of s)
  sends_are h = rw (filter_map-append (request s) (param_steps (count s.len) 0) last_steps, params_are s (count s.len) 0 (omega (arith, h)), last_is) refl

  pub kept_is : length s.params ≡ 32 → s.len ≤ 32 → settings_from (contents_of s) ≡ kept s
  kept_is h l =
      let long : length (take (count s.len) s.params) ≡ count s.len = length-take-le (count s.len) s.params (omega (arith, h)) in
      let len : count s.len ≡ s.len = omega (arith, l) in
      rw (long, len) refl

pub long_enough : (f : Contents) → length f.params ≤ 32 → length (settings_from f).params ≡ 32
long_enough f h = rw (length-append f.params (replicate (32 - length f.params) no_param), length-replicate (32 - length f.params) no_param) (omega (arith, h))

pub contents_are : (f : Contents) → length f.params ≤ 32 → contents_of (settings_from f) ≡ f
contents_are f h =
    let len : count (length f.params) ≡ length f.params = omega (arith, h) in
    rw (len, take-append_seam f.params (replicate (32 - length f.params) no_param)) refl
