-- THE HAND-OVER. What ends the DSP is answered with the first sends of the others; so it must not send anything itself. Definitions only.
-- Assumes nothing.
use Rattle.std.specs.Prelude.{ℕ, ◌≡◌, true, false, None, Ok}
use Rattle.sequence.specs.Events.{Envelope}
use Rattle.dsp.specs.declared.DspSequencer.{DspSequencer}
use Rattle.dsp.specs.Answers.{is_done, fed_to, polled}

-- the feed or check that ends a DSP, in any state, sends nothing
pub record Theorem : Type 0 where
  pub by_a_feed : (s : DspSequencer) (e : Envelope) (t : ℕ) → is_done s.state.step ≡ false → is_done (fed_to s e t).seq.state.step ≡ true
      → (fed_to s e t).outcome ≡ Ok None
  pub by_a_check : (s : DspSequencer) (t : ℕ) → is_done s.state.step ≡ false → is_done (polled s t).seq.state.step ≡ true
      → (polled s t).outcome ≡ Ok None
