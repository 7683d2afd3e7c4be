-- PROMISE 3, whole: the theorems of the five sequences that have a table, side by side. Each is the one statement of crate matching
-- (Promise.antt: Ends; Answers where something is asked; Keeps and AnswersSoFar where there is a sheet) with a table, and each is proved from
-- the one matching theorem there. Definitions only.
-- Assumes nothing.
use Rattle.dsp_runs.specs.Theorem as dsp
use Rattle.avr_runs.specs.Theorem as avr
use Rattle.pi_runs.specs.Theorem as pi
use Rattle.avr_config_runs.specs.Theorem as config
use Rattle.disarm_runs.specs.Theorem as disarm

pub record Promises : Type 0 where
  -- a DSP start-up, by the model that its device info names; its result, and the nack that is kept
  pub dsp : dsp.Theorem
  -- an AVR start-up of any model, and its result
  pub avr : avr.Theorem
  -- a Pi start-up, and its result
  pub pi : pi.Theorem
  -- a settings run of any settings, after a refused start too
  pub avr_config : config.Theorem
  -- a disarm
  pub disarm : disarm.Theorem
