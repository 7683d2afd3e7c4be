-- The five theorems hold.
-- Assumes nothing.
use Rattle.dsp_runs.proofs.Whole as dsp
use Rattle.avr_runs.proofs.Whole as avr
use Rattle.pi_runs.proofs.Whole as pi
use Rattle.avr_config_runs.proofs.Whole as config
use Rattle.disarm_runs.proofs.Whole as disarm
use Rattle.promises.specs.Promises.{Promises}

pub kept : Promises
kept = record { dsp = dsp.right; avr = avr.right; pi = pi.right; avr_config = config.right; disarm = disarm.right }
