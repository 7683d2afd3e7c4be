-- The nack is the DSP's.
-- Assumes nothing.
use mathlib.Core.List.{map}
use Rattle.std.specs.Prelude.{None}
use Rattle.device.specs.Model.{has_power_mode}
use Rattle.sequence.specs.Events.{checked, reading}
use Rattle.sequence.specs.Calls.{ask}
use Rattle.dsp_table.specs.Table.{table}
use Rattle.dsp.specs.Answers as dsps
use Rattle.dsp.specs.Calls as dsp
use Rattle.dsp_runs.specs.Theorem.{nack_of}
use Rattle.dsp_runs.proofs.Whole as dsp_runs
use Rattle.session.specs.Answers as answers
use Rattle.session_runs.specs.Calls.{take_refused, after, dsp_call}
use Rattle.session_promise.specs.Taking.{Theorem}
use Rattle.session_promise.proofs.Start.{follows}
use Rattle.session_promise.proofs.Through as through

pub taking : Theorem
taking m cs n =
    through.answers reading (checked 0) dsp.event answers.begun.session after dsps.begun.seq dsp.after (table m) dsp_call (λ s. s.dsp) follows
    (ask take_refused) (λ v. (dsps.taken v).refused) None (nack_of (has_power_mode m)) cs (dsp_runs.right.right m (map dsp_call cs) n).took
