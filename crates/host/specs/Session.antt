-- What a host's calls of a session answer, as Untimed and Timed have it for a sequence: as the call itself, of the session that the numbers stand
-- for, with two places for sends. Definitions only.
-- Assumes nothing.
use Rattle.std.specs.Prelude.{ℕ, true, false, List, [], ◌∷◌, map, Option, Some, None, Result, Ok, Err}
use Rattle.std.specs.Result.{result_unwrap_or}
use Rattle.protocol.specs.declared.Action.{Action}
use Rattle.protocol.specs.declared.Refusal.{Refusal}
use Rattle.protocol.specs.Refusals.{number}
use Rattle.device.specs.Model.{mevo}
use Rattle.sheet.specs.Sheet as sheet
use Rattle.dsp.specs.Answers as dsp
use Rattle.avr.specs.Answers as avr
use Rattle.pi.specs.declared.PiSync.{PiSync}
use Rattle.pi.specs.Answers as pi
use Rattle.session.specs.declared.SessionAnswer.{SessionAnswer}
use Rattle.session.specs.declared.SessionSync.{SessionSync}
use Rattle.session.specs.Answers as session
use Rattle.abi_values.specs.Numbers.{refusal_out}
use Rattle.abi_messages.specs.declared.CEnvelope.{CEnvelope}
use Rattle.abi_messages.specs.Messages.{envelope_in}
use Rattle.abi.specs.declared.action.CAction.{CAction}
use Rattle.abi.specs.Actions.{nothing, action_out}
use Rattle.abi_dsp.specs.State.{nack_out}
use Rattle.abi_session.specs.declared.CSession.{CSession}
use Rattle.abi_session.specs.State.{session_in, session_out, start_up_in}
use Rattle.host.specs.declared.c_session.CSessionFed.{CSessionFed}
use Rattle.host.specs.declared.c_session.COptionPiSync.{COptionPiSync}
use Rattle.host.specs.declared.c_session.CSessionFinished.{CSessionFinished}
use Rattle.host.specs.declared.c_session.CSessionTaken.{CSessionTaken}
use Rattle.host.specs.declared.written.CWritten.{CWritten}
use Rattle.host.specs.Sends.{unknown, known, both, opened}
use Rattle.host.specs.Fed.{back}
use Rattle.host.specs.Timed.{dsp_sync, avr_sync}
use Rattle.host.specs.Sheets.{told, declined}

-- ---- what is sent, in the order of sending: nothing beside a refusal

abbrev pub sends : Result (List (Option Action)) Refusal → List CAction
sends o = map action_out (result_unwrap_or o (None ∷ None ∷ []))

-- of the call that begins a session
abbrev pub session_first : SessionAnswer → CSessionFed
session_first f = record { refusal = refusal_out f.outcome; actions = sends f.outcome; session = session_out f.session }

-- of a call of a session that was handed in
abbrev pub session_answered : SessionAnswer → CSession → CSessionFed
session_answered f handed = record { refusal = refusal_out f.outcome; actions = sends f.outcome; session = back f.outcome (session_out f.session) handed }

-- a number that no case has
abbrev pub session_declined : CSession → CSessionFed
session_declined handed = record { refusal = unknown; actions = nothing ∷ nothing ∷ []; session = handed }

-- ---- new, feed, check

abbrev pub session_new : CSessionFed
session_new = session_first session.begun

abbrev pub session_feed : CSession → CEnvelope → List ℕ → List ℕ → ℕ → ℕ → CSessionFed
session_feed c e text payload t wall =
    both (session_in c) (envelope_in e)
    (λ s v. session_answered (session.fed_to s (record { envelope = opened v v.params text payload; wall = wall }) t) c) (session_declined c)

abbrev pub session_check : CSession → ℕ → CSessionFed
session_check c t = known (session_in c) (λ s. session_answered (session.polled s t) c) (session_declined c)

-- ---- the result

-- of a Pi; beside that of none stands what a new start-up has, which is empty
abbrev pub pi_sync_out : Option PiSync → COptionPiSync
pi_sync_out (Some s) = record { some = true; value = s }
pi_sync_out None = record { some = false; value = pi.sync_of (pi.begun).seq.replies }

-- beside a refusal stands what new start-ups have, and no Pi's
abbrev pub no_session_result : ℕ → CSessionFinished
no_session_result n = record {
  refusal = n;
  dsp = dsp_sync (dsp.sync_of (dsp.begun).seq.state.replies);
  avr = avr_sync (avr.sync_of (avr.begun mevo).seq.state.replies);
  pi = pi_sync_out None;
}

abbrev pub session_finished : Result SessionSync Refusal → CSessionFinished
session_finished (Ok s) = record { refusal = 0; dsp = dsp_sync s.dsp; avr = avr_sync s.avr; pi = pi_sync_out s.pi }
session_finished (Err r) = no_session_result (number r)

abbrev pub session_result : CSession → CSessionFinished
session_result c = known (session_in c) (λ s. session_finished (session.finished s)) (no_session_result unknown)

-- ---- the kept nack

abbrev pub session_take : CSession → CSessionTaken
session_take c =
    known (session_in c) (λ s. record { refusal = 0; refused = nack_out (session.taken s).refused; session = session_out (session.taken s).session })
    (record { refusal = unknown; refused = nack_out None; session = c })

-- ---- the sheet of one of its start-ups, and the buffer at exit

abbrev pub session_sheet : CSession → ℕ → List ℕ → ℕ → CWritten
session_sheet c n buf at = both (session_in c) (start_up_in n) (λ s w. told (sheet.answered (session.sheet_of s w) at buf)) declined

abbrev pub session_sheet_buffer : CSession → ℕ → List ℕ → ℕ → List ℕ
session_sheet_buffer c n buf at = both (session_in c) (start_up_in n) (λ s w. sheet.written (session.sheet_of s w) at buf) buf
