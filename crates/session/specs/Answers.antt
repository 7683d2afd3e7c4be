-- What the calls of a session answer, by what the calls of its sequences answer. Definitions only.
-- Assumes nothing.
use Rattle.std.specs.Prelude.{ℕ, Bool, true, false, ◌&&◌, cond, List, [], ◌∷◌, Option, Some, None, Result, Ok, Err}
use Rattle.protocol.specs.declared.BusAddr.{BusAddr}
use Rattle.protocol.specs.declared.Action.{Action}
use Rattle.protocol.specs.declared.Refusal.{Refusal}
use Rattle.device.specs.declared.model.DeviceModel.{DeviceModel}
use Rattle.device.specs.Model.{model_in, has_camera}
use Rattle.requests.specs.Requests.{status_poll}
use Rattle.sequence.specs.Accepted.{feed_outcome, check_outcome}
use Rattle.sequence.specs.Events.{Envelope}
use Rattle.sequence.specs.declared.Answer.{Answer}
use Rattle.sequence.specs.Rows.{judged}
use Rattle.sheet.specs.declared.StartUp.{StartUp}
use Rattle.sheet.specs.declared.StartUp.TheVariants.{Dsp, Avr, Pi}
use Rattle.dsp.specs.declared.DspSequencer.{DspSequencer}
use Rattle.dsp.specs.Answers as dsp
use Rattle.avr_table.specs.Stores.{Dated}
use Rattle.avr.specs.declared.AvrSequencer.{AvrSequencer}
use Rattle.avr.specs.Answers as avr
use Rattle.pi.specs.declared.PiSequencer.{PiSequencer}
use Rattle.pi.specs.Answers as pi
use Rattle.session.specs.declared.Session.{Session}
use Rattle.session.specs.declared.SessionAnswer.{SessionAnswer}
use Rattle.session.specs.declared.Heard.{Heard}
use Rattle.session.specs.declared.SessionSync.{SessionSync}
use Rattle.session.specs.declared.SessionTaken.{SessionTaken}
use Rattle.pi.specs.declared.PiSync.{PiSync}

-- ---- at most two commands, in the order of sending

-- what an answer sends; a refused call sends nothing
abbrev pub sent : Result (Option Action) Refusal → Option Action
sent (Ok a) = a
sent (Err r) = None

abbrev pub accepted : Option Action → Option Action → Session → SessionAnswer
accepted a b s = record { outcome = Ok (a ∷ b ∷ []); session = s }

-- no send, and the session, the last reading of its DSP included, as before
abbrev pub refused : Session → Refusal → SessionAnswer
refused s r = record { outcome = Err r; session = s }

-- new polls the Dsp; nothing else has begun
abbrev pub begun : SessionAnswer
begun = accepted (Some (status_poll false BusAddr.Dsp)) None (record { dsp = dsp.begun.seq; avr = None; pi = None })

-- ---- the DSP leads; what ends it is not passed on

abbrev pub dsp_done : Session → Bool
dsp_done s = dsp.is_done s.dsp.state.step

-- the AVR begins with the model that the DSP found, and where it has a camera the Pi
abbrev pub begun_for : DspSequencer → DeviceModel → SessionAnswer
begun_for d m =
    accepted (Some (status_poll false BusAddr.Avr)) (cond (has_camera m) (Some (status_poll true BusAddr.Pi)) None)
    (record { dsp = d; avr = Some (avr.begun m).seq; pi = cond (has_camera m) (Some pi.begun.seq) None })

abbrev pub led : Session → Answer DspSequencer → SessionAnswer
led s f =
    cond (dsp.is_done f.seq.state.step) (begun_for f.seq (model_in f.seq.state.replies.dev_info))
    (accepted (sent f.outcome) None (record { dsp = f.seq; avr = s.avr; pi = s.pi }))

-- ---- what the sequences that have begun make of a call

-- f: the call
abbrev pub heard : {S : Type 0} → (S → Answer S) → Option S → Heard S
heard f None = record { action = None; seq = None }
heard f (Some s) = record { action = sent (f s).outcome; seq = Some (f s).seq }

abbrev pub avr_feed : Option AvrSequencer → Dated → ℕ → Heard AvrSequencer
avr_feed o d t = heard (λ s. avr.fed_to s d t) o

abbrev pub avr_check : Option AvrSequencer → ℕ → Heard AvrSequencer
avr_check o t = heard (λ s. avr.polled s t) o

abbrev pub pi_feed : Option PiSequencer → Envelope → Heard PiSequencer
pi_feed o e = heard (λ s. pi.fed_to s e) o

-- an envelope as the Pi takes it: no numbers of a ConfigResp
abbrev pub bare : Envelope → Envelope
bare e = record { src = e.src; type_id = e.type_id; message = e.message; params = []; text = e.text; payload = e.payload }

-- ---- the calls: refused by the session's own reading, which is its DSP's

abbrev pub feed_accepted : Session → Dated → ℕ → SessionAnswer
feed_accepted s d t =
    let f = dsp.fed_to s.dsp d.envelope t in
    let v = avr_feed s.avr d t in
    let p = pi_feed s.pi (bare d.envelope) in
    cond (dsp_done s) (accepted v.action p.action (record { dsp = f.seq; avr = v.seq; pi = p.seq })) (led s f)

abbrev pub fed_to : Session → Dated → ℕ → SessionAnswer
fed_to s d t = judged (feed_outcome d.envelope.text d.envelope.payload s.dsp.last t) (feed_accepted s d t) (refused s)

abbrev pub check_accepted : Session → ℕ → SessionAnswer
check_accepted s t =
    let f = dsp.polled s.dsp t in
    let v = avr_check s.avr t in
    cond (dsp_done s) (accepted v.action None (record { dsp = f.seq; avr = v.seq; pi = s.pi })) (led s f)

abbrev pub polled : Session → ℕ → SessionAnswer
polled s t = judged (check_outcome s.dsp.last t) (check_accepted s t) (refused s)

-- ---- the result: 12 before all that the model has are done

-- what has begun is done; s: none has
abbrev pub avr_done : Option AvrSequencer → Bool
avr_done None = false
avr_done (Some s) = avr.is_done s.state.step

-- a session without a Pi waits for none
abbrev pub pi_done : Option PiSequencer → Bool
pi_done None = true
pi_done (Some s) = pi.is_done s.step

abbrev pub is_done : Session → Bool
is_done s = dsp_done s && avr_done s.avr && pi_done s.pi

abbrev pub pi_sync : Option PiSequencer → Option PiSync
pi_sync None = None
pi_sync (Some s) = Some (pi.sync_of s.replies)

abbrev pub finished_with : Session → Option AvrSequencer → Result SessionSync Refusal
finished_with s None = Err Refusal.NotDone
finished_with s (Some v) = Ok (record { dsp = dsp.sync_of s.dsp.state.replies; avr = avr.sync_of v.state.replies; pi = pi_sync s.pi })

abbrev pub finished : Session → Result SessionSync Refusal
finished s = cond (is_done s) (finished_with s s.avr) (Err Refusal.NotDone)

-- ---- the kept nack, which is the DSP's

abbrev pub taken : Session → SessionTaken
taken s = record { refused = (dsp.taken s.dsp).refused; session = record { dsp = (dsp.taken s.dsp).seq; avr = s.avr; pi = s.pi } }

-- ---- the text of a sheet: that of the sequence, and empty where it hasn't begun

abbrev pub sheet_by : {S : Type 0} → (S → List ℕ) → Option S → List ℕ
sheet_by text None = []
sheet_by text (Some s) = text s

abbrev pub sheet_of : Session → StartUp → List ℕ
sheet_of s Dsp = dsp.sheet_of s.dsp
sheet_of s Avr = sheet_by avr.sheet_of s.avr
sheet_of s Pi = sheet_by pi.sheet_of s.pi
