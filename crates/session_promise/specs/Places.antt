-- Where the tables of a session are ticked off: the DSP's over the whole run of its calls, the AVR's and the Pi's over the part of the run since
-- the place that ends the DSP's earliest ticking. Definitions only.
-- Assumes nothing.
use Rattle.std.specs.Prelude.{ℕ, suc, ◌-◌, List, map, length, get_or, drop}
use Rattle.device.specs.declared.model.DeviceModel.{DeviceModel}
use Rattle.matching.specs.Matching.{Matching, Earliest}
use Rattle.matching.specs.Promise.{Matched, First}
use Rattle.sequence.specs.Events.{Envelope, Event, checked, reading}
use Rattle.dsp_table.specs.Table as dsp_table
use Rattle.dsp.specs.Calls as dsp
use Rattle.dsp_runs.specs.Theorem as dsp_runs
use Rattle.avr_table.specs.Stores.{Dated}
use Rattle.avr_table.specs.Table as avr_table
use Rattle.pi_table.specs.Table as pi_table
use Rattle.session.specs.Answers.{begun}
use Rattle.session_runs.specs.Calls.{SessionCall, after, run, dsp_call, pi_events}

-- what a call of the session is to its DSP: an event without wall seconds
abbrev pub dsp_event : ℕ → SessionCall → List (Event Envelope)
dsp_event last c = dsp.event last (dsp_call c)

module _ (m : DeviceModel) (cs : List SessionCall) where
  -- the list names m: its device info that ticks the DSP's entry 3 does (crate dsp_runs)
  abbrev pub Names : Type 0
  Names = dsp_runs.Names m (map dsp_call cs)

  -- ---- the DSP: over the whole run

  abbrev pub DspTicked : Type 0
  DspTicked = Matched reading (checked 0) dsp_event begun.session after (dsp_table.table m) cs

  abbrev pub DspFirst : List ℕ → Type 0
  DspFirst ps = First reading (checked 0) dsp_event begun.session after (dsp_table.table m) cs ps

  -- ---- the others; the DSP's earliest ticking is at the places ps

  -- the place that ends it
  abbrev pub start : List ℕ → ℕ
  start ps = get_or ps (length (dsp_table.table m) - 1) 0

  -- the part of the session's run since: what comes after that place
  abbrev pub part : List ℕ → List (Event Dated)
  part ps = drop (suc (start ps)) (run cs)

  abbrev pub AvrTicked : List ℕ → Type 0
  AvrTicked ps = (qs : List ℕ) × Matching reading (checked 0) (avr_table.table m) (part ps) qs

  abbrev pub AvrFirst : List ℕ → List ℕ → Type 0
  AvrFirst ps qs = Earliest reading (checked 0) (avr_table.table m) (part ps) qs

  -- of the part the Pi hears the feeds, without readings
  abbrev pub PiTicked : List ℕ → Type 0
  PiTicked ps = (rs : List ℕ) × Matching reading (checked 0) pi_table.table (pi_events (part ps)) rs

  abbrev pub PiFirst : List ℕ → List ℕ → Type 0
  PiFirst ps rs = Earliest reading (checked 0) pi_table.table (pi_events (part ps)) rs
