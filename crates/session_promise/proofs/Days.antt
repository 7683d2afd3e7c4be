-- The theorems at work: a session of a Xi to its Done, whose DSP is ended by a check, and the hand-overs of a Mevo and of the rig.
-- Assumes nothing.
use Prim.Native.Nat.{ℕ}
use mathlib.Core.Path.{◌≡◌, refl, sym}
use mathlib.Core.Bool.{true, false, true≢false}
use mathlib.Core.List.{List, [], ◌∷◌, ◌++◌, map}
use lib.IntN.{ℤ}
use Rattle.std.specs.Prelude.{Some, None, Ok, Err, codes}
use Rattle.protocol.specs.declared.AvrStatus.{AvrStatus}
use Rattle.protocol.specs.declared.BusAddr.{BusAddr}
use Rattle.protocol.specs.declared.DspStatus.{DspStatus}
use Rattle.protocol.specs.declared.Message.{Message}
use Rattle.protocol.specs.declared.ParamData.{ParamData}
use Rattle.protocol.specs.declared.Refusal.{Refusal}
use Rattle.protocol.specs.Stored as stores
use Rattle.device.specs.Model as models
use Rattle.requests.specs.Requests.{status_poll}
use Rattle.sequence.specs.Calls.{feed, check}
use Rattle.dsp_runs.proofs.Whole as dsp_runs
use Rattle.session.specs.declared.SessionAnswer.{SessionAnswer}
use Rattle.session.specs.Answers.{is_done, finished, fed_to, polled}
use Rattle.session_runs.specs.Calls.{SessionCall, state, run, dsp_call}
use Rattle.session_promise.specs.Places.{Names}
use Rattle.session_promise.specs.Whole.{AllTicked}
use Rattle.session_promise.proofs.Whole.{whole}
use Rattle.avr_table.specs.Stores.{Dated}

-- ---- what comes in

abbrev sent : BusAddr → Message → List ℤ → List ℕ → List ℕ → Dated
sent src m ps text payload = record { envelope = record { src = src; type_id = 0x94; message = m; params = ps; text = text; payload = payload }; wall = 9 }

abbrev from : BusAddr → Message → List ℤ → List ℕ → List ℕ → ℕ → SessionCall
from src m ps text payload t = feed (sent src m ps text payload) t

abbrev prod_info : ℕ → SessionCall
prod_info t = from BusAddr.Dsp Message.ProdInfoResp [] (65 ∷ []) [] t

abbrev param : ℕ → SessionCall
param t = from BusAddr.Avr (Message.ParamValue (record { param_id = 1; value = ParamData.Int24 (ℤ.pos 5) })) [] [] [] t

abbrev info : ℕ → SessionCall
info t = from BusAddr.Avr Message.DevInfoResp [] (50 ∷ []) (50 ∷ []) t

abbrev avr_status : AvrStatus → ℕ → SessionCall
avr_status a t = from BusAddr.Avr (Message.AvrStatus a) [] [] [] t

-- the DSP's replies up to its sixth, of the unit that the payload names
abbrev six : List ℕ → List SessionCall
six payload =
    from BusAddr.Dsp (Message.DspStatus (DspStatus.V46 (record { state = 1; version = 0x46 }))) [] [] (7 ∷ 8 ∷ []) 5
    ∷ from BusAddr.Dsp (Message.ConfigNack (record { bus_addr = 0x40; acked_cmd = 0x48 })) [] [] [] 6
    ∷ from BusAddr.Dsp Message.DevInfoResp [] [] payload 7 ∷ prod_info 8 ∷ prod_info 9 ∷ prod_info 10 ∷ []

abbrev config : Dated
config = sent BusAddr.Dsp Message.ConfigResp (ℤ.pos 5 ∷ []) [] []

-- ---- the hand-over by the configuration: the Pi's first send behind the AVR's, where there is a camera

mevo_begins : (fed_to (state (six [])) config 11).outcome ≡ Ok (Some (status_poll false BusAddr.Avr) ∷ Some (status_poll true BusAddr.Pi) ∷ [])
unfolding stores.stored
mevo_begins = refl

rig_begins : (fed_to (state (six (codes "BAY RIG"))) config 11).outcome ≡ Ok (Some (status_poll false BusAddr.Avr) ∷ None ∷ [])
unfolding stores.stored
rig_begins = refl

-- ---- a Xi: the power mode goes unanswered. A status that comes too early is refused: a new AVR would take it

abbrev xi_awaits : List SessionCall
xi_awaits = six (codes "FS Xi") ++ feed config 11 ∷ []

abbrev xi_begun : List SessionCall
xi_begun = xi_awaits ++ check 2_000_000_011 ∷ []

xi_begins : (polled (state xi_awaits) 2_000_000_011).outcome ≡ Ok (Some (status_poll false BusAddr.Avr) ∷ None ∷ [])
unfolding stores.stored
xi_begins = refl

with_the_dsp_alone : finished (state xi_begun) ≡ Err Refusal.NotDone
unfolding stores.stored
with_the_dsp_alone = refl

module _ (a : AvrStatus) where
  too_early : (fed_to (state xi_begun) (sent BusAddr.Avr (Message.AvrStatus a) [] [] []) 12).outcome ≡ Err Refusal.ReadingBelowLast
  unfolding stores.stored
  too_early = refl

  abbrev xi_day : List SessionCall
  xi_day =
      xi_begun ++ avr_status a 12 ∷ avr_status a 2_000_000_012 ∷ avr_status a 2_000_000_013 ∷ info 2_000_000_014 ∷ info 2_000_000_015 ∷ param 2_000_000_016
      ∷ param 2_000_000_017 ∷ from BusAddr.Avr Message.ConfigResp (ℤ.pos 5 ∷ []) [] [] 2_000_000_018
      ∷ from BusAddr.Avr Message.CalParamResp [] [] (9 ∷ []) 2_000_000_019 ∷ []

  xi_done : is_done (state xi_day) ≡ true
  unfolding stores.stored
  xi_done = refl

  xi_no_pi : (state xi_day).pi ≡ None
  unfolding stores.stored
  xi_no_pi = refl

  -- no device info of the Dsp's
  not : {A : Type 0} → false ≡ true → A
  not h = absurd (true≢false (sym h))

  xi_named : Names models.xi xi_day
  xi_named =
      dsp_runs.right.agreed models.xi (map dsp_call xi_day)
      (not, (not, (λ p. refl, (not, (not, (not, (not, (tt, (not, (not, (not, (not, (not, (not, (not, (not, tt))))))))))))))))

  -- so its tables are ticked off
  xi_ticked : AllTicked models.xi xi_day
  xi_ticked = (whole models.xi xi_day xi_named).done.0 xi_done
