-- The theorem at work: a season of DSP start-ups and one of AVR start-ups of a Xi, some of which are refused. A weaker theorem would not give these.
-- Assumes nothing.
use Prim.Native.Nat.{ℕ}
use mathlib.Core.Path.{◌≡◌, refl}
use mathlib.Core.List.{List, [], ◌∷◌, ◌++◌}
use lib.IntN.{ℤ}
use Rattle.std.specs.Prelude.{codes}
use Rattle.protocol.specs.declared.BusAddr.{BusAddr}
use Rattle.protocol.specs.declared.Message.{Message}
use Rattle.protocol.specs.declared.DspStatus.{DspStatus}
use Rattle.protocol.specs.declared.ParamData.{ParamData}
use Rattle.protocol.specs.Carried.{no_avr_status}
use Rattle.protocol.specs.Stored.{stored}
use Rattle.device.specs.Model as models
use Rattle.sequence.specs.Calls.{feed, check, ask}
use Rattle.dsp.specs.Calls.{DspCall, into_result}
use Rattle.avr.specs.Calls.{AvrCall}
use Rattle.report.specs.declared.Sequence.{Sequence}
use Rattle.report.specs.declared.Report.{Report}
use Rattle.report.specs.Report.{begun}
use Rattle.report_runs.specs.Theorem.{StartUp, of_dsp, of_avr, made, ticked_at, after, those_taken}
use Rattle.report_runs.proofs.Whole.{right}

-- ---- DSP start-ups: the readings at which they are fed, from the status on

abbrev from_dsp : Message → List ℕ → ℕ → DspCall
from_dsp m payload t = feed (record { src = BusAddr.Dsp; type_id = 0; message = m; params = []; text = []; payload = payload }) t

abbrev dsp_status : ℕ → DspCall
dsp_status t = from_dsp (Message.DspStatus (DspStatus.V46 (record { state = 1; version = 0x46 }))) [] t

abbrev dsp_nack : ℕ → ℕ → DspCall
dsp_nack c t = from_dsp (Message.ConfigNack (record { bus_addr = 0x40; acked_cmd = c })) [] t

abbrev dev_info : List ℕ → ℕ → DspCall
dev_info payload t = from_dsp Message.DevInfoResp payload t

abbrev rest : ℕ → ℕ → ℕ → ℕ → List DspCall
rest a b c d = from_dsp Message.ProdInfoResp [] a ∷ from_dsp Message.ProdInfoResp [] b ∷ from_dsp Message.ProdInfoResp [] c ∷ from_dsp Message.ConfigResp [] d ∷ []

-- of a Xi, its third tick being at 9: a Mevo's device info before that, which nothing awaits, names no model
abbrev xi_one : List DspCall
xi_one = dev_info (codes "BAY") 4 ∷ dsp_status 5 ∷ dsp_nack 0x48 6 ∷ dev_info (codes "FS Xi") 9 ∷ rest 10 11 12 20 ++ ask into_result ∷ dsp_nack 0x3F 33 ∷ dsp_status 40 ∷ []

-- the query is passed by a check, the power mode not answered
abbrev xi_two : List DspCall
xi_two =
    dsp_status 10 ∷ check 2_000_000_009 ∷ check 2_000_000_010 ∷ dev_info (codes "FS Xi") 2_000_000_015
    ∷ rest 2_000_000_016 2_000_000_017 2_000_000_018 2_000_000_019 ++ check 4_000_000_019 ∷ []

-- not done; before the third tick; of a Mevo
abbrev xi_part : List DspCall
xi_part = dsp_status 5 ∷ dsp_nack 0x48 100 ∷ dev_info (codes "FS Xi") 200 ∷ []

abbrev xi_early : List DspCall
xi_early = dev_info (codes "FS Xi") 4 ∷ dsp_status 5 ∷ dsp_nack 0x48 6 ∷ []

abbrev mevo : List DspCall
mevo = dsp_status 5 ∷ dsp_nack 0x48 6 ∷ dev_info [] 9 ∷ rest 10 11 12 20

abbrev season : List StartUp
season = of_dsp xi_early ∷ of_dsp xi_one ∷ of_dsp mevo ∷ of_dsp xi_part ∷ of_dsp xi_two ∷ of_avr models.xi [] ∷ []

pub ticks_of_one : ticked_at (made (of_dsp xi_one)) ≡ 5 ∷ 6 ∷ 9 ∷ 10 ∷ 11 ∷ 12 ∷ 20 ∷ 33 ∷ []
unfolding stored
ticks_of_one = refl

pub season_taken : those_taken (begun Sequence.Dsp models.xi) season ≡ of_dsp xi_one ∷ of_dsp xi_part ∷ of_dsp xi_two ∷ []
unfolding stored
season_taken = refl

abbrev season_report : Report
season_report = record {
  sequence = Sequence.Dsp;
  model = models.xi;
  taken = 3;
  done = 2;
  waits = 2_000_000_001 ∷ 8 ∷ 2 ∷ 2 ∷ 2 ∷ 9 ∷ 2_000_000_013 ∷ 0 ∷ 0 ∷ 0 ∷ 0 ∷ [];
  shortest = 28;
  longest = 4_000_000_009;
  summed = 4_000_000_037;
}

pub season_lem : after (begun Sequence.Dsp models.xi) season ≡ season_report
unfolding stored
season_lem = right.figures Sequence.Dsp models.xi season

-- ---- AVR start-ups of a Xi: the table's entry 9 is the eighth tick

abbrev from_avr : Message → ℕ → AvrCall
from_avr m t = feed (record { envelope = record { src = BusAddr.Avr; type_id = 0; message = m; params = []; text = []; payload = [] }; wall = 9 }) t

abbrev param : ℕ → AvrCall
param t = from_avr (Message.ParamValue (record { param_id = 1; value = ParamData.Int24 (ℤ.pos 5) })) t

abbrev avr_xi : List AvrCall
avr_xi =
    from_avr (Message.AvrStatus no_avr_status) 1 ∷ from_avr (Message.AvrStatus no_avr_status) 2 ∷ from_avr Message.DevInfoResp 4
    ∷ from_avr Message.DevInfoResp 7 ∷ param 11 ∷ param 16 ∷ from_avr Message.ConfigResp 22 ∷ from_avr Message.CalParamResp 29 ∷ []

abbrev avr_season : List StartUp
avr_season = of_avr models.rig avr_xi ∷ of_avr models.xi avr_xi ∷ of_avr models.xi [] ∷ []

pub avr_season_lem : after (begun Sequence.Avr models.xi) avr_season ≡ record {
  sequence = Sequence.Avr;
  model = models.xi;
  taken = 2;
  done = 1;
  waits = 1 ∷ 2 ∷ 3 ∷ 4 ∷ 5 ∷ 6 ∷ 7 ∷ 0 ∷ 0 ∷ 0 ∷ 0 ∷ [];
  shortest = 28;
  longest = 28;
  summed = 28;
}
unfolding stored
avr_season_lem = right.figures Sequence.Avr models.xi avr_season
