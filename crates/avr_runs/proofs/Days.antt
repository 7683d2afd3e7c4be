-- The theorem at work: lists of calls of units with a factory calibration and without, whatever the statuses in them and the models' other facts
-- are, in which every part of it is read. A weaker theorem would not give these.
-- Assumes nothing.
use Prim.Native.Nat.{ℕ}
use mathlib.Core.Path.{◌≡◌, refl, sym, ◌∙◌, ap}
use mathlib.Core.Bool.{Bool, true, false, true≢false}
use mathlib.Core.List.{List, [], ◌∷◌, ◌++◌}
use lib.IntN.{ℤ}
use native.Mathlib.Omega.{arith}
use lib.ListN.{length}
use Rattle.protocol.specs.declared.BusAddr.{BusAddr}
use Rattle.protocol.specs.declared.Message.{Message}
use Rattle.protocol.specs.declared.ParamData.{ParamData}
use Rattle.protocol.specs.declared.Refusal.{Refusal}
use Rattle.protocol.specs.declared.AvrStatus.{AvrStatus}
use Rattle.std.specs.Prelude.{◌+◌, ◌<◌, Some, None, Ok, Err, codes, decimal, replicate}
use Rattle.std.proofs.lemmas.Fmt.{decimal_digit, decimal_step}
use Rattle.protocol.specs.Stored.{stored}
use Rattle.device.specs.declared.model.DeviceModel.{DeviceModel}
use Rattle.device.specs.Model as models
use Rattle.matching.specs.Promise.{after_all, events, Matched, First}
use Rattle.matching.proofs.Called.{run_rises}
use Rattle.matching.proofs.Kept.{so_far}
use Rattle.matching.proofs.Machine.{leftmost}
use Rattle.matching.proofs.Leftmost.{leftmost_matching, leftmost_earliest}
use Rattle.sequence.specs.Events.{Event, checked, reading, plain}
use Rattle.sequence.specs.Calls.{feed, check, ask}
use Rattle.sheet.specs.declared.How.{How}
use Rattle.sheet.specs.declared.StartUp.{StartUp}
use Rattle.sheet.specs.Sheet as text
use Rattle.sheet.specs.Ticks.{kept}
use Rattle.avr_table.specs.declared.AvrStep.{AvrStep}
use Rattle.avr_table.specs.Stores.{Dated}
use Rattle.avr_table.specs.Table.{table}
use Rattle.avr.specs.declared.AvrSequencer.{AvrSequencer}
use Rattle.avr.specs.Answers.{begun, finished, is_done, sheet_of}
use Rattle.avr.specs.Calls.{AvrCall, into_result, sheet, after, event}
use Rattle.avr_runs.proofs.States.{sequencer}
use Rattle.avr_runs.proofs.Whole.{anti, right}

-- ---- what comes in

abbrev from : Message → List ℤ → List ℕ → List ℕ → ℕ → AvrCall
from m ps text payload t =
    feed (record { envelope = record { src = BusAddr.Avr; type_id = 0; message = m; params = ps; text = text; payload = payload }; wall = 9 }) t

abbrev reply : Message → ℕ → AvrCall
reply m t = from m [] [] [] t

abbrev dev_info : ℕ → ℕ → AvrCall
dev_info x t = from Message.DevInfoResp [] (x ∷ []) (x ∷ 0 ∷ []) t

abbrev param : ℕ → AvrCall
param t = reply (Message.ParamValue (record { param_id = 1; value = ParamData.Int24 (ℤ.pos 5) })) t

abbrev config : ℕ → AvrCall
config t = from Message.ConfigResp (ℤ.pos 5 ∷ []) [] [] t

-- the state and the run of a model's list, and what the theorem speaks of
module _ (m : DeviceModel) where
  abbrev state : List AvrCall → AvrSequencer
  state cs = after_all after (begun m).seq cs

  abbrev run : List AvrCall → List (Event Dated)
  run cs = events reading event 0 cs

  abbrev Off : List AvrCall → Type 0
  Off cs = Matched reading (checked 0) event (begun m).seq after (table m) cs

  abbrev places : List AvrCall → List ℕ
  places cs = leftmost reading (table m) (run cs)

  earliest : (cs : List AvrCall) → Off cs → First reading (checked 0) event (begun m).seq after (table m) cs (places cs)
  earliest cs d = leftmost_earliest {r = run cs} (anti m) (run_rises (sequencer m) cs) d.0 d.1

  not_yet : (cs : List AvrCall) → is_done (state cs).state.step ≡ false → Off cs → ⊥
  not_yet cs h d = true≢false (ap is_done (sym ((right m cs).ends.done.1 d)) ∙ h)

digit : (n : ℕ) → n < 10 → decimal n ≡ (48 + n) ∷ []
digit = decimal_digit

eleven : decimal 11 ≡ codes "11"
eleven = decimal_step 11 (omega arith) (omega arith) ∙ rw (digit 1 (omega arith)) refl

module _ (a b : AvrStatus) where
  -- up to the configuration: of two statuses and two device infos the second is kept
  abbrev begins : List AvrCall
  begins =
      reply (Message.AvrStatus a) 1 ∷ reply (Message.AvrStatus b) 2 ∷ dev_info 49 3 ∷ dev_info 50 4 ∷ reply (Message.AvrStatus a) 5 ∷ param 6
      ∷ param 7 ∷ config 8 ∷ []

  -- ---- with a factory calibration, as a Mevo and the rig: it is answered, the other one isn't; a check ticks that 2 s after the answer, an
  -- earlier one doesn't

  abbrev cal_early : List AvrCall
  cal_early =
      begins ++ from Message.CalDataResp [] [] (7 ∷ []) 10 ∷ check 2_000_000_009 ∷ check 2_000_000_010
      ∷ from Message.AvrConfigResp [] [] (8 ∷ []) 2_000_000_011 ∷ param 2_000_000_012 ∷ []

  abbrev cal_whole : List AvrCall
  cal_whole = cal_early ++ ask into_result ∷ reply (Message.TimeSync (record { epoch = 1; session = 0 })) 2_000_000_013 ∷ []

  abbrev cal_day : List AvrCall
  cal_day = cal_whole ++ ask into_result ∷ from Message.CalParamResp [] [] (9 ∷ []) 2_000_000_014 ∷ []

  -- whatever the other two facts are
  module _ (camera power_mode : Bool) where
    abbrev cal : DeviceModel
    cal = record { camera = camera; factory_cal = true; power_mode = power_mode }

    pub cal_entries : length (table cal) ≡ 12
    cal_entries = refl

    pub cal_places : places cal cal_day ≡ 0 ∷ 1 ∷ 2 ∷ 3 ∷ 5 ∷ 6 ∷ 7 ∷ 8 ∷ 10 ∷ 11 ∷ 12 ∷ 13 ∷ []
    cal_places = refl

    pub cal_ticked_off : Off cal cal_day
    unfolding stored
    cal_ticked_off = (right cal cal_day).ends.done.0 refl

    cal_whole_lem : Off cal cal_whole
    cal_whole_lem = (places cal cal_whole, leftmost_matching {r = run cal cal_whole} refl)

    pub cal_done : (state cal cal_day).state.step ≡ AvrStep.Done
    cal_done = (right cal cal_day).ends.done.1 (places cal cal_day, leftmost_matching {r = run cal cal_day} refl)

    pub cal_asked_early : finished (state cal cal_early) ≡ Err Refusal.NotDone
    unfolding stored
    cal_asked_early = (right cal cal_day).asked.before cal_early _ refl (not_yet cal cal_early refl)

    pub cal_result : finished (state cal cal_whole)
        ≡ Ok (record {
          status = b;
          dev_info = record { text = stored (50 ∷ []); payload = stored (50 ∷ 0 ∷ []) };
          config = record { params = ℤ.pos 5 ∷ [] };
          factory_cal = Some (record { payload = stored (7 ∷ []) });
          if_cal = None;
          avr_config = Some (record { payload = stored (8 ∷ []) });
        })
    cal_result =
        (right cal cal_day).asked.from cal_whole _ refl cal_whole_lem (places cal cal_day)
        (earliest cal cal_day cal_ticked_off)

  pub mevo_done : (state models.mevo cal_day).state.step ≡ AvrStep.Done
  mevo_done = cal_done true false

  -- the practice rig
  pub rig_entries : length (table models.rig) ≡ 12
  rig_entries = cal_entries false false

  pub rig_done : (state models.rig cal_day).state.step ≡ AvrStep.Done
  rig_done = cal_done false false

  -- ---- without one, as a Xi: done with the eighth entry; a factory calibration is not looked at

  abbrev bare_early : List AvrCall
  bare_early = begins ++ from Message.CalDataResp [] [] (7 ∷ []) 10 ∷ []

  abbrev bare_whole : List AvrCall
  bare_whole = bare_early ++ ask into_result ∷ from Message.CalParamResp [] [] (9 ∷ []) 11 ∷ []

  abbrev bare_day : List AvrCall
  bare_day = bare_whole ++ ask into_result ∷ from Message.AvrConfigResp [] [] (8 ∷ []) 12 ∷ []

  -- whatever the other two facts are
  module _ (camera power_mode : Bool) where
    abbrev bare : DeviceModel
    bare = record { camera = camera; factory_cal = false; power_mode = power_mode }

    pub bare_entries : length (table bare) ≡ 8
    bare_entries = refl

    pub bare_places : places bare bare_day ≡ 0 ∷ 1 ∷ 2 ∷ 3 ∷ 5 ∷ 6 ∷ 7 ∷ 9 ∷ []
    bare_places = refl

    pub bare_ticked_off : Off bare bare_day
    unfolding stored
    bare_ticked_off = (right bare bare_day).ends.done.0 refl

    bare_whole_lem : Off bare bare_whole
    bare_whole_lem = (places bare bare_whole, leftmost_matching {r = run bare bare_whole} refl)

    pub bare_done : (state bare bare_day).state.step ≡ AvrStep.Done
    bare_done = (right bare bare_day).ends.done.1 (places bare bare_day, leftmost_matching {r = run bare bare_day} refl)

    pub bare_asked_early : finished (state bare bare_early) ≡ Err Refusal.NotDone
    unfolding stored
    bare_asked_early = (right bare bare_day).asked.before bare_early _ refl (not_yet bare bare_early refl)

    pub bare_result : finished (state bare bare_whole)
        ≡ Ok (record {
          status = b;
          dev_info = record { text = stored (50 ∷ []); payload = stored (50 ∷ 0 ∷ []) };
          config = record { params = ℤ.pos 5 ∷ [] };
          factory_cal = None;
          if_cal = Some (record { payload = stored (9 ∷ []) });
          avr_config = None;
        })
    bare_result =
        (right bare bare_day).asked.from bare_whole _ refl bare_whole_lem (places bare bare_day) (earliest bare bare_day bare_ticked_off)

  pub xi_done : (state models.xi bare_day).state.step ≡ AvrStep.Done
  xi_done = bare_done false true

  -- ---- the sheet: a refused poll, the repoll's check, another device's status and a refused call are none of its lines

  abbrev sheet_day : List AvrCall
  sheet_day =
      reply (Message.ConfigNack (record { bus_addr = 0x30; acked_cmd = 0x2A })) 1 ∷ check 1_000_000_001
      ∷ feed (record { envelope = plain BusAddr.Dsp (Message.AvrStatus a) []; wall = 0 }) 1_000_000_002 ∷ reply (Message.AvrStatus b) 1_000_000_001
      ∷ reply (Message.AvrStatus a) 1_000_000_003 ∷ ask (sheet [] 0) ∷ reply (Message.AvrStatus b) 1_000_000_004 ∷ []

  pub sheet_ticks : kept (state models.xi sheet_day).ticks
      ≡ record { reading = 1_000_000_003; how = How.Reply } ∷ record { reading = 1_000_000_004; how = How.Reply } ∷ []
  sheet_ticks = (right models.xi sheet_day).ticks.each 2 (3 ∷ 4 ∷ []) (so_far (checked 0) (anti models.xi) (sequencer models.xi) None sheet_day)

  -- of a calibration that isn't answered the check is a line
  pub mevo_ticks : kept (state models.mevo cal_early).ticks
      ≡ record { reading = 1; how = How.Reply } ∷ record { reading = 2; how = How.Reply } ∷ record { reading = 3; how = How.Reply }
      ∷ record { reading = 4; how = How.Reply } ∷ record { reading = 6; how = How.Reply } ∷ record { reading = 7; how = How.Reply }
      ∷ record { reading = 8; how = How.Reply } ∷ record { reading = 10; how = How.Reply } ∷ record { reading = 2_000_000_010; how = How.Check }
      ∷ record { reading = 2_000_000_011; how = How.Reply } ∷ record { reading = 2_000_000_012; how = How.Reply } ∷ []
  mevo_ticks =
      (right models.mevo cal_early).ticks.each 11 (0 ∷ 1 ∷ 2 ∷ 3 ∷ 5 ∷ 6 ∷ 7 ∷ 8 ∷ 10 ∷ 11 ∷ 12 ∷ [])
      (so_far (checked 0) (anti models.mevo) (sequencer models.mevo) None cal_early)

  -- a Xi's last line has the number 8; and what the call for a sheet answers that fits exactly
  pub xi_ticks : kept (state models.xi bare_day).ticks
      ≡ record { reading = 1; how = How.Reply } ∷ record { reading = 2; how = How.Reply } ∷ record { reading = 3; how = How.Reply }
      ∷ record { reading = 4; how = How.Reply } ∷ record { reading = 6; how = How.Reply } ∷ record { reading = 7; how = How.Reply }
      ∷ record { reading = 8; how = How.Reply } ∷ record { reading = 11; how = How.Reply } ∷ []
  xi_ticks = (right models.xi bare_day).ticks.each 8 (places models.xi bare_day) (so_far (checked 0) (anti models.xi) (sequencer models.xi) None bare_day)

  abbrev xi_lines : List ℕ
  xi_lines = codes "A,1,1,R\nA,2,2,R\nA,3,3,R\nA,4,4,R\nA,5,6,R\nA,6,7,R\nA,7,8,R\nA,8,11,R\n"

  pub xi_text : text.sheet StartUp.Avr (kept (state models.xi bare_day).ticks) ≡ xi_lines
  xi_text =
      ap (text.sheet StartUp.Avr) xi_ticks
      ∙ rw (
        digit 1 (omega arith),
        digit 2 (omega arith),
        digit 3 (omega arith),
        digit 4 (omega arith),
        digit 5 (omega arith),
        digit 6 (omega arith),
        digit 7 (omega arith),
        digit 8 (omega arith),
        eleven,
      ) refl

  abbrev lent : List ℕ
  lent = replicate 65 0x2E

  pub xi_given : text.given (sheet_of (state models.xi bare_day)) 0 lent ≡ (Ok 65, xi_lines)
  xi_given =
      ((right models.xi (bare_day ++ ask (sheet lent 0) ∷ [])).sheets lent 0).each bare_day [] refl 8 (places models.xi bare_day)
      (so_far (checked 0) (anti models.xi) (sequencer models.xi) None bare_day)
      ∙ ap (λ t. text.given t 0 lent) (sym (ap (text.sheet StartUp.Avr) xi_ticks) ∙ xi_text)
