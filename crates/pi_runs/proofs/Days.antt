-- The theorem at work: one list of calls, whatever the two camera configurations in it are, in which every part of it is read. A weaker
-- theorem would not give these.
-- Assumes nothing.
use Prim.Native.Nat.{ℕ}
use mathlib.Core.Path.{◌≡◌, refl, sym, ap, ◌∙◌}
use mathlib.Core.Bool.{true≢false}
use mathlib.Core.List.{List, [], ◌∷◌, ◌++◌}
use Rattle.protocol.specs.declared.BusAddr.{BusAddr}
use Rattle.protocol.specs.declared.Message.{Message}
use Rattle.protocol.specs.declared.CamConfig.{CamConfig}
use Rattle.protocol.specs.declared.ParamData.{ParamData}
use lib.IntN.{ℤ}
use Rattle.std.proofs.Common.{◌+◌, ◌/◌, ◌%◌, ◌<◌, ◌≤◌, decimal, arith}
use Rattle.std.specs.Prelude.{Ok, Err, codes, replicate}
use Rattle.std.proofs.lemmas.Fmt.{decimal_digit, decimal_step}
use Rattle.protocol.specs.declared.Refusal.{Refusal}
use Rattle.protocol.specs.Stored.{stored}
use Rattle.matching.specs.Promise.{after_all, events, Matched, First}
use Rattle.matching.proofs.Called.{run_rises}
use Rattle.matching.proofs.Kept.{so_far}
use Rattle.matching.proofs.Machine.{leftmost}
use Rattle.matching.proofs.Leftmost.{leftmost_matching, leftmost_earliest}
use Rattle.sequence.specs.Events.{Envelope, Event, checked, reading}
use Rattle.sequence.specs.Calls.{Untimed}
use Rattle.sheet.specs.declared.How.{How}
use Rattle.sheet.specs.declared.StartUp.{StartUp}
use Rattle.sheet.specs.Sheet as text
use Rattle.sheet.specs.Ticks.{kept}
use Rattle.pi_table.specs.declared.PiStep.{PiStep}
use Rattle.pi.specs.declared.PiSequencer.{PiSequencer}
use Rattle.pi_table.specs.Table.{table}
use Rattle.pi.specs.Answers.{begun, finished, is_done, sheet_of}
use Rattle.pi.specs.Calls.{PiCall, into_result, sheet, after, event}
use Rattle.pi_runs.proofs.Whole.{anti, sequencer, right}

-- ---- what comes in

abbrev from : Message → List ℕ → List ℕ → PiCall
from m text payload = Untimed.feed (record { src = BusAddr.Pi; type_id = 0; message = m; params = []; text = text; payload = payload })

abbrev param : PiCall
param = from (Message.ParamValue (record { param_id = 1; value = ParamData.Int24 (ℤ.pos 5) })) [] []

abbrev state : List PiCall → PiSequencer
state cs = after_all after begun.seq cs

abbrev run : List PiCall → List (Event Envelope)
run cs = events reading event 0 cs

abbrev Off : List PiCall → Type 0
Off cs = Matched reading (checked 0) event begun.seq after table cs

abbrev places : List PiCall → List ℕ
places cs = leftmost reading table (run cs)

digit : (n : ℕ) → n < 10 → decimal n ≡ (48 + n) ∷ []
digit = decimal_digit

teen : (n : ℕ) → 10 ≤ n → n < 20 → decimal n ≡ 49 ∷ (48 + n % 10) ∷ []
teen n low high =
    let one : n / 10 ≡ 1 = omega arith in
    decimal_step n low (omega arith) ∙ rw (one, digit 1 (omega arith)) refl

-- ---- the day: the result is asked for before the last parameter, and at the end

module _ (a b : CamConfig) where
  abbrev early : List PiCall
  early =
      from Message.PiStatus [] [] ∷ from Message.DevInfoResp (49 ∷ []) (50 ∷ []) ∷ from Message.DevInfoResp (51 ∷ []) [] ∷ param
      ∷ from (Message.CamConfig a) [] [] ∷ from (Message.CamConfig b) [] [] ∷ from (Message.CamConfig a) [] []
      ∷ from Message.NetConfigResp (65 ∷ 0 ∷ 66 ∷ []) [] ∷ from Message.NetConfigResp (67 ∷ 0 ∷ 68 ∷ 0 ∷ []) []
      ∷ param ∷ param ∷ param ∷ param ∷ param ∷ param ∷ param ∷ param ∷ []

  abbrev whole : List PiCall
  whole = early ++ Untimed.ask into_result ∷ param ∷ []

  abbrev day : List PiCall
  day = whole ++ Untimed.ask into_result ∷ from Message.NetConfigResp (69 ∷ []) [] ∷ []

  pub day_places : places day ≡ 0 ∷ 1 ∷ 3 ∷ 4 ∷ 5 ∷ 7 ∷ 8 ∷ 9 ∷ 10 ∷ 11 ∷ 12 ∷ 13 ∷ 14 ∷ 15 ∷ 16 ∷ 17 ∷ []
  day_places = refl

  pub ticked_off : Off day
  unfolding stored
  ticked_off = (right day).ends.done.0 refl

  whole_ticked_off : Off whole
  whole_ticked_off = (places whole, leftmost_matching {r = run whole} refl)

  pub done : (state day).step ≡ PiStep.Done
  done = (right day).ends.done.1 (places day, leftmost_matching {r = run day} refl)

  earliest : First reading (checked 0) event begun.seq after table day (places day)
  earliest = leftmost_earliest {r = run day} anti (run_rises sequencer day) ticked_off.0 ticked_off.1

  not_yet : Off early → ⊥
  unfolding stored
  not_yet d = true≢false (ap is_done (sym ((right early).ends.done.1 d)))

  pub asked_early : finished (state early) ≡ Err Refusal.NotDone
  asked_early = (right day).asked.before early _ refl not_yet

  -- the first device info, the second camera configuration, the second network text
  pub result : finished (state whole)
      ≡ Ok (record {
        dev_info = record { text = stored (49 ∷ []); payload = stored (50 ∷ []) };
        cam_config = b;
        ssid = stored (67 ∷ []);
        password = stored (68 ∷ 0 ∷ []);
      })
  result = (right day).asked.from whole _ refl whole_ticked_off (places day) earliest

  -- its sheet: sixteen lines, each with reading 0
  pub day_ticks : kept (state day).ticks ≡ replicate 16 (record { reading = 0; how = How.Reply })
  day_ticks = (right day).ticks.each 16 (places day) (so_far (checked 0) anti sequencer tt day)

  abbrev lines : List ℕ
  lines = codes "P,1,0,R\nP,2,0,R\nP,3,0,R\nP,4,0,R\nP,5,0,R\nP,6,0,R\nP,7,0,R\nP,8,0,R\nP,9,0,R\nP,10,0,R\nP,11,0,R\nP,12,0,R\nP,13,0,R\nP,14,0,R\nP,15,0,R\nP,16,0,R\n"

  abbrev lent : List ℕ
  lent = replicate 135 0x2E

  -- what the call for a sheet answers that fits exactly
  pub given : text.given (sheet_of (state day)) 0 lent ≡ (Ok 135, lines)
  given =
      ((right (day ++ Untimed.ask (sheet lent 0) ∷ [])).sheets lent 0).each day [] refl 16 (places day) (so_far (checked 0) anti sequencer tt day)
      ∙ ap (λ t. text.given t 0 lent) written
    where
      written : text.sheet StartUp.Pi (replicate 16 (record { reading = 0; how = How.Reply })) ≡ lines
      written = rw (
        digit 0 (omega arith),
        digit 1 (omega arith),
        digit 2 (omega arith),
        digit 3 (omega arith),
        digit 4 (omega arith),
        digit 5 (omega arith),
        digit 6 (omega arith),
        digit 7 (omega arith),
        digit 8 (omega arith),
        digit 9 (omega arith),
        teen 10 (omega arith) (omega arith),
        teen 11 (omega arith) (omega arith),
        teen 12 (omega arith) (omega arith),
        teen 13 (omega arith) (omega arith),
        teen 14 (omega arith) (omega arith),
        teen 15 (omega arith) (omega arith),
        teen 16 (omega arith) (omega arith),
      ) refl
