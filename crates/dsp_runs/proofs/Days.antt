-- The theorem at work: lists of calls of a Xi, a Mevo and the rig, in which every part of it is read. A weaker theorem would not give these.
-- Assumes nothing.
use Prim.Native.Nat.{ℕ}
use mathlib.Core.Path.{◌≡◌, refl, sym, ◌∙◌, ap}
use mathlib.Core.Bool.{true, false, true≢false}
use mathlib.Core.List.{List, [], ◌∷◌, ◌++◌}
use lib.IntN.{ℤ}
use lib.ListN.{length}
use Rattle.std.specs.Prelude.{Some, None, Result, Ok, Err, option_map, codes}
use Rattle.std.specs.Result.{result_ok}
use Rattle.protocol.specs.declared.BusAddr.{BusAddr}
use Rattle.protocol.specs.declared.Message.{Message}
use Rattle.protocol.specs.declared.Refusal.{Refusal}
use Rattle.protocol.specs.declared.Refusal.TheVariants.{NotDone}
use Rattle.protocol.specs.declared.DspStatus.{DspStatus}
use Rattle.protocol.specs.Stored.{stored}
use Rattle.device.specs.declared.model.DeviceModel.{DeviceModel}
use Rattle.device.specs.Model.{model_of}
use Rattle.device.specs.Model as models
use Rattle.matching.specs.Promise.{after_all, events, Matched, First, SoFar, tick}
use Rattle.matching.proofs.Called.{run_rises}
use Rattle.matching.proofs.Machine.{leftmost}
use Rattle.matching.proofs.Leftmost.{leftmost_matching, leftmost_earliest, earliest_unique}
use Rattle.matching.proofs.Kept.{so_far}
use Rattle.sequence.specs.Events.{Envelope, Event, checked, reading}
use Rattle.sequence.specs.Calls.{feed, check, ask}
use Rattle.sequence.proofs.Standing.{table_antitone}
use Rattle.sheet.specs.declared.How.{How}
use Rattle.sheet.specs.declared.StartUp.{StartUp}
use Rattle.sheet.specs.Sheet as sheets
use Rattle.sheet.specs.Ticks.{kept}
use Rattle.sheet.proofs.Trials as trials
use Rattle.dsp_table.specs.declared.DspStep.{DspStep}
use Rattle.dsp_table.specs.Table.{row, next, steps_for, table}
use Rattle.dsp.specs.declared.DspSequencer.{DspSequencer}
use Rattle.dsp.specs.declared.DspSync.{DspSync}
use Rattle.dsp.specs.Answers.{begun, finished, taken, is_done, sheet_of}
use Rattle.dsp.specs.Calls.{DspCall, into_result, take_refused, sheet, after, event}
use Rattle.dsp_runs.specs.Theorem.{opening, payload_in, Names, Right}
use Rattle.dsp_runs.proofs.States.{sequencer}
use Rattle.dsp_runs.proofs.OneModel.{opening_antitone}
use Rattle.dsp_runs.proofs.Whole.{right}

-- ---- what comes in

abbrev from : Message → List ℤ → List ℕ → List ℕ → ℕ → DspCall
from m ps text payload t = feed (record { src = BusAddr.Dsp; type_id = 0x94; message = m; params = ps; text = text; payload = payload }) t

abbrev status : ℕ → DspCall
status t = from (Message.DspStatus (DspStatus.V46 (record { state = 1; version = 0x46 }))) [] [] (7 ∷ 8 ∷ []) t

abbrev dev_info : List ℕ → ℕ → DspCall
dev_info payload t = from Message.DevInfoResp [] [] payload t

abbrev prod_info : ℕ → ℕ → DspCall
prod_info x t = from Message.ProdInfoResp [] (x ∷ []) [] t

abbrev config : ℕ → DspCall
config t = from Message.ConfigResp (ℤ.pos 5 ∷ []) [] [] t

abbrev nack : ℕ → ℕ → DspCall
nack c t = from (Message.ConfigNack (record { bus_addr = 0x40; acked_cmd = c })) [] [] [] t

-- the state and the run, and what the theorem speaks of
abbrev state : List DspCall → DspSequencer
state cs = after_all after begun.seq cs

abbrev run : List DspCall → List (Event Envelope)
run cs = events reading event 0 cs

abbrev Off : DeviceModel → List DspCall → Type 0
Off m cs = Matched reading (checked 0) event begun.seq after (table m) cs

abbrev At : DeviceModel → List DspCall → List ℕ → Type 0
At m cs ps = First reading (checked 0) event begun.seq after (table m) cs ps

-- the matching at the positions where the machine ticks, and that it is the earliest
abbrev places : DeviceModel → List DspCall → List ℕ
places m cs = leftmost reading (table m) (run cs)

earliest : (m : DeviceModel) (cs : List DspCall) → Off m cs → At m cs (places m cs)
earliest m cs d = leftmost_earliest {r = run cs} (table_antitone (row m) (next m) DspStep.Done (steps_for m)) (run_rises (sequencer m) cs) d.0 d.1

-- entries 1 to 3, and the model that the device info at the third names
abbrev opened : List DspCall → List ℕ
opened cs = leftmost reading opening (run cs)

opened_earliest : (cs : List DspCall) → length (opened cs) ≡ 3 → First reading (checked 0) event begun.seq after opening cs (opened cs)
opened_earliest cs h = leftmost_earliest {r = run cs} opening_antitone (run_rises (sequencer models.mevo) cs) _ (leftmost_matching {r = run cs} h)

abbrev told : List DspCall → List ℕ → DeviceModel
told cs ps = model_of (payload_in (tick reading (checked 0) event begun.seq after cs ps 3))

names : (m : DeviceModel) (cs : List DspCall) → length (opened cs) ≡ 3 → told cs (opened cs) ≡ m → Names m cs
names m cs h i ps f = ap (told cs) (earliest_unique f (opened_earliest cs h)) ∙ i

not_yet : (m : DeviceModel) (cs : List DspCall) → Right m cs → is_done (state cs).state.step ≡ false → Off m cs → ⊥
not_yet m cs r h d = true≢false (ap is_done (sym (r.ends.done.1 d)) ∙ h)

-- no device info
not : {A : Type 0} → false ≡ true → A
not h = absurd (true≢false (sym h))

-- ---- a Xi: the query is refused, and the power mode; the nack is asked for too early, then twice

abbrev xi_info : List DspCall
xi_info = status 5 ∷ nack 0x48 6 ∷ dev_info (70 ∷ 83 ∷ 32 ∷ 88 ∷ 105 ∷ []) 7 ∷ prod_info 65 8 ∷ prod_info 66 9 ∷ prod_info 67 10 ∷ config 11 ∷ []

abbrev xi_end : List DspCall
xi_end = xi_info ++ ask take_refused ∷ ask into_result ∷ nack 0x3F 12 ∷ []

abbrev xi_taken : List DspCall
xi_taken = xi_end ++ ask take_refused ∷ ask take_refused ∷ []

abbrev xi_day : List DspCall
xi_day = xi_taken ++ ask into_result ∷ status 13 ∷ []

xi_info_lem : Right models.xi xi_info
xi_info_lem = right.right models.xi xi_info (names models.xi xi_info refl refl)

xi_asked : Right models.xi (xi_info ++ ask take_refused ∷ [])
xi_asked = right.right models.xi (xi_info ++ ask take_refused ∷ []) (names models.xi (xi_info ++ ask take_refused ∷ []) refl refl)

xi : Right models.xi xi_day
xi = right.right models.xi xi_day (right.agreed models.xi xi_day (not, (not, (λ p. refl, (not, (not, (not, (not, (not, (not, tt))))))))))

xi_end_lem : Off models.xi xi_end
xi_end_lem = (places models.xi xi_end, leftmost_matching {r = run xi_end} refl)

pub xi_places : places models.xi xi_day ≡ 0 ∷ 1 ∷ 2 ∷ 3 ∷ 4 ∷ 5 ∷ 6 ∷ 7 ∷ []
xi_places = refl

pub xi_ticked_off : Off models.xi xi_day
unfolding stored
xi_ticked_off = xi.ends.done.0 refl

pub xi_done : (state xi_day).state.step ≡ DspStep.Done
xi_done = xi.ends.done.1 (places models.xi xi_day, leftmost_matching {r = run xi_day} refl)

pub xi_first : (ps : List ℕ) × At models.xi xi_day ps
xi_first = xi.ends.first xi_ticked_off

pub xi_taken_early : (taken (state xi_info)).refused ≡ None
unfolding stored
xi_taken_early = xi.took.before xi_info _ refl (not_yet models.xi xi_info xi_info_lem refl)

pub xi_asked_early : finished (state (xi_info ++ ask take_refused ∷ [])) ≡ Err NotDone
unfolding stored
xi_asked_early = xi.asked.before (xi_info ++ ask take_refused ∷ []) _ refl (not_yet models.xi (xi_info ++ ask take_refused ∷ []) xi_asked refl)

pub xi_taken_lem : (taken (state xi_end)).refused ≡ Some (record { src = BusAddr.Dsp; type_id = 0x94; nack = record { bus_addr = 0x40; acked_cmd = 0x3F } })
xi_taken_lem = xi.took.from xi_end _ refl xi_end_lem (places models.xi xi_day) (earliest models.xi xi_day xi_ticked_off)

pub xi_taken_again : (taken (state (xi_end ++ ask take_refused ∷ []))).refused ≡ None
xi_taken_again = xi.took.from (xi_end ++ ask take_refused ∷ []) _ refl xi_end_lem (places models.xi xi_day) (earliest models.xi xi_day xi_ticked_off)

pub xi_result : finished (state xi_taken)
    ≡ Ok (record {
      status = DspStatus.V46 (record { state = 1; version = 0x46 });
      status_payload = stored (7 ∷ 8 ∷ []);
      hw_info = None;
      dev_info = record { text = stored []; payload = stored (70 ∷ 83 ∷ 32 ∷ 88 ∷ 105 ∷ []) };
      prod_info = record { text = stored (65 ∷ []) } ∷ record { text = stored (66 ∷ []) } ∷ record { text = stored (67 ∷ []) } ∷ [];
      config = record { params = ℤ.pos 5 ∷ [] };
      model = models.xi;
      tag_place = Some 0;
      power_mode_unanswered = false;
    })
unfolding stored
xi_result = xi.asked.from xi_taken _ refl xi_end_lem (places models.xi xi_day) (earliest models.xi xi_day xi_ticked_off)

-- ---- a Mevo: the query is not answered; a check ticks it 2 s after the status, and an earlier one doesn't

abbrev mevo_info : List DspCall
mevo_info = status 5 ∷ check 2_000_000_004 ∷ check 2_000_000_005 ∷ dev_info (1 ∷ []) 2_000_000_006 ∷ []

abbrev mevo_end : List DspCall
mevo_end =
    mevo_info ++ ask into_result ∷ prod_info 65 2_000_000_007 ∷ prod_info 66 2_000_000_007 ∷ prod_info 67 2_000_000_007 ∷ config 2_000_000_008 ∷ []

abbrev mevo_day : List DspCall
mevo_day = mevo_end ++ ask take_refused ∷ ask into_result ∷ []

mevo_info_lem : Right models.mevo mevo_info
mevo_info_lem = right.right models.mevo mevo_info (names models.mevo mevo_info refl refl)

mevo : Right models.mevo mevo_day
mevo = right.right models.mevo mevo_day (names models.mevo mevo_day refl refl)

mevo_end_lem : Off models.mevo mevo_end
mevo_end_lem = (places models.mevo mevo_end, leftmost_matching {r = run mevo_end} refl)

mevo_ticked_off : Off models.mevo mevo_day
unfolding stored
mevo_ticked_off = mevo.ends.done.0 refl

pub mevo_places : places models.mevo mevo_day ≡ 0 ∷ 2 ∷ 3 ∷ 4 ∷ 5 ∷ 6 ∷ 7 ∷ []
mevo_places = refl

pub mevo_done : (state mevo_day).state.step ≡ DspStep.Done
mevo_done = mevo.ends.done.1 (places models.mevo mevo_day, leftmost_matching {r = run mevo_day} refl)

pub mevo_asked_early : finished (state mevo_info) ≡ Err NotDone
mevo_asked_early = mevo.asked.before mevo_info _ refl (not_yet models.mevo mevo_info mevo_info_lem refl)

pub mevo_taken : (taken (state mevo_end)).refused ≡ None
mevo_taken = mevo.took.from mevo_end _ refl mevo_end_lem (places models.mevo mevo_day) (earliest models.mevo mevo_day mevo_ticked_off)

pub mevo_model : option_map (λ (y : DspSync). y.model) (result_ok (finished (state (mevo_end ++ ask take_refused ∷ [])))) ≡ Some models.mevo
mevo_model =
    ap (λ (f : Result DspSync Refusal). option_map (λ (y : DspSync). y.model) (result_ok f))
    (mevo.asked.from (mevo_end ++ ask take_refused ∷ []) _ refl mevo_end_lem (places models.mevo mevo_day) (earliest models.mevo mevo_day mevo_ticked_off))

-- a Mevo has no tag
pub mevo_place : option_map (λ (y : DspSync). y.tag_place) (result_ok (finished (state (mevo_end ++ ask take_refused ∷ [])))) ≡ Some None
unfolding stored
mevo_place =
    ap (λ (f : Result DspSync Refusal). option_map (λ (y : DspSync). y.tag_place) (result_ok f))
    (mevo.asked.from (mevo_end ++ ask take_refused ∷ []) _ refl mevo_end_lem (places models.mevo mevo_day) (earliest models.mevo mevo_day mevo_ticked_off))

-- ---- the practice rig: done with the seventh entry, as a Mevo is; a power mode is not waited for

abbrev rig_payload : List ℕ
rig_payload = codes "A BAY RIG"

abbrev rig_info : List DspCall
rig_info = status 5 ∷ check 2_000_000_005 ∷ dev_info rig_payload 2_000_000_006 ∷ []

abbrev rig_end : List DspCall
rig_end =
    rig_info ++ ask into_result ∷ prod_info 65 2_000_000_007 ∷ prod_info 66 2_000_000_007 ∷ prod_info 67 2_000_000_007 ∷ config 2_000_000_008 ∷ []

abbrev rig_day : List DspCall
rig_day = rig_end ++ ask into_result ∷ nack 0x3F 2_000_000_009 ∷ ask take_refused ∷ []

rig_info_lem : Right models.rig rig_info
rig_info_lem = right.right models.rig rig_info (names models.rig rig_info refl refl)

rig : Right models.rig rig_day
rig = right.right models.rig rig_day (names models.rig rig_day refl refl)

rig_end_lem : Off models.rig rig_end
rig_end_lem = (places models.rig rig_end, leftmost_matching {r = run rig_end} refl)

pub rig_named : (right.named rig_day).0 ≡ models.rig
rig_named = sym ((right.named rig_day).1 (opened rig_day) (opened_earliest rig_day refl))

pub rig_entries : length (table models.rig) ≡ 7
rig_entries = refl

pub rig_places : places models.rig rig_day ≡ 0 ∷ 1 ∷ 2 ∷ 3 ∷ 4 ∷ 5 ∷ 6 ∷ []
rig_places = refl

pub rig_ticked_off : Off models.rig rig_day
unfolding stored
rig_ticked_off = rig.ends.done.0 refl

pub rig_done : (state rig_day).state.step ≡ DspStep.Done
rig_done = rig.ends.done.1 (places models.rig rig_day, leftmost_matching {r = run rig_day} refl)

pub rig_asked_early : finished (state rig_info) ≡ Err NotDone
rig_asked_early = rig.asked.before rig_info _ refl (not_yet models.rig rig_info rig_info_lem refl)

-- the nack of a power mode that it never waited for is none of its own
pub rig_taken : (taken (state (rig_end ++ ask into_result ∷ nack 0x3F 2_000_000_009 ∷ []))).refused ≡ None
rig_taken =
    rig.took.from (rig_end ++ ask into_result ∷ nack 0x3F 2_000_000_009 ∷ []) _ refl
    (places models.rig (rig_end ++ ask into_result ∷ nack 0x3F 2_000_000_009 ∷ []), leftmost_matching {r = run (rig_end ++ ask into_result ∷ nack 0x3F 2_000_000_009 ∷ [])} refl)
    (places models.rig rig_day) (earliest models.rig rig_day rig_ticked_off)

pub rig_place : option_map (λ (y : DspSync). y.tag_place) (result_ok (finished (state rig_end))) ≡ Some (Some 2)
unfolding stored
rig_place =
    ap (λ (f : Result DspSync Refusal). option_map (λ (y : DspSync). y.tag_place) (result_ok f))
    (rig.asked.from rig_end _ refl rig_end_lem (places models.rig rig_day) (earliest models.rig rig_day rig_ticked_off))

pub rig_model : option_map (λ (y : DspSync). y.model) (result_ok (finished (state rig_end))) ≡ Some models.rig
rig_model =
    ap (λ (f : Result DspSync Refusal). option_map (λ (y : DspSync). y.model) (result_ok f))
    (rig.asked.from rig_end _ refl rig_end_lem (places models.rig rig_day) (earliest models.rig rig_day rig_ticked_off))

-- both tags, the rig's first: a Xi
pub both_tags : model_of (codes "BAY RIG FS Xi") ≡ models.xi
both_tags = refl

-- ---- a unit that names two models: the device info at entry 3 decides, whatever came before it and comes after it

abbrev both_day : List DspCall
both_day = dev_info (70 ∷ 83 ∷ 32 ∷ 88 ∷ 105 ∷ []) 4 ∷ mevo_end ++ dev_info (70 ∷ 83 ∷ 32 ∷ 88 ∷ 105 ∷ []) 2_000_000_009 ∷ []

pub both_named : (right.named both_day).0 ≡ models.mevo
both_named = sym ((right.named both_day).1 (opened both_day) (opened_earliest both_day refl))

pub both_ticked_off : Off models.mevo both_day
unfolding stored
both_ticked_off = (right.right models.mevo both_day (names models.mevo both_day refl refl)).ends.done.0 refl

-- ---- the sheet: a status at 5 s, and its query passed by a check at 7 s, after one that is too early; it is asked for before Done

abbrev sheet_early : List DspCall
sheet_early = check 4_000_000_000 ∷ status 5_000_000_000 ∷ check 6_999_999_999 ∷ check 7_000_000_000 ∷ []

abbrev lent : List ℕ
lent = codes "........................................."

abbrev sheet_day : List DspCall
sheet_day = sheet_early ++ ask (sheet lent 3) ∷ []

sheet_right : Right models.mevo sheet_day
sheet_right = right.right models.mevo sheet_day (right.agreed models.mevo sheet_day (tt, (not, (tt, (tt, tt)))))

sheet_places : SoFar reading (checked 0) event begun.seq after (table models.mevo) sheet_day 2 (1 ∷ 3 ∷ [])
sheet_places =
    let s = so_far (checked 0) (table_antitone (row models.mevo) (next models.mevo) DspStep.Done (steps_for models.mevo)) (sequencer models.mevo) None sheet_day in
    record { inside = s.inside; first = s.first; last = s.last }

sheet_early_places : SoFar reading (checked 0) event begun.seq after (table models.mevo) sheet_early 2 (1 ∷ 3 ∷ [])
sheet_early_places =
    let s = so_far (checked 0) (table_antitone (row models.mevo) (next models.mevo) DspStep.Done (steps_for models.mevo)) (sequencer models.mevo) None sheet_early in
    record { inside = s.inside; first = s.first; last = s.last }

pub sheet_ticks : kept (state sheet_day).ticks ≡ trials.two_ticks
sheet_ticks = sheet_right.ticks.each 2 (1 ∷ 3 ∷ []) sheet_places

pub sheet_text : sheets.sheet StartUp.Dsp (kept (state sheet_day).ticks) ≡ codes "D,1,5000000000,R\nD,2,7000000000,K\n"
sheet_text = ap (sheets.sheet StartUp.Dsp) sheet_ticks ∙ trials.example

-- what the call answers, and the buffer then
pub sheet_given : sheets.given (sheet_of (state sheet_early)) 3 lent
    ≡ (Ok 34, codes "...D,1,5000000000,R\nD,2,7000000000,K\n....")
sheet_given =
    (sheet_right.sheets lent 3).each sheet_early [] refl 2 (1 ∷ 3 ∷ []) sheet_early_places
    ∙ ap (λ t. sheets.given t 3 lent) trials.example

-- the nacks of a Xi's query and power mode are such on its sheet
xi_sheet_places : SoFar reading (checked 0) event begun.seq after (table models.xi) xi_day 8 (0 ∷ 1 ∷ 2 ∷ 3 ∷ 4 ∷ 5 ∷ 6 ∷ 7 ∷ [])
xi_sheet_places =
    let s = so_far (checked 0) (table_antitone (row models.xi) (next models.xi) DspStep.Done (steps_for models.xi)) (sequencer models.xi) None xi_day in
    record { inside = s.inside; first = s.first; last = s.last }

pub xi_ticks : kept (state xi_day).ticks
    ≡ record { reading = 5; how = How.Reply } ∷ record { reading = 6; how = How.Nack } ∷ record { reading = 7; how = How.Reply }
    ∷ record { reading = 8; how = How.Reply } ∷ record { reading = 9; how = How.Reply } ∷ record { reading = 10; how = How.Reply }
    ∷ record { reading = 11; how = How.Reply } ∷ record { reading = 12; how = How.Nack } ∷ []
xi_ticks = xi.ticks.each 8 (0 ∷ 1 ∷ 2 ∷ 3 ∷ 4 ∷ 5 ∷ 6 ∷ 7 ∷ []) xi_sheet_places
