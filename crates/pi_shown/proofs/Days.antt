-- The theorem at work: one list of calls with any network text of at most 256 bytes in it, in which every part of the theorem is read; and two
-- texts by which the results do differ. A weaker theorem would not give these. Then why no text may exceed 256 bytes.
-- Assumes nothing.
use Prim.Native.Nat.{ℕ, ◌≤◌, ◌<◌}
use native.Mathlib.Omega.{arith}
use mathlib.Core.Path.{◌≡◌, refl, ap, ◌∙◌}
use mathlib.Core.List.{List, [], ◌∷◌}
use lib.IntN.{ℤ}
use lib.ListN.{length, get_or, replicate}
use Rattle.std.proofs.Common.{inl, inr, decimal}
use Rattle.std.specs.Prelude.{Some, None, true, Result, Ok, Err, ◌+◌, take, drop, codes}
use Rattle.std.proofs.lemmas.Fmt.{decimal_digit}
use Rattle.protocol.specs.declared.BusAddr.{BusAddr}
use Rattle.protocol.specs.declared.Message.{Message}
use Rattle.protocol.specs.declared.CamConfig.{CamConfig}
use Rattle.protocol.specs.declared.ParamData.{ParamData}
use Rattle.protocol.specs.declared.Refusal.{Refusal}
use Rattle.protocol.specs.declared.Stored.{Stored}
use Rattle.protocol.specs.Stored.{stored}
use Rattle.matching.specs.Promise.{after_all}
use Rattle.requests.specs.Requests.{net_config_req}
use Rattle.sequence.specs.Calls.{Untimed}
use Rattle.sheet.specs.declared.How.{How}
use Rattle.sheet.specs.declared.StartUp.{StartUp}
use Rattle.sheet.specs.Sheet as text
use Rattle.pi_table.specs.declared.PiStep.{PiStep}
use Rattle.pi_table.specs.Stores.{param_read_req}
use Rattle.pi.specs.declared.PiSequencer.{PiSequencer}
use Rattle.pi.specs.declared.PiSync.{PiSync}
use Rattle.pi.specs.Answers.{begun, sync_of, finished, sheet_of}
use Rattle.pi.specs.Calls.{PiCall, into_result, sheet, after}
use Rattle.pi_shown.specs.Shown.{Alike, AllAlike, of_feed, of_result, of_sheet, outcome_of, Shown, shown, shown_all}
use Rattle.pi_shown.specs.Theorem.{SameAt}
use Rattle.pi_shown.proofs.Whole.{stays_out}

abbrev from : BusAddr → Message → List ℕ → List ℕ → PiCall
from b m text payload = Untimed.feed (record { src = b; type_id = 0; message = m; params = []; text = text; payload = payload })

abbrev param : PiCall
param = from BusAddr.Pi (Message.ParamValue (record { param_id = 1; value = ParamData.Int24 (ℤ.pos 5) })) [] []

abbrev net : List ℕ → PiCall
net x = from BusAddr.Pi Message.NetConfigResp x []

-- a buffer for the sheet's first seven lines and one byte more
abbrev lent : List ℕ
lent = replicate 57 0x2E

-- The network text is x in a reply that comes too early, in one from another device, in one whose payload is too long, in the two that are
-- awaited, and in one after Done. The result and the sheet are asked for before Done, the result then, too.
abbrev day : CamConfig → List ℕ → List PiCall
day c x =
    net x ∷ from BusAddr.Pi Message.PiStatus [] [] ∷ from BusAddr.Pi Message.DevInfoResp (49 ∷ []) (50 ∷ []) ∷ param
    ∷ from BusAddr.Pi (Message.CamConfig c) [] [] ∷ from BusAddr.Pi (Message.CamConfig c) [] []
    ∷ from BusAddr.App Message.NetConfigResp x [] ∷ from BusAddr.Pi Message.NetConfigResp x (replicate 257 0) ∷ net x ∷ net x
    ∷ Untimed.ask into_result ∷ Untimed.ask (sheet lent 1)
    ∷ param ∷ param ∷ param ∷ param ∷ param ∷ param ∷ param ∷ param ∷ param ∷ Untimed.ask into_result ∷ net x ∷ []

-- x beside another text
module _ (c : CamConfig) (x y : List ℕ) (h : length x ≤ 256) (i : length y ≤ 256) where
  other : (b : BusAddr) (payload : List ℕ) → Alike (from b Message.NetConfigResp x payload) (from b Message.NetConfigResp y payload)
  other b payload = inr (record { network = refl; same = refl; first = h; second = i })

  alike : AllAlike (day c x) (day c y)
  alike =
      let w = other BusAddr.Pi [] in
      (w, (inl refl, (inl refl, (inl refl, (inl refl, (inl refl, (other BusAddr.App [], (other BusAddr.Pi (replicate 257 0), (w, (w, (refl, (refl, (inl refl, (inl refl, (inl refl, (inl refl, (inl refl, (inl refl, (inl refl, (inl refl, (inl refl, (refl, (w, tt)))))))))))))))))))))))

  pub same : shown_all begun.seq (day c x) ≡ shown_all begun.seq (day c y)
  same = stays_out.same (day c x) (day c y) alike

-- ---- so what each call shows is known without the text: it is what it would be with an empty one

digit : (n : ℕ) → n < 10 → decimal n ≡ (48 + n) ∷ []
digit = decimal_digit

-- the sheet once both network replies have come that are awaited
abbrev lines : List ℕ
lines = codes "P,1,0,R\nP,2,0,R\nP,3,0,R\nP,4,0,R\nP,5,0,R\nP,6,0,R\nP,7,0,R\n"

seven : text.sheet StartUp.Pi (replicate 7 (record { reading = 0; how = How.Reply })) ≡ lines
seven = rw (
  digit 0 (omega arith),
  digit 1 (omega arith),
  digit 2 (omega arith),
  digit 3 (omega arith),
  digit 4 (omega arith),
  digit 5 (omega arith),
  digit 6 (omega arith),
  digit 7 (omega arith),
) refl

module _ (c : CamConfig) (x : List ℕ) (h : length x ≤ 256) where
  -- of the call n, counted from 0; nothing looks past the last
  abbrev told : List ℕ → ℕ → Shown
  told y n = get_or (shown_all begun.seq (day c y)) n (shown begun.seq param)

  known : (n : ℕ) → told x n ≡ told [] n
  known n = ap (λ l. get_or l n (shown begun.seq param)) (same c x [] h (omega arith))

  pub too_early : (told x 0).outcome ≡ of_feed (Ok None)
  too_early = ap (λ (s : Shown). s.outcome) (known 0)

  pub elsewhere : (told x 6).outcome ≡ of_feed (Ok None)
  elsewhere = ap (λ (s : Shown). s.outcome) (known 6)

  pub refused : (told x 7).outcome ≡ of_feed (Err Refusal.PayloadTooLong)
  refused = ap (λ (s : Shown). s.outcome) (known 7)

  pub still : (told x 7).step ≡ PiStep.WaitNetConfig
  still = ap (λ (s : Shown). s.step) (known 7)

  pub awaited : (told x 8).outcome ≡ of_feed (Ok (Some (net_config_req true)))
  awaited = ap (λ (s : Shown). s.outcome) (known 8)

  pub awaited_again : (told x 9).outcome ≡ of_feed (Ok (Some (param_read_req 0x01)))
  awaited_again = ap (λ (s : Shown). s.outcome) (known 9)

  pub asked_early : (told x 10).outcome ≡ of_result (Err Refusal.NotDone)
  asked_early = ap (λ (s : Shown). s.outcome) (known 10)

  pub seven_lines : (told x 10).sheet ≡ lines
  seven_lines = ap (λ (s : Shown). s.sheet) (known 10) ∙ seven

  pub given_sheet : (told x 11).outcome ≡ of_sheet (Ok 56, 0x2E ∷ lines)
  given_sheet = ap (λ (s : Shown). s.outcome) (known 11) ∙ ap (λ t. of_sheet (text.given t 1 lent)) seven

  pub done : (told x 20).step ≡ PiStep.Done
  done = ap (λ (s : Shown). s.step) (known 20)

  abbrev result : PiSync
  result = record { dev_info = record { text = stored (49 ∷ []); payload = stored (50 ∷ []) }; cam_config = c; ssid = stored []; password = stored [] }

  pub asked : (told x 21).outcome ≡ of_result (Ok result)
  asked = ap (λ (s : Shown). s.outcome) (known 21)

  pub after_done : (told x 22).outcome ≡ of_feed (Ok None)
  after_done = ap (λ (s : Shown). s.outcome) (known 22)

  pub result_then : (told x 22).result ≡ Ok result
  result_then = ap (λ (s : Shown). s.result) (known 22)

-- ---- what may differ does: a password, and none

abbrev with_password : List ℕ
with_password = 65 ∷ 0 ∷ 66 ∷ []

abbrev without : List ℕ
without = 67 ∷ 68 ∷ []

abbrev result_of : CamConfig → List ℕ → Result PiSync Refusal
result_of c x = finished (after_all after begun.seq (day c x))

pub results : (c : CamConfig) → shown_all begun.seq (day c with_password) ≡ shown_all begun.seq (day c without)
results c = same c with_password without (omega arith) (omega arith)

abbrev with_network : CamConfig → Stored → Stored → Result PiSync Refusal
with_network c ssid password = Ok (record { dev_info = record { text = stored (49 ∷ []); payload = stored (50 ∷ []) }; cam_config = c; ssid = ssid; password = password })

pub one : (c : CamConfig) → result_of c with_password ≡ with_network c (stored (65 ∷ [])) (stored (66 ∷ []))
one c = refl

pub another : (c : CamConfig) → result_of c without ≡ with_network c (stored (67 ∷ 68 ∷ [])) (stored [])
another c = refl

-- ---- the same, part by part: at the call n of the two, counted from 0

module _ (c : CamConfig) where
  abbrev before : List ℕ → ℕ → PiSequencer
  before x n = after_all after begun.seq (take n (day c x))

  rest_of : (x y : List ℕ) (h : length x ≤ 256) (i : length y ≤ 256) (n : ℕ) → drop n (shown_all begun.seq (day c x)) ≡ drop n (shown_all begun.seq (day c y))
  rest_of x y h i n = ap (drop n) (same c x y h i)

  -- the second of the awaited, whatever the text
  second : (x : List ℕ) → length x ≤ 256 → SameAt (before x 9) (before [] 9) (net x) (net [])
  second x h = (stays_out.reads (before x 9) (before [] 9) (net x) (net []) (drop 10 (day c x)) (drop 10 (day c [])) (rest_of x [] h (omega arith) 9)).0

  pub any_buffer : (x : List ℕ) → length x ≤ 256 → (buf : List ℕ) (place : ℕ)
      → text.given (sheet_of (before x 10)) place buf ≡ text.given lines place buf
  any_buffer x h buf place = (second x h).sheets buf place ∙ ap (λ t. text.given t place buf) seven

  -- the last parameter, after which it is done
  last : SameAt (before with_password 20) (before without 20) param param
  last = (stays_out.reads (before with_password 20) (before without 20) param param (drop 21 (day c with_password)) (drop 21 (day c without)) (rest_of with_password without (omega arith) (omega arith) 20)).0

  pub same_infos : (sync_of (before with_password 21).replies).dev_info ≡ (sync_of (before without 21).replies).dev_info
  same_infos = last.result.0

  pub same_camera : (sync_of (before with_password 21).replies).cam_config ≡ (sync_of (before without 21).replies).cam_config
  same_camera = last.result.1

-- ---- why no text may exceed 256 bytes: such a one is refused, and any shorter one is not

pub too_long : outcome_of begun.seq (net (replicate 257 65)) ≡ of_feed (Err Refusal.TextTooLong)
too_long = refl

pub fits : outcome_of begun.seq (net (replicate 256 65)) ≡ of_feed (Ok None)
fits = refl
