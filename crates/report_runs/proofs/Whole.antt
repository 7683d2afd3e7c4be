-- The theorem holds: each start-up that is taken adds to the report what it adds to the figures of the list.
-- Assumes nothing.
use Prim.Native.Nat.{ℕ, suc, ◌+◌, ◌≤◌, ◌<◌, min, max}
use native.Mathlib.Omega.{arith}
use mathlib.Core.Path.{◌≡◌, refl, sym, ap, subst, ◌∙◌}
use mathlib.Core.Bool.{Bool, true, false, cond, not, ◌&&◌, true≢false}
use mathlib.Core.List.{List, [], ◌∷◌, ◌++◌, map, append_assoc, append-nil}
use lib.Dec.{eqb, leb, ltb}
use lib.ListN.{length, length-map, length-append}
use borrow.Author.Tests.{eqb-true, leb-false, ltb-false}
use Rattle.std.specs.Prelude.{filter, sum, sum_by, Result, Ok, Err}
use Rattle.std.specs.Result.{is_ok}
use Rattle.std.proofs.lemmas.List.{map-append}
use Rattle.std.proofs.lemmas.List.Elements.{filter-append}
use Rattle.std.proofs.lemmas.List.Sums.{fold-append, sum_by_push}
use Rattle.device.specs.declared.model.DeviceModel.{DeviceModel}
use Rattle.matching.specs.Promise.{Each}
use Rattle.protocol.specs.Refusals.{lowest}
use Rattle.sequence.specs.Accepted.{applies}
use Rattle.report.specs.declared.Sequence.{Sequence}
use Rattle.report.specs.declared.ReportRefusal.{ReportRefusal}
use Rattle.report.specs.declared.Report.{Report}
use Rattle.report.specs.Report.{is_done, is_of, wait_at, time, tick_numbers, begun, outcome, report_outcome, plus, with_times, one_more, counted, answer_by}
use Rattle.report_runs.specs.Theorem.{StartUp, made, ticked_at, after, if_taken, those_taken, done_ticks, least, greatest, figures, Theorem}
use Rattle.report_runs.proofs.Sums.{Fits, add_up, uncut}
use Rattle.report_runs.proofs.StartUps.{fits, dsp_right, avr_right}

-- ---- the figures of n start-ups, d being the ticks of those that are done

abbrev told : Sequence → DeviceModel → ℕ → List (List ℕ) → Report
told k m n d = record {
  sequence = k;
  model = m;
  taken = n;
  done = length d;
  waits = map (λ j. sum_by (wait_at j) d) tick_numbers;
  shortest = least (map time d);
  longest = greatest (map time d);
  summed = sum_by time d;
}

least_more : (l : List ℕ) (x : ℕ) → cond (eqb (length l) 0) x (min (least l) x) ≡ least (l ++ x ∷ [])
least_more [] x = refl
least_more (a ∷ l) x = go (eqb (suc (length l)) 0) refl
  where
    go : (b : Bool) → eqb (suc (length l)) 0 ≡ b → cond b x (min (least (a ∷ l)) x) ≡ least (a ∷ l ++ x ∷ [])
    go true p = let e = eqb-true (suc (length l)) 0 p in absurd (omega (arith, e))
    go false p = sym (fold-append min a l (x ∷ []))

module _ (k : Sequence) (m : DeviceModel) where
  -- one more that is done
  done_more : (n : ℕ) (d : List (List ℕ)) (t : List ℕ) → n < 1_000_000 → length d ≤ n → Each Fits (d ++ t ∷ [])
      → sum_by time d + time t ≤ 18_446_744_073_709_551_615
      → with_times (one_more (told k m n d)) t ≡ told k m (suc n) (d ++ t ∷ [])
  done_more n d t small few each sums =
      let long = length-append d (t ∷ []) in
      let summed = sum_by_push time d t in
      let all = add_up (d ++ t ∷ []) each in
      let a : plus n 1 ≡ suc n = omega arith in
      let b : plus (length d) 1 ≡ length (d ++ t ∷ []) = omega (arith, long, few, small) in
      let c : map (λ j. plus (sum_by (wait_at j) d) (wait_at j t)) tick_numbers ≡ map (λ j. sum_by (wait_at j) (d ++ t ∷ [])) tick_numbers =
      uncut tick_numbers (λ j. sum_by (wait_at j) d) (λ j. wait_at j t) (λ j. sum_by (wait_at j) (d ++ t ∷ [])) (λ j. sum_by_push (wait_at j) d t)
      (omega (arith, all, summed, sums)) in
      let same : length (map time d) ≡ length d = rw length-map refl in
      let times = map-append time d (t ∷ []) in
      let e : cond (eqb (length d) 0) (time t) (min (least (map time d)) (time t)) ≡ least (map time (d ++ t ∷ [])) =
      ap (λ (j : ℕ). cond (eqb j 0) (time t) (min (least (map time d)) (time t))) (sym same) ∙ least_more (map time d) (time t) ∙ ap least (sym times) in
      let f : max (greatest (map time d)) (time t) ≡ greatest (map time (d ++ t ∷ [])) =
      sym (fold-append max 0 (map time d) (time t ∷ [])) ∙ ap greatest (sym times) in
      let g : plus (sum_by time d) (time t) ≡ sum_by time (d ++ t ∷ []) = omega (arith, summed, sums) in
      λ i. record { sequence = k; model = m; taken = a i; done = b i; waits = c i; shortest = e i; longest = f i; summed = g i }

  -- ---- a list

  each_done : (l : List StartUp) → Each Fits (done_ticks l)
  each_done [] = tt
  each_done (s ∷ l) = go (each_done l) (is_done (made s))
    where
      go : Each Fits (done_ticks l) → (b : Bool)
          → Each Fits (map (λ s. ticked_at (made s)) (cond b (s ∷ filter (λ s. is_done (made s)) l) (filter (λ s. is_done (made s)) l)))
      go ih true = (fits s, ih)
      go ih false = ih

  few_done : (l : List StartUp) → length (done_ticks l) ≤ length l
  few_done [] = omega arith
  few_done (s ∷ l) = go (few_done l) (is_done (made s))
    where
      go : length (done_ticks l) ≤ length l → (b : Bool)
          → length (map (λ s. ticked_at (made s)) (cond b (s ∷ filter (λ s. is_done (made s)) l) (filter (λ s. is_done (made s)) l))) ≤ suc (length l)
      go ih true = omega (arith, ih)
      go ih false = omega (arith, ih)

  done_last : (l : List StartUp) (s : StartUp)
      → done_ticks (l ++ s ∷ []) ≡ done_ticks l ++ map (λ s. ticked_at (made s)) (filter (λ s. is_done (made s)) (s ∷ []))
  done_last l s =
      ap (map (λ s. ticked_at (made s))) (filter-append (λ s. is_done (made s)) l (s ∷ []))
      ∙ map-append (λ s. ticked_at (made s)) (filter (λ s. is_done (made s)) l) (filter (λ s. is_done (made s)) (s ∷ []))

  -- taken: neither 14 nor 15 applies
  none_of : (a b c : Bool) → outcome (lowest (applies 7 a ∷ applies 14 b ∷ applies 15 c ∷ [])) ≡ Ok tt → (b ≡ false) × (c ≡ false)
  none_of true b c h = absurd (true≢false (sym (ap is_ok h)))
  none_of false true c h = absurd (true≢false (sym (ap is_ok h)))
  none_of false false true h = absurd (true≢false (sym (ap is_ok h)))
  none_of false false false h = (refl, refl)

  step : (l : List StartUp) (s : StartUp) → report_outcome (figures k m l) (made s) ≡ Ok tt → counted (figures k m l) (made s) ≡ figures k m (l ++ s ∷ [])
  step l s h = go (is_done (made s)) refl (none_of (not (is_of (figures k m l) (made s))) _ _ h)
    where
      small : (leb 1_000_000 (length l) ≡ false) → length l < 1_000_000
      small p = leb-false 1_000_000 (length l) p

      long : length (l ++ s ∷ []) ≡ suc (length l)
      long = omega (arith, length-append l (s ∷ []))

      go : (b : Bool) → is_done (made s) ≡ b
          → ((is_done (made s) && ltb 18_446_744_073_709_551_615 (sum_by time (done_ticks l) + time (ticked_at (made s)))) ≡ false) × (leb 1_000_000 (length l) ≡ false)
          → counted (figures k m l) (made s) ≡ figures k m (l ++ s ∷ [])
      go true p q =
          let t = ticked_at (made s) in
          let d = done_ticks l in
          let now : done_ticks (l ++ s ∷ []) ≡ d ++ t ∷ [] =
          done_last l s ∙ ap (λ (b : Bool). d ++ map (λ s. ticked_at (made s)) (cond b (s ∷ []) [])) p in
          let fit : ltb 18_446_744_073_709_551_615 (sum_by time d + time t) ≡ false = rw p at q.0 in
          ap (λ (b : Bool). cond b (with_times (one_more (figures k m l)) t) (one_more (figures k m l))) p
          ∙ done_more (length l) d t (small q.1) (few_done l) (subst (Each Fits) now (each_done (l ++ s ∷ [])))
          (ltb-false 18_446_744_073_709_551_615 (sum_by time d + time t) fit)
          ∙ (λ i. told k m (sym long i) (sym now i))
      go false p q =
          let t = ticked_at (made s) in
          let d = done_ticks l in
          let now : done_ticks (l ++ s ∷ []) ≡ d =
          done_last l s ∙ ap (λ (b : Bool). d ++ map (λ s. ticked_at (made s)) (cond b (s ∷ []) [])) p ∙ append-nil d in
          let less = small q.1 in
          let more : plus (length l) 1 ≡ length (l ++ s ∷ []) = omega (arith, long, less) in
          ap (λ (b : Bool). cond b (with_times (one_more (figures k m l)) t) (one_more (figures k m l))) p ∙ (λ i. told k m (more i) (sym now i))

  -- r being the figures of those taken before
  go : (before : List StartUp) (r : Report) (l : List StartUp) → r ≡ figures k m before → after r l ≡ figures k m (before ++ those_taken r l)
  go before r [] h = h ∙ ap (figures k m) (sym (append-nil before))
  go before r (s ∷ l) h = by (λ b q e. go b q l e) (report_outcome r (made s)) refl
    where
      by : ((b : List StartUp) (q : Report) → q ≡ figures k m b → after q l ≡ figures k m (b ++ those_taken q l))
          → (o : Result (Unit {0}) ReportRefusal) → report_outcome r (made s) ≡ o
          → after (answer_by o (counted r (made s)) r).report l
          ≡ figures k m (before ++ if_taken (answer_by o (counted r (made s)) r).outcome s (those_taken (answer_by o (counted r (made s)) r).report l))
      by ih (Ok u) p =
          let next = ap (λ (q : Report). counted q (made s)) h ∙ step before s (ap (λ (q : Report). report_outcome q (made s)) (sym h) ∙ p) in
          ih (before ++ s ∷ []) (counted r (made s)) next ∙ ap (figures k m) (append_assoc before (s ∷ []) (those_taken (counted r (made s)) l))
      by ih (Err n) p = ih before r h

  its_figures : (l : List StartUp) → after (begun k m) l ≡ figures k m (those_taken (begun k m) l)
  its_figures l = go [] (begun k m) l refl

  its_sum : (l : List StartUp) → sum (after (begun k m) l).waits ≡ (after (begun k m) l).summed
  its_sum l =
      let e = its_figures l in
      let d = done_ticks (those_taken (begun k m) l) in
      ap (λ (r : Report). sum r.waits) e ∙ add_up d (each_done (those_taken (begun k m) l)) ∙ ap (λ (r : Report). r.summed) (sym e)

pub right : Theorem
right = record {
  figures = its_figures;
  add_up = its_sum;
  rise = λ s. (fits s).0;
  of_dsp = λ m cs n. dsp_right m cs n;
  of_avr = λ m cs. avr_right m cs;
}
