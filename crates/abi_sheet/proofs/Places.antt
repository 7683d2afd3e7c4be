-- The places of an array, one by one: what each goes out as; that all are known where each is; and that they are not where one isn't.
-- Assumes nothing.
use Rattle.std.proofs.Common.{◌≡◌, refl, sym, ◌∙◌, ℕ, zero, suc, ◌<◌, length, arith, List, [], ◌∷◌, Result, Ok, Err, slice_index_or}
use Rattle.std.specs.List.{AllZip}
use Rattle.std.proofs.lemmas.List.{same_lists, length-map, get_or-map}
use Rattle.sheet.specs.declared.Tick.{Tick}
use Rattle.sheet.specs.Ticks.{no_tick}
use Rattle.abi_values.specs.declared.UnknownNumber.{UnknownNumber}
use Rattle.abi_values.specs.Numbers.{and_then}
use Rattle.abi_sheet.specs.declared.CTick.{CTick}
use Rattle.abi_sheet.specs.Ticks.{tick_in, tick_out, places_in, places_out}

pub all_out : (ts : List Tick) (cs : List CTick) (n : ℕ) → length ts ≡ n → length cs ≡ n
    → ((i : ℕ) (d : Tick) (e : CTick) → i < n → slice_index_or cs i e ≡ tick_out (slice_index_or ts i d)) → cs ≡ places_out ts
all_out ts cs n h k at =
    same_lists cs (places_out ts) (k ∙ sym h ∙ sym (length-map ts tick_out))
    (λ i e m. at i no_tick e (omega arith) ∙ sym (get_or-map tick_out ts i no_tick e (omega arith)))

pub all_in : (R : CTick → Tick → Type 0) → ((c : CTick) (t : Tick) → R c t → tick_in c ≡ Ok t) → (cs : List CTick) (ts : List Tick) → AllZip R cs ts
    → places_in cs ≡ Ok ts
all_in R f [] [] h = refl
all_in R f [] (t ∷ ts) h = elim h [ ]
all_in R f (c ∷ cs) [] h = elim h [ ]
all_in R f (c ∷ cs) (t ∷ ts) h = rw (f c t h.0, all_in R f cs ts h.1)

pub one_unknown : (cs : List CTick) (i : ℕ) (d : CTick) (e : UnknownNumber) → i < length cs → tick_in (slice_index_or cs i d) ≡ Err e
    → places_in cs ≡ Err e
one_unknown [] i d e h k = absurd (omega arith)
one_unknown (c ∷ cs) zero d e h k = rw k
one_unknown (c ∷ cs) (suc i) d e h k = go (tick_in c) (one_unknown cs i d e (omega arith) k)
  where
    go : (r : Result Tick UnknownNumber) → places_in cs ≡ Err e → and_then r (λ t. and_then (places_in cs) (λ ts. Ok (t ∷ ts))) ≡ Err e
    go (Ok t) m = rw m
    go (Err u) m = refl
