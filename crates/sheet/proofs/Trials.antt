-- The text of a sheet, and where it is written, on examples.
-- Assumes nothing.
use Rattle.std.proofs.Common.{◌≡◌, refl, ap, ◌∙◌, ℕ, ◌+◌, ◌*◌, ◌/◌, ◌%◌, ◌^◌, ◌<◌, List, [], ◌∷◌, ◌++◌, decimal, arith}
use Rattle.std.specs.Prelude.{codes, Ok, Err}
use Rattle.std.proofs.lemmas.Fmt.{decimal_digit, decimal_step}
use Rattle.sheet.specs.declared.How.TheVariants.{Reply, Nack, Check}
use Rattle.sheet.specs.declared.Tick.{Tick}
use Rattle.sheet.specs.declared.StartUp.TheVariants.{Dsp, Avr, Pi}
use Rattle.sheet.specs.declared.SheetRefusal.TheVariants.{PartTooShort}
use Rattle.sheet.specs.Sheet.{sheet, answered, written}

-- a 0 more
tenfold : (m k : ℕ) {ds : List ℕ} → k ≡ m * 10 → 0 < m → k < 2 ^ 64 → decimal m ≡ ds → decimal k ≡ ds ++ 48 ∷ []
tenfold m k {ds} e some small h =
    let front : k / 10 ≡ m = omega (arith, e) in
    let end : 48 + k % 10 ≡ 48 = omega (arith, e) in
    decimal_step k (omega (arith, e)) small ∙ (λ i. decimal (front i) ++ end i ∷ []) ∙ ap (λ l. l ++ 48 ∷ []) h

nought : decimal 0 ≡ codes "0"
nought = decimal_digit 0 (omega arith)

one : decimal 1 ≡ codes "1"
one = decimal_digit 1 (omega arith)

two : decimal 2 ≡ codes "2"
two = decimal_digit 2 (omega arith)

-- so many seconds, below ten, in nanoseconds
seconds : (n : ℕ) → 0 < n → n < 10 → decimal (n * 1_000_000_000) ≡ (48 + n) ∷ codes "000000000"
seconds n some digit =
    tenfold (n * 100_000_000) (n * 1_000_000_000) (omega arith) (omega arith) (omega arith)
    (tenfold (n * 10_000_000) (n * 100_000_000) (omega arith) (omega arith) (omega arith)
    (tenfold (n * 1_000_000) (n * 10_000_000) (omega arith) (omega arith) (omega arith)
    (tenfold (n * 100_000) (n * 1_000_000) (omega arith) (omega arith) (omega arith)
    (tenfold (n * 10_000) (n * 100_000) (omega arith) (omega arith) (omega arith)
    (tenfold (n * 1_000) (n * 10_000) (omega arith) (omega arith) (omega arith)
    (tenfold (n * 100) (n * 1_000) (omega arith) (omega arith) (omega arith)
    (tenfold (n * 10) (n * 100) (omega arith) (omega arith) (omega arith)
    (tenfold n (n * 10) refl some (omega arith) (decimal_digit n digit)))))))))

-- ---- a status at 5 s, and the query passed by a check at 7 s

abbrev pub two_ticks : List Tick
two_ticks = record { reading = 5_000_000_000; how = Reply } ∷ record { reading = 7_000_000_000; how = Check } ∷ []

pub example : sheet Dsp two_ticks ≡ codes "D,1,5000000000,R\nD,2,7000000000,K\n"
example = rw (one, two, seconds 5 (omega arith) (omega arith), seconds 7 (omega arith) (omega arith)) refl

-- a letter for each start-up, and for a nack
pub nacked : sheet Dsp (record { reading = 5_000_000_000; how = Nack } ∷ []) ≡ codes "D,1,5000000000,N\n"
nacked = rw (one, seconds 5 (omega arith) (omega arith)) refl

pub of_the_avr : sheet Avr (record { reading = 7_000_000_000; how = Reply } ∷ []) ≡ codes "A,1,7000000000,R\n"
of_the_avr = rw (one, seconds 7 (omega arith) (omega arith)) refl

pub of_the_pi : sheet Pi (record { reading = 0; how = Reply } ∷ record { reading = 0; how = Reply } ∷ []) ≡ codes "P,1,0,R\nP,2,0,R\n"
of_the_pi = rw (one, two, nought) refl

-- ---- where it is written

-- an empty sheet at the buffer's end, and one place further
pub at_the_end : answered (sheet Pi []) 3 (codes "...") ≡ Ok 0
at_the_end = refl

pub past_the_end : answered (sheet Pi []) 4 (codes "...") ≡ Err PartTooShort
past_the_end = refl

-- three bytes that just fit, and one too few
pub fits : written (codes "abc") 1 (codes "....") ≡ codes ".abc"
fits = refl

pub behind : written (codes "abc") 1 (codes ".......") ≡ codes ".abc..."
behind = refl

pub too_short : written (codes "abc") 2 (codes "....") ≡ codes "...."
too_short = refl
