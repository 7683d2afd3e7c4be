-- The sheet of a start-up: a line for each ticked entry. Definitions only.
-- Assumes nothing.
use Rattle.std.specs.Prelude.{ℕ, suc, ◌+◌, cond, List, [], ◌∷◌, ◌++◌, ltb, eqb, length, take, drop, decimal, Result, Ok, Err}
use Rattle.protocol.specs.Refusals.{Applies, lowest}
use Rattle.sequence.specs.Accepted.{applies}
use Rattle.sheet.specs.declared.How.{How}
use Rattle.sheet.specs.declared.How.TheVariants.{Reply, Nack, Check}
use Rattle.sheet.specs.declared.Tick.{Tick}
use Rattle.sheet.specs.declared.StartUp.{StartUp}
use Rattle.sheet.specs.declared.StartUp.TheVariants.{Dsp, Avr, Pi}
use Rattle.sheet.specs.declared.SheetRefusal.{SheetRefusal}
use Rattle.sheet.specs.declared.SheetRefusal.TheVariants.{PartTooShort}

-- ---- the text

-- D, A or P
abbrev pub start_up_letter : StartUp → ℕ
start_up_letter Dsp = 0x44
start_up_letter Avr = 0x41
start_up_letter Pi = 0x50

-- R for a reply or acknowledgement, N for a nack, K for a check
abbrev pub how_letter : How → ℕ
how_letter Reply = 0x52
how_letter Nack = 0x4E
how_letter Check = 0x4B

abbrev pub comma : ℕ
comma = 0x2C

abbrev pub line_feed : ℕ
line_feed = 0x0A

-- the letter of the start-up; the number of the tick; its reading in nanoseconds; how it was ticked
abbrev pub line : StartUp → ℕ → Tick → List ℕ
line s n t =
    start_up_letter s ∷ comma ∷ [] ++ decimal n ++ comma ∷ [] ++ decimal t.reading ++ comma ∷ how_letter t.how ∷ line_feed ∷ []

-- the lines of these ticks, the first having the number n
abbrev pub lines : StartUp → ℕ → List Tick → List ℕ
lines s n [] = []
lines s n (t ∷ ts) = line s n t ++ lines s (suc n) ts

abbrev pub sheet : StartUp → List Tick → List ℕ
sheet s ts = lines s 1 ts

-- ---- the part of a buffer that begins at place `at`

abbrev pub number : SheetRefusal → ℕ
-- the part is shorter than the text, or the place is past the buffer's end
number PartTooShort = 5

abbrev pub sheet_refusals : List ℕ → ℕ → List ℕ → List Applies
sheet_refusals text at buf = applies 5 (ltb (length buf) (at + length text)) ∷ []

-- the outcome with the number n: refused if that is the refusal's; 0 says that none applies
abbrev pub outcome : ℕ → Result (Unit {0}) SheetRefusal
outcome n = cond (eqb (number PartTooShort) n) (Err PartTooShort) (Ok tt)

abbrev pub sheet_outcome : List ℕ → ℕ → List ℕ → Result (Unit {0}) SheetRefusal
sheet_outcome text at buf = outcome (lowest (sheet_refusals text at buf))

-- the buffer with this text from place `at` on; what stands before it and behind it stays
abbrev pub placed : List ℕ → ℕ → List ℕ → List ℕ
placed text at buf = take at buf ++ text ++ drop (at + length text) buf

-- what is answered: how many bytes are written, or the refusal
abbrev pub counted : Result (Unit {0}) SheetRefusal → ℕ → Result ℕ SheetRefusal
counted (Ok u) n = Ok n
counted (Err r) n = Err r

abbrev pub answered : List ℕ → ℕ → List ℕ → Result ℕ SheetRefusal
answered text at buf = counted (sheet_outcome text at buf) (length text)

-- the buffer then: where it is refused, as it was
abbrev pub buffer_by : Result (Unit {0}) SheetRefusal → List ℕ → List ℕ → List ℕ
buffer_by (Ok u) new old = new
buffer_by (Err r) new old = old

abbrev pub written : List ℕ → ℕ → List ℕ → List ℕ
written text at buf = buffer_by (sheet_outcome text at buf) (placed text at buf) buf

-- both
abbrev pub given : List ℕ → ℕ → List ℕ → Result ℕ SheetRefusal × List ℕ
given text at buf = (answered text at buf, written text at buf)
