-- The ticks of a start-up with how each was ticked as a number, in the order of the enum, and back: all 16 places, counted or not, and known
-- if the number in each is. Definitions only.
-- Assumes nothing.
use Rattle.std.specs.Prelude.{ℕ, cond, eqb, Result, Ok, List, [], ◌∷◌, map}
use Rattle.sheet.specs.declared.How.{How}
use Rattle.sheet.specs.declared.How.TheVariants.{Reply, Nack, Check}
use Rattle.sheet.specs.declared.Tick.{Tick}
use Rattle.sheet.specs.declared.Ticks.{Ticks}
use Rattle.abi_values.specs.declared.UnknownNumber.{UnknownNumber}
use Rattle.abi_values.specs.Numbers.{unknown, and_then}
use Rattle.abi_sheet.specs.declared.CTick.{CTick}
use Rattle.abi_sheet.specs.declared.CTicks.{CTicks}

abbrev pub how_in : ℕ → Result How UnknownNumber
how_in n = cond (eqb n 0) (Ok Reply) (cond (eqb n 1) (Ok Nack) (cond (eqb n 2) (Ok Check) unknown))

abbrev pub how_out : How → ℕ
how_out Reply = 0
how_out Nack = 1
how_out Check = 2

abbrev pub tick_in : CTick → Result Tick UnknownNumber
tick_in c = and_then (how_in c.how) (λ how. Ok (record { reading = c.reading; how = how }))

abbrev pub tick_out : Tick → CTick
tick_out t = record { reading = t.reading; how = how_out t.how }

-- known if each is
abbrev pub places_in : List CTick → Result (List Tick) UnknownNumber
places_in [] = Ok []
places_in (c ∷ cs) = and_then (tick_in c) (λ t. and_then (places_in cs) (λ ts. Ok (t ∷ ts)))

abbrev pub places_out : List Tick → List CTick
places_out ts = map tick_out ts

abbrev pub ticks_in : CTicks → Result Ticks UnknownNumber
ticks_in c = and_then (places_in c.ticks) (λ ts. Ok (record { ticks = ts; len = c.len }))

abbrev pub ticks_out : Ticks → CTicks
ticks_out t = record { ticks = places_out t.ticks; len = t.len }
