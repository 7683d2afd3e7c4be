-- What a start-up keeps of the entries that are ticked. Definitions only.
-- Assumes nothing.
use Rattle.std.specs.Prelude.{Bool, cond, ◌+◌, ◌-◌, min, List, ◌++◌, ltb, eqb, length, take, set, replicate}
use Rattle.protocol.specs.declared.Message.{Message}
use Rattle.protocol.specs.Kinds.{tag, config_nack}
use Rattle.sequence.specs.Events.{Envelope, Event, fed, checked, reading}
use Rattle.sheet.specs.declared.How.{How}
use Rattle.sheet.specs.declared.How.TheVariants.{Reply, Nack, Check}
use Rattle.sheet.specs.declared.Tick.{Tick}
use Rattle.sheet.specs.declared.Ticks.{Ticks}

-- ---- a tick, as the event tells it

-- of the messages that tick an entry the nacks are such, and any other is a reply or an acknowledgement
abbrev pub how_of : Message → How
how_of m = cond (eqb (tag m) config_nack) Nack Reply

-- `env` finds the envelope in what a feed is handed
abbrev pub how_in : {A : Type 0} → (A → Envelope) → Event A → How
how_in env (fed a t) = how_of (env a).message
how_in env (checked t) = Check

abbrev pub tick_of : {A : Type 0} → (A → Envelope) → Event A → Tick
tick_of env e = record { reading = reading e; how = how_in env e }

-- ---- ticks, as they are stored

-- what stands in a place that holds no tick
abbrev pub no_tick : Tick
no_tick = record { reading = 0; how = Reply }

-- these ticks, the first 16 of them, and nothing in the places after them
abbrev pub stored : List Tick → Ticks
stored ts = record { ticks = take 16 (ts ++ replicate (16 - length ts) no_tick); len = min 16 (length ts) }

-- one more; where there is no room they stay as they are
abbrev pub with_tick : Ticks → Tick → Ticks
with_tick t k = cond (ltb t.len 16) (record { ticks = set t.ticks t.len k; len = t.len + 1 }) t

-- after an accepted feed or check: one more if it ticked an entry
abbrev pub then_tick : Ticks → Bool → Tick → Ticks
then_tick t b k = cond b (with_tick t k) t

-- the ticks that there are
abbrev pub kept : Ticks → List Tick
kept t = take (min 16 t.len) t.ticks
