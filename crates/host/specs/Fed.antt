-- What a call of a sequence answers to a host, for all six: as the call itself, of the state that the numbers stand for. A refusal changes
-- nothing: what goes back is the very state that was handed in. Definitions only.
-- Assumes nothing.
use Rattle.std.specs.Prelude.{Option, Result, Ok, Err}
use Rattle.protocol.specs.declared.Action.{Action}
use Rattle.protocol.specs.declared.Refusal.{Refusal}
use Rattle.sequence.specs.declared.Answer.{Answer}
use Rattle.abi_values.specs.Numbers.{refusal_out}
use Rattle.abi.specs.Actions.{nothing}
use Rattle.host.specs.Sends.{unknown, sent}
use Rattle.host.specs.declared.fed.Fed.{Fed}

-- the state that goes back: the new one where the call was accepted, else the one that was handed in
abbrev pub back : {A C : Type 0} → Result A Refusal → C → C → C
back (Ok x) new handed = new
back (Err r) new handed = handed

-- how a call ended, and the state that goes back
abbrev pub told : {C : Type 0} → Result (Option Action) Refusal → C → Fed C
told o seq = record { refusal = refusal_out o; action = sent o; seq = seq }

-- of a call that begins a sequence
abbrev pub first : {S C : Type 0} → (S → C) → Answer S → Fed C
first out f = told f.outcome (out f.seq)

-- of a call of a state that was handed in, after which it is `new`
abbrev pub given : {C : Type 0} → Result (Option Action) Refusal → C → C → Fed C
given o new handed = told o (back o new handed)

-- the same of the answer of a call, where this is made of the new state and of that which was handed in
abbrev pub answered : {S C : Type 0} → (S → C) → (C → C → C) → Answer S → C → Fed C
answered out made f handed = given f.outcome (made (out f.seq) handed) handed

-- the new state alone: of a sequence that has no record which may be absent
abbrev pub alone : {C : Type 0} → C → C → C
alone new handed = new

-- a number that no case has
abbrev pub declined : {C : Type 0} → C → Fed C
declined handed = record { refusal = unknown; action = nothing; seq = handed }
