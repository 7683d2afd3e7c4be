-- Devices and outcomes by number, and back. A number that no case has is not known. Definitions only.
-- Assumes nothing.
use Rattle.std.specs.Prelude.{ℕ, cond, eqb, Result, Ok, Err}
use Rattle.protocol.specs.declared.BusAddr.{BusAddr}
use Rattle.protocol.specs.declared.Refusal.{Refusal}
use Rattle.protocol.specs.Refusals.{number}
use Rattle.abi_values.specs.declared.UnknownNumber.{UnknownNumber}

abbrev pub unknown : {A : Type 0} → Result A UnknownNumber
unknown = Err (record {})

-- f of what a number stands for, where it stands for anything. std has the word for an Option (option_and_then), and none for a Result.
abbrev pub and_then : {A B : Type 0} → Result A UnknownNumber → (A → Result B UnknownNumber) → Result B UnknownNumber
and_then (Ok x) f = f x
and_then (Err e) f = Err e

-- the device at a byte of the bus
abbrev pub addr_in : ℕ → Result BusAddr UnknownNumber
addr_in b =
    cond (eqb b 0x10) (Ok BusAddr.App)
    (cond (eqb b 0x12) (Ok BusAddr.Pi)
    (cond (eqb b 0x30) (Ok BusAddr.Avr)
    (cond (eqb b 0x40) (Ok BusAddr.Dsp)
    unknown)))

-- 0, or the refusal's number
abbrev pub refusal_out : {A : Type 0} → Result A Refusal → ℕ
refusal_out (Ok x) = 0
refusal_out (Err r) = number r
