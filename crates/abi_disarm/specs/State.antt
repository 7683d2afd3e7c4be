-- A disarm as a host holds it, and back: its steps by number, in the order of the enum of the Rust, and its state, which is known if every number in
-- it is. Definitions only.
-- Assumes nothing.
use Rattle.std.specs.Prelude.{ℕ, cond, eqb, Result, Ok}
use Rattle.disarm.specs.declared.DisarmStep.{DisarmStep}
use Rattle.disarm.specs.declared.DisarmStep.TheVariants as Disarm
use Rattle.disarm.specs.declared.DisarmSequencer.{DisarmSequencer}
use Rattle.abi_values.specs.declared.UnknownNumber.{UnknownNumber}
use Rattle.abi_values.specs.Numbers.{unknown, and_then}
use Rattle.abi_disarm.specs.declared.CDisarm.{CDisarm}

abbrev pub disarm_step_in : ℕ → Result DisarmStep UnknownNumber
disarm_step_in n =
    cond (eqb n 0) (Ok Disarm.WaitAck)
    (cond (eqb n 1) (Ok Disarm.WaitModeReset)
    (cond (eqb n 2) (Ok Disarm.WaitStateIdle)
    (cond (eqb n 3) (Ok Disarm.Done) unknown)))

abbrev pub disarm_step_out : DisarmStep → ℕ
disarm_step_out Disarm.WaitAck = 0
disarm_step_out Disarm.WaitModeReset = 1
disarm_step_out Disarm.WaitStateIdle = 2
disarm_step_out Disarm.Done = 3

abbrev pub disarm_in : CDisarm → Result DisarmSequencer UnknownNumber
disarm_in c = and_then (disarm_step_in c.step) (λ step. Ok (record { step = step }))

abbrev pub disarm_out : DisarmSequencer → CDisarm
disarm_out s = record { step = disarm_step_out s.step }
