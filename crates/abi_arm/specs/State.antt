-- An arm as a host holds it, and back: its steps by number, in the order of the enum of the Rust, and its state, which is known if every number in
-- it is. What has come stands beside step 3. Definitions only.
-- Assumes nothing.
use Rattle.std.specs.Prelude.{false, cond, eqb, Result, Ok}
use Rattle.arm_steps.specs.declared.ArmStep.{ArmStep}
use Rattle.arm_steps.specs.declared.ArmStep.TheVariants as Arm
use Rattle.arm.specs.declared.ArmSequencer.{ArmSequencer}
use Rattle.abi_values.specs.declared.UnknownNumber.{UnknownNumber}
use Rattle.abi_values.specs.Numbers.{unknown, and_then}
use Rattle.abi_arm.specs.declared.CArmStep.{CArmStep}
use Rattle.abi_arm.specs.declared.CArm.{CArm}

abbrev pub arm_step_in : CArmStep → Result ArmStep UnknownNumber
arm_step_in c =
    cond (eqb c.number 0) (Ok Arm.WaitDspStatus)
    (cond (eqb c.number 1) (Ok Arm.WaitAvrStatus)
    (cond (eqb c.number 2) (Ok Arm.WaitArmAck)
    (cond (eqb c.number 3) (Ok (Arm.WaitPiAndArmed c.got_pi c.got_armed))
    (cond (eqb c.number 4) (Ok Arm.Done) unknown))))

abbrev pub arm_step_out : ArmStep → CArmStep
arm_step_out Arm.WaitDspStatus = record { number = 0; got_pi = false; got_armed = false }
arm_step_out Arm.WaitAvrStatus = record { number = 1; got_pi = false; got_armed = false }
arm_step_out Arm.WaitArmAck = record { number = 2; got_pi = false; got_armed = false }
arm_step_out (Arm.WaitPiAndArmed p t) = record { number = 3; got_pi = p; got_armed = t }
arm_step_out Arm.Done = record { number = 4; got_pi = false; got_armed = false }

abbrev pub arm_in : CArm → Result ArmSequencer UnknownNumber
arm_in c = and_then (arm_step_in c.step) (λ step. Ok (record { step = step; retries = c.retries; wait_pi = c.wait_pi }))

abbrev pub arm_out : ArmSequencer → CArm
arm_out s = record { step = arm_step_out s.step; retries = s.retries; wait_pi = s.wait_pi }
