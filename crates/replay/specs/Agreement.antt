-- A step of a machine: what it comes to, and whether that agrees with the expected machine.
use Rattle.std.specs.Prelude.{Bool, ℕ}
use Rattle.machine.specs.Machine.{Machine}
use Rattle.step.specs.Step.{step_of}
use Rattle.expected.specs.Expected.{Expected, agrees}

-- the machine after a step, the EID of the exception that it accepts, or `no_exception`, and the slot of its data access, or `no_slot`
abbrev pub machine_after : Machine → ℕ → Machine
machine_after m lines = (step_of m lines).machine

abbrev pub eid_after : Machine → ℕ → ℕ
eid_after m lines = (step_of m lines).event.eid

abbrev pub slot_after : Machine → ℕ → ℕ
slot_after m lines = (step_of m lines).event.slot

unfoldable pub step_agrees : Expected → ℕ → Machine → ℕ → Bool
step_agrees x wanted m lines = agrees x wanted (machine_after m lines) (eid_after m lines) (slot_after m lines)
