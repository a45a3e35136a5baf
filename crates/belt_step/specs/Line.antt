-- A step and its line (document 01, "Cases", `beltrun`).
use Rattle.std.specs.Prelude.{List, ℕ}
use Rattle.machine.specs.Machine.{Machine}
use Rattle.step.specs.Step.{step_of}
use Rattle.belt_text.specs.Line.{line_of}

-- the machine after a step with lines 0
abbrev pub following : Machine → Machine
following m = (step_of m 0).machine

-- its line has the PC after it, and the EID that it accepted, or 32
unfoldable pub step_line : ℕ → Machine → List ℕ
step_line step m = line_of step (following m).processor.pc (step_of m 0).event.eid
