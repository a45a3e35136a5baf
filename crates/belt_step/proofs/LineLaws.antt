-- The laws of a step's line.
use mathlib.Core.Path.{◌≡◌, ap}
use Prim.Native.Nat.{ℕ}
use lib.ListN.{length}
use Rattle.machine.specs.Machine.{Machine}
use Rattle.step.specs.Step.{Stepped, stepped, step_of}
use Rattle.belt_text.specs.Line.{hex_word, line_of}
use Rattle.belt_text.proofs.LineLaws.{eid_parts}
use Rattle.belt_step.specs.Line.{following, step_line}

-- a line has 14 bytes
pub line_length : (step : ℕ) (m : Machine) → length (step_line step m) ≡ 14
unfolding step_line line_of hex_word
line_length step m = simp eid_parts

-- what a step answered: the machine after it
pub machine_of_step : (m : Machine) {n : Machine} {eid slot opcode : ℕ} → stepped n eid slot opcode ≡ step_of m 0 → n ≡ following m
machine_of_step m e = ap (λ (s : Stepped). s.machine) e

-- and its line
pub line_of_step : (step : ℕ) (m : Machine) {n : Machine} {eid slot opcode : ℕ} → stepped n eid slot opcode ≡ step_of m 0
    → line_of step n.processor.pc eid ≡ step_line step m
unfolding step_line
line_of_step step m e = ap (λ (s : Stepped). line_of step s.machine.processor.pc s.event.eid) e
