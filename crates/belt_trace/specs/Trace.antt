-- The text of four steps from reset, and the answer to an input (document 01, "Cases", `beltrun`).
use Rattle.std.specs.Prelude.{cond, List, [], ◌++◌, ℕ, zero, suc, ◌+◌, ltb, length, take, replicate}
use Rattle.processor.specs.State.{at_reset}
use Rattle.timer.specs.Timer.{timer_at_reset}
use Rattle.machine.specs.Machine.{Machine, machine}
use Rattle.belt_text.specs.Text.{short_input}
use Rattle.belt_step.specs.Line.{following, step_line}

-- the lines of n steps, the first of them with the given number
unfoldable pub lines_from : ℕ → ℕ → Machine → List ℕ
lines_from zero step m = []
lines_from (suc n) step m = step_line step m ++ lines_from n (step + 1) (following m)

-- RAM of 4,096 bytes and a belt of 1,024, all zero
unfoldable pub at_start : List ℕ → Machine
at_start rom = machine at_reset timer_at_reset (replicate 4096 0) rom (replicate 1024 0)

-- four lines, numbered from 1
unfoldable pub belt_text : List ℕ → List ℕ
belt_text rom = lines_from 4 1 (at_start rom)

-- what is printed for an input: its first 4,096 bytes are the ROM
unfoldable pub answer_of : List ℕ → List ℕ
answer_of input = cond (ltb (length input) 4096) short_input (belt_text (take 4096 input))
