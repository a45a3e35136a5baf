-- The target of a branch or a jump, and a branch (manual, 3.4). Offsets count words from the PC after the fetch.
use Rattle.std.specs.Prelude.{Bool, cond, ℕ, ◌*◌}
use Rattle.words.specs.Numbers.{sign_extend}
use Rattle.sums.specs.Sums.{sum}
use Rattle.tlb.specs.Lookup.{no_slot}
use Rattle.instructions.specs.Action.{Action, Write}

-- the target of the offset in the low bits of the instruction word
unfoldable pub target : ℕ → ℕ → ℕ → ℕ
target width word next = sum next (4 * sign_extend width word)

-- a jump that links nothing: a write to register 0 has no effect
abbrev pub jump_to : ℕ → Action
jump_to pc = Write 0 0 pc no_slot

unfoldable pub branch : Bool → ℕ → ℕ → Action
branch holds word next = jump_to (cond holds (target 16 word next) next)
