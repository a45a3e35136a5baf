-- A target by the code's shift and sum: four times the offset is taken modulo 2 ^ 32 before it is added.
use mathlib.Core.Path.{◌≡◌, refl, ap, ◌∙◌}
use mathlib.Core.Bool.{true, false}
use Prim.Native.Nat.{ℕ, ◌+◌, ◌*◌, ◌%◌}
use native.Mathlib.Nat.{mul_comm, add-mod-mod}
use Rattle.words.specs.Numbers.{truncate, sign_extend}
use Rattle.sums.specs.Sums.{sum}
use Rattle.shifts.specs.Shifts.{shift_left}
use Rattle.control.specs.Branches.{target, branch}
use Rattle.tlb.specs.Lookup.{no_slot}
use Rattle.instructions.specs.Action.{Write}

pub target_by_shift : (width word next : ℕ) → sum next (shift_left (sign_extend width word) 2) ≡ target width word next
unfolding target sum truncate shift_left
target_by_shift width word next =
    add-mod-mod next (sign_extend width word * 4) 4294967296
    ∙ ap (λ (n : ℕ). (next + n) % 4294967296) (mul_comm (sign_extend width word) 4)

-- a branch goes to its target, or on
pub branch_taken : (word next : ℕ) → branch true word next ≡ Write 0 0 (target 16 word next) no_slot
unfolding branch
branch_taken word next = refl

pub branch_not_taken : (word next : ℕ) → branch false word next ≡ Write 0 0 next no_slot
unfolding branch
branch_not_taken word next = refl
