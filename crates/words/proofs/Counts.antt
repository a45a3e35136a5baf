-- What is left of a count: one more turn of a loop, or none.
use Rattle.std.proofs.Common.{◌≡◌, ℕ, suc, ◌+◌, ◌-◌, ◌<◌, ◌≤◌, arith}

pub left : (n i : ℕ) → i < n → n - i ≡ suc (n - (i + 1))
left n i h = omega arith

pub over : (n i : ℕ) → n ≤ i → n - i ≡ 0
over n i h = omega arith
