-- Shifts and LDHI give words, numbers below 2 ^ 32.
use Prim.Native.Nat.{ℕ, ◌%◌, ◌^◌, ◌<◌}
use native.Mathlib.Nat.{div-le_self}
use native.Mathlib.Omega.{arith}
use Rattle.shifts.specs.Shifts.{shift_left, shift_right, shift_arithmetic, load_high}
use Rattle.words.proofs.Integers.{word_lt}

module _ (x y : ℕ) where
  pub shift_left_lt : shift_left x y < 2 ^ 32
  unfolding shift_left
  shift_left_lt = omega arith

  pub shift_arithmetic_lt : shift_arithmetic x y < 2 ^ 32
  unfolding shift_arithmetic
  shift_arithmetic_lt = word_lt _

pub load_high_lt : (y : ℕ) → load_high y < 2 ^ 32
unfolding load_high
load_high_lt y = omega arith

module _ (x y : ℕ) (hx : x < 2 ^ 32) where
  pub shift_right_lt : shift_right x y < 2 ^ 32
  unfolding shift_right
  shift_right_lt = omega (arith, div-le_self x (2 ^ (y % 32)))
