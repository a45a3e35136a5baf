-- The arithmetic shift by the sign of the word, and by i32 as the code computes it.
use mathlib.Core.Path.{◌≡◌}
use Prim.Native.Nat.{ℕ, ◌-◌, ◌/◌, ◌%◌, ◌^◌, ◌≤◌, ◌<◌}
use native.Mathlib.Nat.{div-le_self}
use native.Mathlib.Omega.{arith}
use Rattle.shifts.specs.Shifts.{shift_arithmetic}
use Rattle.std.specs.Int.{w32, cast_signed, cast_unsigned}
use lib.IntN.{ℤ, pos, negsuc, nat_abs}
use lib.Signed.{shr_z}
use Rattle.words.specs.Numbers.{signed}
use Rattle.words.proofs.Integers.{cast_reads, cast_back, signed_size, signed_low, signed_high, word_pos, word_negsuc}

pub arithmetic_low : (x y : ℕ) → x < 2 ^ 31 → shift_arithmetic x y ≡ x / 2 ^ (y % 32)
unfolding shift_arithmetic
arithmetic_low x y h =
    rw (signed_low x h) (word_pos (x / 2 ^ (y % 32)) (omega (arith, div-le_self x (2 ^ (y % 32)))))

pub arithmetic_high : (x y : ℕ) → 2 ^ 31 ≤ x → x < 2 ^ 32
    → shift_arithmetic x y ≡ 4294967295 - (4294967295 - x) / 2 ^ (y % 32)
unfolding shift_arithmetic
arithmetic_high x y h k =
    rw (signed_high x h k)
    (word_negsuc ((4294967295 - x) / 2 ^ (y % 32)) (omega (arith, div-le_self (4294967295 - x) (2 ^ (y % 32)))))

-- ---- by i32

shift_size : (z : ℤ) (m : ℕ) → nat_abs z ≤ 2 ^ 31 → nat_abs (shr_z z m) ≤ 2 ^ 31
shift_size (pos n) m h = omega (arith, div-le_self n m)
shift_size (negsuc n) m h = omega (arith, div-le_self n m)

pub arithmetic_cast : (x y : ℕ) → x < 2 ^ 32
    → cast_unsigned w32 (cast_signed w32 (cast_unsigned w32 (shr_z (cast_signed w32 x) (2 ^ (y % 32))))) ≡ shift_arithmetic x y
unfolding shift_arithmetic
arithmetic_cast x y h =
    rw (cast_reads x h) (cast_back (shr_z (signed 32 x) (2 ^ (y % 32))) (shift_size (signed 32 x) (2 ^ (y % 32)) (signed_size x h)))
