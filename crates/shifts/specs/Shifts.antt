-- Shifts, and LDHI (manual, 3.3.25 to 3.3.31). The operand x is a word, below 2 ^ 32; of y the low bits alone are read.
use Rattle.std.specs.Prelude.{ℕ, ◌*◌, ◌/◌, ◌%◌, ◌^◌}
use Rattle.std.specs.Int.Signed.{shr_z}
use Rattle.words.specs.Numbers.{signed, word_of}

-- SLL, SLLI (3.3.25, 3.3.26): by the low five bits of the count, and so for the two below
unfoldable pub shift_left : ℕ → ℕ → ℕ
shift_left x y = x * 2 ^ (y % 32) % 2 ^ 32

-- SLR, SLRI (3.3.27, 3.3.28)
unfoldable pub shift_right : ℕ → ℕ → ℕ
shift_right x y = x / 2 ^ (y % 32)

-- SAR, SARI (3.3.29, 3.3.30): the sign bit comes in, so the signed reading is divided and rounded down
unfoldable pub shift_arithmetic : ℕ → ℕ → ℕ
shift_arithmetic x y = word_of (shr_z (signed 32 x) (2 ^ (y % 32)))

-- LDHI (3.3.31)
unfoldable pub load_high : ℕ → ℕ
load_high y = y % 2 ^ 16 * 2 ^ 16
