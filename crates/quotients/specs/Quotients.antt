-- Quotients and remainders (manual, 3.3.9 to 3.3.16; document 01, "Closed by us"). The operands x and y are words, below 2 ^ 32.
-- A 16-bit immediate is extended to the word y before: by sign for DIVI and REMI, by zeros for DIVUI and REMUI.
use Rattle.std.specs.Prelude.{ℕ, ◌/◌, ◌%◌, int_div, int_rem}
use Rattle.words.specs.Numbers.{signed, word_of}

-- DIV, DIVI (3.3.9, 3.3.10): rounded toward 0. The divisor 0 faults before this is asked
unfoldable pub signed_quotient : ℕ → ℕ → ℕ
signed_quotient x y = word_of (int_div (signed 32 x) (signed 32 y))

-- DIVU, DIVUI (3.3.11, 3.3.12)
unfoldable pub unsigned_quotient : ℕ → ℕ → ℕ
unsigned_quotient x y = x / y

-- REM, REMI (3.3.13, 3.3.14): with the dividend's sign
unfoldable pub signed_remainder : ℕ → ℕ → ℕ
signed_remainder x y = word_of (int_rem (signed 32 x) (signed 32 y))

-- REMU, REMUI (3.3.15, 3.3.16)
unfoldable pub unsigned_remainder : ℕ → ℕ → ℕ
unsigned_remainder x y = x % y
