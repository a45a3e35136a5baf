-- AND, OR, XOR and XNOR of words (manual, 3.3.17 to 3.3.24). The operands x and y are words, below 2 ^ 32. A 16-bit immediate is extended
-- to the word y before, by zeros.
use Rattle.std.specs.Prelude.{ℕ, ◌-◌, ◌^◌}
use Rattle.std.specs.Int.Bits.{bit_and, bit_or, bit_xor}

-- AND, ANDI (3.3.17, 3.3.18)
unfoldable pub and : ℕ → ℕ → ℕ
and x y = bit_and x y

-- OR, ORI (3.3.19, 3.3.20)
unfoldable pub or : ℕ → ℕ → ℕ
or x y = bit_or x y

-- XOR, XORI (3.3.21, 3.3.22)
unfoldable pub xor : ℕ → ℕ → ℕ
xor x y = bit_xor x y

-- XNOR, XNORI (3.3.23, 3.3.24)
unfoldable pub xnor : ℕ → ℕ → ℕ
xnor x y = 2 ^ 32 - 1 - bit_xor x y
