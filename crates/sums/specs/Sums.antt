-- Sums, differences and products (manual, 3.3.1 to 3.3.8; document 01, "Closed by us"). The operands x and y are words, below 2 ^ 32.
-- A 16-bit immediate is extended to the word y before: by sign for ADDI, SUBI and MULI, by zeros for MULUI.
use Rattle.std.specs.Prelude.{ℕ, ◌+◌, ◌-◌, ◌*◌, ◌^◌, ◌*ℤ◌}
use Rattle.words.specs.Numbers.{truncate, signed, word_of}

-- ADD, ADDI (3.3.1, 3.3.2)
unfoldable pub sum : ℕ → ℕ → ℕ
sum x y = truncate 32 (x + y)

-- SUB, SUBI (3.3.3, 3.3.4)
unfoldable pub difference : ℕ → ℕ → ℕ
difference x y = truncate 32 (x + (2 ^ 32 - y))

-- MUL, MULI (3.3.5, 3.3.6)
unfoldable pub signed_product : ℕ → ℕ → ℕ
signed_product x y = word_of (signed 32 x *ℤ signed 32 y)

-- MULU, MULUI (3.3.7, 3.3.8)
unfoldable pub unsigned_product : ℕ → ℕ → ℕ
unsigned_product x y = truncate 32 (x * y)
