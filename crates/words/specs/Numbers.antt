-- Bit sequences as numbers (manual, 2.1). A sequence of w bits is the number that it stands for unsigned.
use Rattle.std.specs.Prelude.{ℕ, ◌+◌, ◌-◌, ◌*◌, ◌/◌, ◌%◌, ◌^◌, ℤ, pos, negsuc}
use Rattle.std.proofs.Math.IntN.{sub_ℕ}

-- bit i of n
unfoldable pub bit : ℕ → ℕ → ℕ
bit i n = n / 2 ^ i % 2

-- truncate_w: the low w bits
unfoldable pub truncate : ℕ → ℕ → ℕ
truncate w n = n % 2 ^ w

-- zeroext_32 of the low w bits: zeros before them
unfoldable pub zero_extend : ℕ → ℕ → ℕ
zero_extend w n = n % 2 ^ w

-- signext_32 of the low w bits, w from 1 to 32: bit w - 1 again in each place from w to 31
unfoldable pub sign_extend : ℕ → ℕ → ℕ
sign_extend w n = n % 2 ^ w + bit (w - 1) n * (2 ^ 32 - 2 ^ w)

-- the signed reading of w bits: the low w - 1 bits, less 2 ^ (w - 1) where the top bit is set
unfoldable pub signed : ℕ → ℕ → ℤ
signed w n = sub_ℕ (n % 2 ^ (w - 1)) (bit (w - 1) n * 2 ^ (w - 1))

-- truncate_32 of an integer: the word that stands for it modulo 2 ^ 32
unfoldable pub word_of : ℤ → ℕ
word_of (pos n) = n % 2 ^ 32
word_of (negsuc n) = 2 ^ 32 - 1 - n % 2 ^ 32
