-- Sums, differences and products are words, numbers below 2 ^ 32; and so are extended immediates, half-words and bytes.
use Rattle.std.proofs.Common.{ℕ, ◌^◌, ◌<◌, arith}
use Rattle.words.specs.Numbers.{bit, truncate, zero_extend, sign_extend}
use Rattle.sums.specs.Sums.{sum, difference, signed_product, unsigned_product}
use Rattle.words.proofs.Integers.{word_lt}

module _ (x y : ℕ) where
  pub sum_lt : sum x y < 2 ^ 32
  unfolding sum truncate
  sum_lt = omega arith

  pub difference_lt : difference x y < 2 ^ 32
  unfolding difference truncate
  difference_lt = omega arith

  pub unsigned_product_lt : unsigned_product x y < 2 ^ 32
  unfolding unsigned_product truncate
  unsigned_product_lt = omega arith

  pub signed_product_lt : signed_product x y < 2 ^ 32
  unfolding signed_product
  signed_product_lt = word_lt _

-- ---- extended immediates, half-words and bytes

pub zero_16_lt : (n : ℕ) → zero_extend 16 n < 2 ^ 32
unfolding zero_extend
zero_16_lt n = omega arith

pub zero_8_lt : (n : ℕ) → zero_extend 8 n < 2 ^ 32
unfolding zero_extend
zero_8_lt n = omega arith

pub sign_16_lt : (n : ℕ) → sign_extend 16 n < 2 ^ 32
unfolding sign_extend bit
sign_16_lt n = omega arith

pub sign_8_lt : (n : ℕ) → sign_extend 8 n < 2 ^ 32
unfolding sign_extend bit
sign_8_lt n = omega arith
