-- Quotients and remainders are words, numbers below 2 ^ 32.
use Rattle.std.proofs.Common.{ℕ, ◌^◌, ◌<◌, div-le_self, arith}
use native.Mathlib.Nat.{mod-le}
use Rattle.quotients.specs.Quotients.{signed_quotient, unsigned_quotient, signed_remainder, unsigned_remainder}
use Rattle.words.proofs.Integers.{word_lt}

module _ (x y : ℕ) where
  pub signed_quotient_lt : signed_quotient x y < 2 ^ 32
  unfolding signed_quotient
  signed_quotient_lt = word_lt _

  pub signed_remainder_lt : signed_remainder x y < 2 ^ 32
  unfolding signed_remainder
  signed_remainder_lt = word_lt _

module _ (x y : ℕ) (hx : x < 2 ^ 32) where
  pub unsigned_quotient_lt : unsigned_quotient x y < 2 ^ 32
  unfolding unsigned_quotient
  unsigned_quotient_lt = omega (arith, div-le_self x y)

  pub unsigned_remainder_lt : unsigned_remainder x y < 2 ^ 32
  unfolding unsigned_remainder
  unsigned_remainder_lt = omega (arith, mod-le x y)
