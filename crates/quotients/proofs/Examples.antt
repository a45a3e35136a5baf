-- Worked values, by computation: document 01's case of a division, and quotients of each pair of signs.
use Rattle.std.proofs.Common.{◌≡◌, refl}
use Rattle.words.specs.Numbers.{bit, signed, word_of}
use Rattle.quotients.specs.Quotients.{signed_quotient, signed_remainder}

pub record Worked : Type 0 where
  pub quotient_of_the_least : signed_quotient 0x80000000 0xFFFFFFFF ≡ 0x80000000
  pub remainder_of_the_least : signed_remainder 0x80000000 0xFFFFFFFF ≡ 0
  -- 7 by 2: 3, remainder 1
  pub quotient_of_naturals : signed_quotient 7 2 ≡ 3
  pub remainder_of_naturals : signed_remainder 7 2 ≡ 1
  -- -7 by 2: -3, remainder -1
  pub quotient_toward_zero : signed_quotient 0xFFFFFFF9 2 ≡ 0xFFFFFFFD
  pub remainder_as_the_dividend : signed_remainder 0xFFFFFFF9 2 ≡ 0xFFFFFFFF
  -- 7 by -2: -3, remainder 1
  pub quotient_by_a_negative : signed_quotient 7 0xFFFFFFFE ≡ 0xFFFFFFFD
  pub remainder_by_a_negative : signed_remainder 7 0xFFFFFFFE ≡ 1
  -- -7 by -2: 3, remainder -1
  pub quotient_of_negatives : signed_quotient 0xFFFFFFF9 0xFFFFFFFE ≡ 3
  pub remainder_of_negatives : signed_remainder 0xFFFFFFF9 0xFFFFFFFE ≡ 0xFFFFFFFF

pub worked : Worked
unfolding signed_quotient signed_remainder signed bit word_of
worked =
    record {
      quotient_of_the_least = refl;
      remainder_of_the_least = refl;
      quotient_of_naturals = refl;
      remainder_of_naturals = refl;
      quotient_toward_zero = refl;
      remainder_as_the_dividend = refl;
      quotient_by_a_negative = refl;
      remainder_by_a_negative = refl;
      quotient_of_negatives = refl;
      remainder_of_negatives = refl;
    }
