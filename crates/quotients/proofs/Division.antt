-- The signed quotient and remainder by the magnitudes of the operands, and by i32, as the code computes them.
use Rattle.std.proofs.Common.{◌≡◌, ℕ, ◌+◌, ◌-◌, ◌*◌, ◌/◌, ◌%◌, ◌^◌, ◌<◌, ◌≤◌, ℤ, pos, negsuc, neg_ℤ, nat_abs, sym, refl, ap, ◌∙◌, le_of_lt, div-le_self, arith, le-leb}
use native.Mathlib.Nat.{mod-le, mod-zero, div-zero, zero-div}
use lib.Signed.{quot_z, rem_z, mag}
use borrow.Author.Tests.{lt-leb}
use Rattle.std.specs.Int.{w32, cast_signed, cast_unsigned}
use Rattle.std.proofs.lemmas.Int.{ints}
use Rattle.words.specs.Numbers.{truncate, signed, word_of}
use Rattle.sums.specs.Sums.{difference}
use Rattle.quotients.specs.Quotients.{signed_quotient, signed_remainder}
use Rattle.quotients.specs.Code.{with_sign}
use Rattle.words.proofs.Integers.{by_sign, by_signs, signed_low, signed_high, word_pos, word_signed, cast_reads, cast_back, signed_size}
use Rattle.sums.proofs.Differences.{word_negated}
use Rattle.quotients.proofs.IntegerDivision.{size_of_opposite}

-- ---- by the magnitudes of the operands

pub magnitude_low : (x : ℕ) → x < 2 ^ 31 → nat_abs (signed 32 x) ≡ x
magnitude_low x h = rw (signed_low x h)

pub magnitude_high : (x : ℕ) → 2 ^ 31 ≤ x → x < 2 ^ 32 → nat_abs (signed 32 x) ≡ 4294967295 - x + 1
magnitude_high x h k = rw (signed_high x h k) (omega arith)

pub plus : (x m : ℕ) → x < 2 ^ 31 → with_sign x m ≡ m
unfolding with_sign
plus x m h = simp (lt-leb 2147483648 x h)

pub minus : (x m : ℕ) → 2 ^ 31 ≤ x → with_sign x m ≡ difference 0 m
unfolding with_sign
minus x m h = simp (le-leb 2147483648 x h)

twice : (m : ℕ) → m < 2 ^ 32 → difference 0 (difference 0 m) ≡ m
unfolding difference truncate
twice m h = omega arith

module _ (x y : ℕ) (hx : x < 2 ^ 32) (hy : y < 2 ^ 32) where
  abbrev quotient : ℕ
  quotient = nat_abs (signed 32 x) / nat_abs (signed 32 y)

  abbrev remainder : ℕ
  remainder = nat_abs (signed 32 x) % nat_abs (signed 32 y)

  quotient_fits : quotient < 2 ^ 32
  quotient_fits =
      let a : quotient ≤ nat_abs (signed 32 x) = div-le_self _ _ in
      omega (arith, signed_size x hx)

  remainder_fits : remainder < 2 ^ 32
  remainder_fits =
      let a : remainder ≤ nat_abs (signed 32 x) = mod-le _ _ in
      omega (arith, signed_size x hx)

  -- the quotient of the magnitudes, negative where exactly one operand is
  pub quotient_by_magnitudes : signed_quotient x y ≡ with_sign x (with_sign y (nat_abs (signed 32 x) / nat_abs (signed 32 y)))
  unfolding signed_quotient
  quotient_by_magnitudes =
      let q : ℕ = quotient in
      by_signs (λ u v. nat_abs u / nat_abs v ≡ q → word_of (quot_z u v) ≡ with_sign x (with_sign y q)) x y hx hy
      (λ lx ly e. ap (λ (n : ℕ). word_of (pos n)) e ∙ word_pos q quotient_fits ∙ sym (plus x _ lx ∙ plus y q ly))
      (λ lx ly e. ap (λ (n : ℕ). word_of (neg_ℤ (pos n))) e ∙ word_negated q (le_of_lt quotient_fits)
      ∙ sym (plus x _ lx ∙ minus y q ly))
      (λ lx ly e. ap (λ (n : ℕ). word_of (neg_ℤ (pos n))) e ∙ word_negated q (le_of_lt quotient_fits)
      ∙ sym (minus x _ lx ∙ ap (difference 0) (plus y q ly)))
      (λ lx ly e. ap (λ (n : ℕ). word_of (pos n)) e ∙ word_pos q quotient_fits
      ∙ sym (minus x _ lx ∙ ap (difference 0) (minus y q ly) ∙ twice q quotient_fits))
      refl

  -- the remainder of the magnitudes, negative where the dividend is
  pub remainder_by_magnitudes : signed_remainder x y ≡ with_sign x (nat_abs (signed 32 x) % nat_abs (signed 32 y))
  unfolding signed_remainder
  remainder_by_magnitudes =
      let m : ℕ = remainder in
      by_sign (λ u. nat_abs u % nat_abs (signed 32 y) ≡ m → word_of (rem_z u (signed 32 y)) ≡ with_sign x m) x hx
      (λ lx e. ap (λ (n : ℕ). word_of (pos n)) e ∙ word_pos m remainder_fits ∙ sym (plus x m lx))
      (λ lx e. ap (λ (n : ℕ). word_of (neg_ℤ (pos n))) e ∙ word_negated m (le_of_lt remainder_fits) ∙ sym (minus x m lx))
      refl

-- ---- by i32

quotient_size : (z d : ℤ) → nat_abs (quot_z z d) ≡ nat_abs z / nat_abs d
quotient_size (pos a) (pos b) = refl
quotient_size (pos a) (negsuc b) = size_of_opposite _
quotient_size (negsuc a) (pos b) = size_of_opposite _
quotient_size (negsuc a) (negsuc b) = refl

remainder_size : (z d : ℤ) → nat_abs (rem_z z d) ≡ nat_abs z % nat_abs d
remainder_size (pos a) d = refl
remainder_size (negsuc a) d = size_of_opposite _

module _ (x y : ℕ) (hx : x < 2 ^ 32) (hy : y < 2 ^ 32) where
  pub quotient_cast : cast_unsigned w32 (cast_signed w32 (cast_unsigned w32 (quot_z (cast_signed w32 x) (cast_signed w32 y)))) ≡ signed_quotient x y
  unfolding signed_quotient
  quotient_cast =
      let size : nat_abs (quot_z (signed 32 x) (signed 32 y)) ≤ 2 ^ 31 =
      rw (quotient_size (signed 32 x) (signed 32 y)) (omega (arith, div-le_self (nat_abs (signed 32 x)) (nat_abs (signed 32 y)), signed_size x hx)) in
      rw (cast_reads x hx, cast_reads y hy) (cast_back (quot_z (signed 32 x) (signed 32 y)) size)

  pub remainder_cast : cast_unsigned w32 (cast_signed w32 (cast_unsigned w32 (rem_z (cast_signed w32 x) (cast_signed w32 y)))) ≡ signed_remainder x y
  unfolding signed_remainder
  remainder_cast =
      let size : nat_abs (rem_z (signed 32 x) (signed 32 y)) ≤ 2 ^ 31 =
      rw (remainder_size (signed 32 x) (signed 32 y)) (omega (arith, mod-le (nat_abs (signed 32 x)) (nat_abs (signed 32 y)), signed_size x hx)) in
      rw (cast_reads x hx, cast_reads y hy) (cast_back (rem_z (signed 32 x) (signed 32 y)) size)

-- the divisor 0, which the code tests before
pub quotient_by_zero : (x : ℕ) → x < 2 ^ 32 → 0 ≡ signed_quotient x 0
unfolding signed_quotient word_of
quotient_by_zero x h =
    by_sign (λ z. 0 ≡ word_of (quot_z z (signed 32 0))) x h
    (λ l. rw (signed_low 0 (omega arith), div-zero) refl) (λ l. rw (signed_low 0 (omega arith), div-zero) refl)

pub remainder_by_zero : (x : ℕ) → x < 2 ^ 32 → x ≡ signed_remainder x 0
unfolding signed_remainder
remainder_by_zero x h =
    by_sign (λ z. word_of z ≡ x → x ≡ word_of (rem_z z (signed 32 0))) x h
    (λ l e. rw (signed_low 0 (omega arith), mod-zero) (sym e)) (λ l e. rw (signed_low 0 (omega arith), mod-zero) (sym e))
    (word_signed x h)

-- the dividend 0
pub quotient_of_zero : (y : ℕ) → y < 2 ^ 32 → signed_quotient 0 y ≡ 0
unfolding signed_quotient word_of
quotient_of_zero y h =
    by_sign (λ z. word_of (quot_z (signed 32 0) z) ≡ 0) y h
    (λ l. rw (signed_low 0 (omega arith), zero-div) refl) (λ l. rw (signed_low 0 (omega arith), zero-div) refl)

-- the factor 1 of an i32
pub times_one : (r : ℕ) (z : ℤ) → mag z < 2 ^ 31
    → r ≡ cast_unsigned w32 (cast_signed w32 (cast_unsigned w32 z * 1 % 2 ^ 32)) → r ≡ cast_unsigned w32 (cast_signed w32 (cast_unsigned w32 z))
times_one r z h e =
    let same : cast_unsigned w32 z * 1 % 2 ^ 32 ≡ cast_unsigned w32 z = omega (arith, ints) in
    e ∙ ap (λ (n : ℕ). cast_unsigned w32 (cast_signed w32 n)) same
