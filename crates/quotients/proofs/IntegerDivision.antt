-- The quotient and remainder of integers that the definitions use are what their names say: dividend = quotient * divisor + remainder,
-- and the remainder is smaller in size than the divisor and has the dividend's sign.
use Rattle.std.proofs.Common.{◌≡◌, ℕ, zero, suc, ◌*◌, ◌/◌, ◌%◌, ◌<◌, ℤ, pos, negsuc, ◌+ℤ◌, ◌*ℤ◌, neg_ℤ, nat_abs, sym, refl, ap, ◌∙◌, mod-lt, div-add-mod', zero-mul}
use lib.IntN.{neg_ℤ-+ℤ}
use lib.Signed.{quot_z, rem_z}

opposite_times_pos : (q b : ℕ) → neg_ℤ (pos q) *ℤ pos b ≡ neg_ℤ (pos (q * b))
opposite_times_pos zero b = ap pos (zero-mul b) ∙ ap (λ (n : ℕ). neg_ℤ (pos n)) (sym (zero-mul b))
opposite_times_pos (suc q) b = refl

opposite_times_negative : (q b : ℕ) → neg_ℤ (pos q) *ℤ negsuc b ≡ pos (q * suc b)
opposite_times_negative zero b = ap (λ (n : ℕ). neg_ℤ (pos n)) (zero-mul (suc b)) ∙ ap pos (sym (zero-mul (suc b)))
opposite_times_negative (suc q) b = refl

-- n is n / b parts of size b and a rest; the same for -n
whole : (n b : ℕ) → pos n ≡ pos (n / b * b) +ℤ pos (n % b)
whole n b = ap pos (sym (div-add-mod' n b))

whole_below : (n b : ℕ) → neg_ℤ (pos n) ≡ neg_ℤ (pos (n / b * b)) +ℤ neg_ℤ (pos (n % b))
whole_below n b = ap neg_ℤ (whole n b) ∙ neg_ℤ-+ℤ (pos (n / b * b)) (pos (n % b))

pub quotient_and_remainder : (z d : ℤ) → z ≡ quot_z z d *ℤ d +ℤ rem_z z d
quotient_and_remainder (pos a) (pos b) = whole a b
quotient_and_remainder (pos a) (negsuc b) =
    whole a (suc b) ∙ ap (λ (k : ℤ). k +ℤ pos (a % suc b)) (sym (opposite_times_negative (a / suc b) b))
quotient_and_remainder (negsuc a) (pos b) =
    whole_below (suc a) b ∙ ap (λ (k : ℤ). k +ℤ neg_ℤ (pos (suc a % b))) (sym (opposite_times_pos (suc a / b) b))
quotient_and_remainder (negsuc a) (negsuc b) = whole_below (suc a) (suc b)

pub size_of_opposite : (n : ℕ) → nat_abs (neg_ℤ (pos n)) ≡ n
size_of_opposite zero = refl
size_of_opposite (suc n) = refl

pub remainder_smaller : (z d : ℤ) → 0 < nat_abs d → nat_abs (rem_z z d) < nat_abs d
remainder_smaller (pos a) d h = mod-lt a h
remainder_smaller (negsuc a) d h = rw (size_of_opposite (suc a % nat_abs d)) (mod-lt (suc a) h)

-- the sign: no remainder of a natural number is below 0, and none of a negative one above
pub remainder_of_a_natural : (a : ℕ) (d : ℤ) → rem_z (pos a) d ≡ pos (nat_abs (rem_z (pos a) d))
remainder_of_a_natural a d = refl

pub remainder_of_a_negative : (a : ℕ) (d : ℤ) → rem_z (negsuc a) d ≡ neg_ℤ (pos (nat_abs (rem_z (negsuc a) d)))
remainder_of_a_negative a d = ap (λ (n : ℕ). neg_ℤ (pos n)) (sym (size_of_opposite (suc a % nat_abs d)))
