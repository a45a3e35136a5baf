-- The shifts bit by bit, as the manual writes them (3.3.25 to 3.3.30), by a count s below 32.
use mathlib.Core.Path.{◌≡◌, ap, sym, ◌∙◌}
use Prim.Native.Nat.{ℕ, suc, ◌+◌, ◌*◌, ◌-◌, ◌/◌, ◌%◌, ◌^◌, ◌≤◌, ◌<◌}
use native.Mathlib.Nat.{add_comm, mul_assoc, mul-mod_left, div-le_self, div-eq_of_lt, lt_of_lt_of_le}
use native.Mathlib.Omega.{arith}
use lib.Pow.{pow-add, pow_mono, shr-shr, shl-shr, field, mod-mod-pow}
use Rattle.words.specs.Numbers.{bit}
use Rattle.words.proofs.Cases.{below_or_not, bit_lt}
use Rattle.bitwise.proofs.BitLaws.{complement_bit}
use Rattle.shifts.specs.Shifts.{shift_left, shift_right, shift_arithmetic}
use Rattle.shifts.proofs.ShiftLaws.{arithmetic_low, arithmetic_high}

-- the low 32 bits of a number have its bits
truncated_bit : (i n : ℕ) → i < 32 → bit i (n % 2 ^ 32) ≡ bit i n
unfolding bit
truncated_bit i n h =
    let sizes : 31 - i + 1 + i ≡ 32 = omega arith in
    ap (λ (k : ℕ). n % 2 ^ k / 2 ^ i % 2) (sym sizes)
    ∙ ap (λ (m : ℕ). m % 2) (field n (31 - i + 1) i)
    ∙ mod-mod-pow (n / 2 ^ i) (31 - i) 1

-- to the left: bit i - s, and 0 below s
left_bit : (i s x : ℕ) → s ≤ i → bit i (x * 2 ^ s) ≡ bit (i - s) x
unfolding bit
left_bit i s x h =
    let sum : s + (i - s) ≡ i = omega arith in
    ap (λ (k : ℕ). x * 2 ^ s / 2 ^ k % 2) (sym sum)
    ∙ ap (λ (m : ℕ). m % 2) (sym (shr-shr (x * 2 ^ s) s (i - s)) ∙ ap (λ (m : ℕ). m / 2 ^ (i - s)) (shl-shr x s))

left_zero : (i s x : ℕ) → i < s → bit i (x * 2 ^ s) ≡ 0
unfolding bit
left_zero i s x h =
    let sum : s - suc i + 1 + i ≡ s = omega arith in
    let even : x * 2 ^ s ≡ x * 2 ^ (s - suc i) * 2 * 2 ^ i =
    ap (λ (k : ℕ). x * 2 ^ k) (sym sum)
    ∙ ap (λ (m : ℕ). x * m) (pow-add 2 (s - suc i + 1) i ∙ ap (λ (m : ℕ). m * 2 ^ i) (pow-add 2 (s - suc i) 1))
    ∙ sym (mul_assoc x (2 ^ (s - suc i) * 2) (2 ^ i)) ∙ ap (λ (m : ℕ). m * 2 ^ i) (sym (mul_assoc x (2 ^ (s - suc i)) 2)) in
    ap (λ (m : ℕ). m / 2 ^ i % 2) even ∙ ap (λ (m : ℕ). m % 2) (shl-shr (x * 2 ^ (s - suc i) * 2) i) ∙ mul-mod_left _ 2

module _ (i x y : ℕ) (hi : i < 32) where
  pub shift_left_bit : y % 32 ≤ i → bit i (shift_left x y) ≡ bit (i - y % 32) x
  unfolding shift_left
  shift_left_bit h = truncated_bit i (x * 2 ^ (y % 32)) hi ∙ left_bit i (y % 32) x h

  pub shift_left_zero : i < y % 32 → bit i (shift_left x y) ≡ 0
  unfolding shift_left
  shift_left_zero h = truncated_bit i (x * 2 ^ (y % 32)) hi ∙ left_zero i (y % 32) x h

-- to the right: bit i + s
right_bit : (i s x : ℕ) → bit i (x / 2 ^ s) ≡ bit (i + s) x
unfolding bit
right_bit i s x = ap (λ (m : ℕ). m % 2) (shr-shr x s i) ∙ ap (λ (k : ℕ). x / 2 ^ k % 2) (add_comm s i)

-- no word has a bit from 32 up
no_bit : (j x : ℕ) → 32 ≤ j → x < 2 ^ 32 → bit j x ≡ 0
unfolding bit
no_bit j x h hx = ap (λ (m : ℕ). m % 2) (div-eq_of_lt (lt_of_lt_of_le hx (pow_mono h)))

pub shift_right_bit : (i x y : ℕ) → bit i (shift_right x y) ≡ bit (i + y % 32) x
unfolding shift_right
shift_right_bit i x y = right_bit i (y % 32) x

pub shift_right_zero : (i x y : ℕ) → x < 2 ^ 32 → 32 ≤ i + y % 32 → bit i (shift_right x y) ≡ 0
shift_right_zero i x y hx h = shift_right_bit i x y ∙ no_bit (i + y % 32) x h hx

-- the sign bit
sign_clear : (x : ℕ) → x < 2 ^ 31 → bit 31 x ≡ 0
unfolding bit
sign_clear x h = omega arith

sign_set : (x : ℕ) → 2 ^ 31 ≤ x → x < 2 ^ 32 → bit 31 x ≡ 1
unfolding bit
sign_set x h k = omega arith

module _ (i x y : ℕ) (hi : i < 32) (hx : x < 2 ^ 32) where
  -- of a word with its sign set, by the complement that the code shifts
  arithmetic_set : 2 ^ 31 ≤ x → bit i (shift_arithmetic x y) ≡ 1 - bit (i + y % 32) (4294967295 - x)
  arithmetic_set l =
      ap (bit i) (arithmetic_high x y l hx)
      ∙ complement_bit i _ hi (omega (arith, div-le_self (4294967295 - x) (2 ^ (y % 32))))
      ∙ ap (λ (b : ℕ). 1 - b) (right_bit i (y % 32) (4294967295 - x))

  pub shift_arithmetic_bit : i + y % 32 < 32 → bit i (shift_arithmetic x y) ≡ bit (i + y % 32) x
  shift_arithmetic_bit h =
      below_or_not x (2 ^ 31)
      (λ l. ap (bit i) (arithmetic_low x y l) ∙ right_bit i (y % 32) x)
      (λ l. arithmetic_set l
      ∙ ap (λ (b : ℕ). 1 - b) (complement_bit (i + y % 32) x h hx)
      ∙ omega (arith, bit_lt (i + y % 32) x))

  pub shift_arithmetic_sign : 32 ≤ i + y % 32 → bit i (shift_arithmetic x y) ≡ bit 31 x
  shift_arithmetic_sign h =
      below_or_not x (2 ^ 31)
      (λ l. ap (bit i) (arithmetic_low x y l) ∙ right_bit i (y % 32) x ∙ no_bit (i + y % 32) x h hx ∙ sym (sign_clear x l))
      (λ l. arithmetic_set l
      ∙ ap (λ (b : ℕ). 1 - b) (no_bit (i + y % 32) (4294967295 - x) h (omega arith))
      ∙ sym (sign_set x l hx))
