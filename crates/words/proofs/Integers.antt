-- The signed reading of a word and the word of an integer (specs/Numbers) are two's complement: what each is, and that they are inverse.
use Rattle.std.proofs.Common.{◌≡◌, ℕ, suc, ◌-◌, ◌*◌, ◌/◌, ◌%◌, ◌^◌, ◌<◌, ◌≤◌, ℤ, pos, negsuc, ap, sym, ◌∙◌, nat_abs, arith, le-ltb, lt-ltb}
use Rattle.std.proofs.lemmas.Int.{of_z-to_z}
use Rattle.std.specs.Int.{w32, cast_signed, cast_unsigned}
use lib.IntN.{sub_ℕ}
use Rattle.words.proofs.Cases.{below_or_not}
use Rattle.words.specs.Numbers.{bit, signed, word_of}

pub sub_pos : (a b : ℕ) → b ≤ a → sub_ℕ a b ≡ pos (a - b)
sub_pos a b h = simp (le-ltb a b h)

pub sub_neg : (a b : ℕ) → a < b → sub_ℕ a b ≡ negsuc (b - suc a)
sub_neg a b h = simp (lt-ltb a b h)

-- a word below 80000000 is itself
pub signed_low : (n : ℕ) → n < 2 ^ 31 → signed 32 n ≡ pos n
unfolding signed bit
signed_low n h =
    let low : n % 2147483648 - n / 2147483648 % 2 * 2147483648 ≡ n = omega arith in
    sub_pos (n % 2147483648) (n / 2147483648 % 2 * 2147483648) (omega arith) ∙ ap pos low

-- any other is its distance from 2 ^ 32, below 0
pub signed_high : (n : ℕ) → 2 ^ 31 ≤ n → n < 2 ^ 32 → signed 32 n ≡ negsuc (4294967295 - n)
unfolding signed bit
signed_high n h k =
    let high : n / 2147483648 % 2 * 2147483648 - suc (n % 2147483648) ≡ 4294967295 - n = omega arith in
    sub_neg (n % 2147483648) (n / 2147483648 % 2 * 2147483648) (omega arith) ∙ ap negsuc high

pub word_pos : (n : ℕ) → n < 2 ^ 32 → word_of (pos n) ≡ n
unfolding word_of
word_pos n h = omega arith

pub word_negsuc : (n : ℕ) → n < 2 ^ 32 → word_of (negsuc n) ≡ 4294967295 - n
unfolding word_of
word_negsuc n h = omega arith

pub word_lt : (z : ℤ) → word_of z < 2 ^ 32
unfolding word_of
word_lt (pos n) = omega arith
word_lt (negsuc n) = omega arith

-- by the sign of a word's signed reading
pub by_sign {ℓ} : (P : ℤ → Type ℓ) (n : ℕ) → n < 2 ^ 32
    → (n < 2 ^ 31 → P (pos n)) → (2 ^ 31 ≤ n → P (negsuc (4294967295 - n))) → P (signed 32 n)
by_sign P n h low high =
    below_or_not n (2 ^ 31) (λ l. rw (signed_low n l) (low l)) (λ l. rw (signed_high n l h) (high l))

-- by the signs of two
pub by_signs {ℓ} : (P : ℤ → ℤ → Type ℓ) (x y : ℕ) → x < 2 ^ 32 → y < 2 ^ 32
    → (x < 2 ^ 31 → y < 2 ^ 31 → P (pos x) (pos y)) → (x < 2 ^ 31 → 2 ^ 31 ≤ y → P (pos x) (negsuc (4294967295 - y)))
    → (2 ^ 31 ≤ x → y < 2 ^ 31 → P (negsuc (4294967295 - x)) (pos y)) → (2 ^ 31 ≤ x → 2 ^ 31 ≤ y → P (negsuc (4294967295 - x)) (negsuc (4294967295 - y)))
    → P (signed 32 x) (signed 32 y)
by_signs P x y hx hy pp pn np nn =
    by_sign (λ u. P u (signed 32 y)) x hx
    (λ lx. by_sign (P (pos x)) y hy (pp lx) (pn lx)) (λ lx. by_sign (P (negsuc (4294967295 - x))) y hy (np lx) (nn lx))

-- the word of the signed reading is the word
pub word_signed : (n : ℕ) → n < 2 ^ 32 → word_of (signed 32 n) ≡ n
word_signed n h = by_sign (λ z. word_of z ≡ n) n h (λ l. word_pos n h) (λ l. word_negsuc _ (omega arith) ∙ omega arith)

-- and the signed reading of the word of an integer in the signed range is the integer
pub signed_word_natural : (n : ℕ) → n < 2 ^ 31 → signed 32 (word_of (pos n)) ≡ pos n
signed_word_natural n h = ap (signed 32) (word_pos n (omega arith)) ∙ signed_low n h

pub signed_word_negative : (n : ℕ) → n < 2 ^ 31 → signed 32 (word_of (negsuc n)) ≡ negsuc n
signed_word_negative n h =
    let back : 4294967295 - (4294967295 - n) ≡ n = omega arith in
    ap (signed 32) (word_negsuc n (omega arith)) ∙ signed_high (4294967295 - n) (omega arith) (omega arith) ∙ ap negsuc back

-- ---- the casts between u32 and i32

pub cast_reads : (n : ℕ) → n < 2 ^ 32 → cast_signed w32 n ≡ signed 32 n
cast_reads n h =
    by_sign (λ z. cast_signed w32 n ≡ z) n h
    (λ l. simp (lt-ltb n 2147483648 l))
    (λ l. simp (le-ltb n 2147483648 l) (ap negsuc (let same : 4294967296 - suc n ≡ 4294967295 - n = omega arith in same)))

-- of an integer in the signed range
pub cast_pos : (n : ℕ) → n < 2 ^ 31 → cast_unsigned w32 (pos n) ≡ word_of (pos n)
cast_pos n h = sym (word_pos n (omega arith))

pub cast_negsuc : (n : ℕ) → n < 2 ^ 31 → cast_unsigned w32 (negsuc n) ≡ word_of (negsuc n)
cast_negsuc n h = let same : 4294967296 - suc n ≡ 4294967295 - n = omega arith in same ∙ sym (word_negsuc n (omega arith))

-- the bits of an integer of the signed range, or of 2 ^ 31, are its word
pub cast_back : (z : ℤ) → nat_abs z ≤ 2 ^ 31 → cast_unsigned w32 (cast_signed w32 (cast_unsigned w32 z)) ≡ word_of z
cast_back (pos n) h = of_z-to_z w32 n (omega arith) ∙ sym (word_pos n (omega arith))
cast_back (negsuc n) h = of_z-to_z w32 (4294967296 - suc n) (omega arith) ∙ cast_negsuc n (omega arith)

-- the size of a signed reading
pub signed_size : (n : ℕ) → n < 2 ^ 32 → nat_abs (signed 32 n) ≤ 2 ^ 31
signed_size n h = by_sign (λ z. nat_abs z ≤ 2147483648) n h (λ l. omega arith) (λ l. omega arith)
