-- The signed and the unsigned product have the same low 32 bits (manual, 3.3.5 to 3.3.8).
use Rattle.std.proofs.Common.{◌≡◌, ℕ, zero, suc, ◌+◌, ◌-◌, ◌*◌, ◌%◌, ◌^◌, ◌<◌, ℤ, pos, ◌*ℤ◌, neg_ℤ, sym, refl, ◌∙◌, lt_of_le_of_lt, mod-eq_of_lt, add-mul, mul-le-mul, mul-add, arith}
use native.Mathlib.Nat.{mul-mod_left, mul-mod_right, le-pred_of_lt}
use Rattle.words.specs.Numbers.{truncate, word_of}
use Rattle.sums.specs.Sums.{signed_product, unsigned_product}
use Rattle.words.proofs.Integers.{by_signs, word_lt}

-- an integer below 0 and its opposite make 0 modulo 2 ^ 32
opposite : (q : ℕ) → (word_of (neg_ℤ (pos q)) + q) % 2 ^ 32 ≡ 0
unfolding word_of
opposite zero = refl
opposite (suc q) = omega arith

-- what makes 0 with the same number is the same
unique : (p q r : ℕ) → (p + q) % 2 ^ 32 ≡ 0 → (r + q) % 2 ^ 32 ≡ 0 → p % 2 ^ 32 ≡ r % 2 ^ 32
unique p q r h k = omega arith

-- a factor's opposite makes 0 with it
left : (a b y : ℕ) → a + b ≡ 2 ^ 32 → (a * y + b * y) % 2 ^ 32 ≡ 0
left a b y h = rw (← add-mul a b y, h) (mul-mod_right _ _)

right : (x a b : ℕ) → a + b ≡ 2 ^ 32 → (x * a + x * b) % 2 ^ 32 ≡ 0
right x a b h = rw (← mul-add x a b, h) (mul-mod_left _ _)

-- the word of a number below 0 is its own remainder
kept : (z : ℤ) → word_of z % 2 ^ 32 ≡ word_of z
kept z = mod-eq_of_lt (word_lt z)

pub products_agree : (x y : ℕ) → x < 2 ^ 32 → y < 2 ^ 32 → signed_product x y ≡ unsigned_product x y
unfolding signed_product unsigned_product truncate word_of
products_agree x y hx hy =
    let a : ℕ = suc (4294967295 - x) in
    let b : ℕ = suc (4294967295 - y) in
    by_signs (λ u v. word_of (u *ℤ v) ≡ x * y % 2 ^ 32) x y hx hy (λ lx ly. refl)
    (λ lx ly. sym (kept (neg_ℤ (pos (x * b)))) ∙ unique _ (x * b) (x * y) (opposite (x * b)) (right x y b (omega arith)))
    (λ lx ly. sym (kept (neg_ℤ (pos (a * y)))) ∙ unique _ (a * y) (x * y) (opposite (a * y)) (left x a y (omega arith)))
    (λ lx ly. unique (a * b) (a * y) (x * y) (right a b y (omega arith)) (left x a y (omega arith)))

-- the whole product fits 64 bits
pub product_fits : (x y : ℕ) → x < 2 ^ 32 → y < 2 ^ 32 → x * y < 2 ^ 64
product_fits x y hx hy = lt_of_le_of_lt (mul-le-mul (le-pred_of_lt hx) (le-pred_of_lt hy)) (omega arith)
