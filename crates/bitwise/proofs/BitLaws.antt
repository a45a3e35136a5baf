-- AND, OR, XOR and XNOR bit by bit, as the manual writes them (3.3.17 to 3.3.24): AND is min, OR is max, XOR the sum modulo 2, NOT 1 - b.
use mathlib.Core.Path.{◌≡◌, refl, ap, ap₂, sym, ◌∙◌}
use Prim.Native.Nat.{ℕ, zero, suc, ◌+◌, ◌*◌, ◌-◌, ◌/◌, ◌%◌, ◌^◌, ◌<◌, min, max}
use native.Mathlib.Nat.{add-mul, one-mul, mod-lt, div-lt_iff_lt-mul}
use native.Mathlib.Omega.{arith}
use lib.Pow.{pow-add, pow_pos, high, split}
use lib.Bits.{differ, and_shr, or_shr, xor_shr, and_step, or_step, xor_step, xor_lt}
use Rattle.words.specs.Numbers.{bit}
use Rattle.bitwise.specs.Bitwise.{and, or, xor, xnor}

differ_is : (p q : ℕ) → p < 2 → q < 2 → differ p q ≡ (p + q) % 2
differ_is zero q h k = omega arith
differ_is (suc zero) zero h k = refl
differ_is (suc zero) (suc zero) h k = refl
differ_is (suc zero) (suc (suc q)) h k = absurd (omega arith)
differ_is (suc (suc p)) q h k = absurd (omega arith)

low_bit : (a p q : ℕ) → p < 2 → q < 2 → (a * 2 + differ p q) % 2 ≡ (p + q) % 2
low_bit a p q h k = rw (differ_is p q h k) (omega arith)

module _ (i x y : ℕ) where
  pub and_bit : bit i (and x y) ≡ min (bit i x) (bit i y)
  unfolding bit and
  and_bit = rw (and_shr x y i, and_step (x / 2 ^ i) (y / 2 ^ i)) (omega arith)

  pub or_bit : bit i (or x y) ≡ max (bit i x) (bit i y)
  unfolding bit or
  or_bit = rw (or_shr x y i, or_step (x / 2 ^ i) (y / 2 ^ i)) (omega arith)

  pub xor_bit : bit i (xor x y) ≡ (bit i x + bit i y) % 2
  unfolding bit xor
  xor_bit = rw (xor_shr x y i, xor_step (x / 2 ^ i) (y / 2 ^ i)) (low_bit _ _ _ (omega arith) (omega arith))

-- ---- the complement

power_split : (i : ℕ) → i < 32 → 2 * 2 ^ (31 - i) * 2 ^ i ≡ 2 ^ 32
power_split i h =
    let twice : 2 ^ (1 + (31 - i)) ≡ 2 * 2 ^ (31 - i) = pow-add 2 1 (31 - i) in
    let all : 1 + (31 - i) + i ≡ 32 = omega arith in
    ap (λ (n : ℕ). n * 2 ^ i) (sym twice) ∙ sym (pow-add 2 (1 + (31 - i)) i) ∙ ap (λ (n : ℕ). 2 ^ n) all

-- over plain numbers: K blocks of p, and block h with its part l
complement : (K p h l n F : ℕ) → K * p ≡ F → h * p + l ≡ n → l < p → h < K → F - 1 - n ≡ (K - 1 - h) * p + (p - 1 - l)
complement K p h l n F e parts hl hh =
    let d : ℕ = K - 1 - h in
    let count : K ≡ d + h + 1 = omega arith in
    let blocks : K * p ≡ d * p + h * p + p = ap (λ (m : ℕ). m * p) count ∙ spread d h p in
    omega arith
  where
    spread : (a b c : ℕ) → (a + b + 1) * c ≡ a * c + b * c + c
    spread a b c = add-mul (a + b) 1 c ∙ ap₂ (λ (m n : ℕ). m + n) (add-mul a b c) (one-mul c)

-- a bit of the complement of a word
pub complement_bit : (i n : ℕ) → i < 32 → n < 2 ^ 32 → bit i (4294967295 - n) ≡ 1 - bit i n
unfolding bit
complement_bit i n hi hn =
    let p : ℕ = 2 ^ i in
    let k : ℕ = 2 ^ (31 - i) in
    let rest : n % p < p = mod-lt n (pow_pos i) in
    let fits : n / p < 2 * k = (div-lt_iff_lt-mul (pow_pos i)).1 (rw (power_split i hi) hn) in
    let parts : 4294967295 - n ≡ (2 * k - 1 - n / p) * p + (p - 1 - n % p) =
    complement (2 * k) p (n / p) (n % p) n 4294967296 (power_split i hi) (split n i) rest fits in
    ap (λ (m : ℕ). m / p % 2) parts ∙ ap (λ (m : ℕ). m % 2) (high (2 * k - 1 - n / p) i (omega arith)) ∙ omega arith

pub xnor_bit : (i x y : ℕ) → i < 32 → x < 2 ^ 32 → y < 2 ^ 32 → bit i (xnor x y) ≡ 1 - (bit i x + bit i y) % 2
unfolding xnor xor
xnor_bit i x y hi hx hy =
    complement_bit i (xor x y) hi (xor_lt 32 x y hx hy) ∙ ap (λ (b : ℕ). 1 - b) (xor_bit i x y)
