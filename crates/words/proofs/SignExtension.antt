-- Sign extension at any width up to 32: the code's two sums give it, and it keeps the signed reading (manual, 2.1).
use Rattle.std.proofs.Common.{◌≡◌, ℕ, zero, suc, ◌+◌, ◌-◌, ◌*◌, ◌%◌, ◌^◌, ◌<◌, ◌≤◌, pos, negsuc, sym, ap, ◌∙◌, add-zero, mod-lt, mod-eq_of_lt, one-mul, zero-add, zero-mul, arith, pow_pos, pow_mono, pow-add}
use native.Mathlib.Nat.{add-mod_right, sub-zero}
use lib.IntN.{sub_ℕ}
use lib.Pow.{mod-pow-add, pow-lt}
use Rattle.words.specs.Numbers.{bit, sign_extend, signed}
use Rattle.words.proofs.Cases.{below_or_not, bit_lt}
use Rattle.words.proofs.Integers.{signed_low, signed_high, sub_pos, sub_neg}

-- what two numbers below the modulus come to, and one that is the modulus more
mod_below : (a m : ℕ) → a < m → a % m ≡ a
mod_below a m h = mod-eq_of_lt h

mod_once : (a m : ℕ) → a < m → (a + m) % m ≡ a
mod_once a m h = add-mod_right a m ∙ mod-eq_of_lt h

-- a sum of two numbers below the modulus, where its remainder is known
sum_is : (r h F s : ℕ) → r < F → h < F → (r + h) % F ≡ s → (r + h < F → r + h ≡ s) × (F ≤ r + h → r + h ≡ s + F)
sum_is r h F s hr hh e = (
  λ k. sym (mod_below (r + h) F k) ∙ e,
  λ k.
      let back : r + h - F + F ≡ r + h = omega arith in
      let low : r + h - F ≡ s = sym (mod_once (r + h - F) F (omega arith)) ∙ ap (λ (t : ℕ). t % F) back ∙ e in
      omega arith,
)

-- over plain numbers: half the width's power h, the bits below the top one l, and 2 ^ 32 for F; the top bit clear, then set
clear : (h l F r : ℕ) → l < h → 2 * h ≤ F → r < F → (r + h) % F ≡ (l + h) % (2 * h) → r ≡ l
clear h l F r hl hF hr e =
    let known = sum_is r h F (l + h) hr (omega arith) (e ∙ mod_below (l + h) (2 * h) (omega arith)) in
    below_or_not (r + h) F (λ k. omega (arith, known.0 k)) (λ k. omega (arith, known.1 k))

set : (h l F r : ℕ) → l < h → 2 * h ≤ F → r < F → (r + h) % F ≡ (h + l + h) % (2 * h) → r ≡ h + l + (F - 2 * h)
set h l F r hl hF hr e =
    let whole : h + l + h ≡ l + 2 * h = omega arith in
    let known = sum_is r h F l hr (omega arith) (e ∙ ap (λ (t : ℕ). t % (2 * h)) whole ∙ mod_once l (2 * h) (omega arith)) in
    below_or_not (r + h) F (λ k. omega (arith, known.0 k)) (λ k. omega (arith, known.1 k))

one_more : (w : ℕ) → suc w ≡ 1 + w
one_more w = omega arith

twice : (w : ℕ) → 2 ^ suc w ≡ 2 * 2 ^ w
twice w = ap (λ (k : ℕ). 2 ^ k) (one_more w) ∙ pow-add 2 1 w

half : (w : ℕ) → w < 32 → 2 * 2 ^ w ≤ 2 ^ 32
half w h = rw (← twice w) (pow_mono h)

under : (w : ℕ) → suc w - 1 ≡ w
under w = omega arith

module _ (w n : ℕ) where
  -- the low w + 1 bits by the top one
  split : n % 2 ^ suc w ≡ bit w n * 2 ^ w + n % 2 ^ w
  unfolding bit
  split = ap (λ (k : ℕ). n % 2 ^ k) (one_more w) ∙ mod-pow-add n 1 w

  extended : sign_extend (suc w) n ≡ bit w n * 2 ^ w + n % 2 ^ w + bit w n * (2 ^ 32 - 2 * 2 ^ w)
  unfolding sign_extend
  extended = rw (split, under w, twice w)

  read : signed (suc w) n ≡ sub_ℕ (n % 2 ^ w) (bit w n * 2 ^ w)
  unfolding signed
  read = rw (under w)

  rest_lt : n % 2 ^ w < 2 ^ w
  rest_lt = mod-lt n (pow_pos w)

-- by the top bit
by_top {ℓ} : (P : ℕ → Type ℓ) (b : ℕ) → b < 2 → P 0 → P 1 → P b
by_top P zero h f g = f
by_top P (suc zero) h f g = g
by_top P (suc (suc b)) h f g = absurd (omega arith)

-- the signed reading of the extended bits, over plain numbers, with the top bit clear and with it set
reads_clear : (h l : ℕ) → l < h → 2 * h ≤ 2 ^ 32 → signed 32 l ≡ sub_ℕ l 0
reads_clear h l hl hh = signed_low l (omega arith) ∙ sym (sub_pos l 0 (omega arith) ∙ ap pos (sub-zero l))

reads_set : (h l : ℕ) → l < h → 2 * h ≤ 2 ^ 32 → signed 32 (h + l + (4294967296 - 2 * h)) ≡ sub_ℕ l h
reads_set h l hl hh =
    let less : 4294967295 - (h + l + (4294967296 - 2 * h)) ≡ h - suc l = omega arith in
    signed_high (h + l + (4294967296 - 2 * h)) (omega arith) (omega arith) ∙ ap negsuc less ∙ sym (sub_neg l h hl)

-- 2 ^ w is added modulo 2 ^ (w + 1), and taken off modulo 2 ^ 32
pub sign_extends : (w n r : ℕ) → w < 32 → r < 2 ^ 32 → (r + 2 ^ w) % 2 ^ 32 ≡ (n % 2 ^ suc w + 2 ^ w) % 2 ^ suc w
    → r ≡ sign_extend (suc w) n
sign_extends w n r hw hr e =
    by_top
    (λ b. (r + 2 ^ w) % 2 ^ 32 ≡ (b * 2 ^ w + n % 2 ^ w + 2 ^ w) % (2 * 2 ^ w)
    → r ≡ b * 2 ^ w + n % 2 ^ w + b * (2 ^ 32 - 2 * 2 ^ w))
    (bit w n)
    (bit_lt w n)
    (λ f. simp (zero-mul, zero-add, add-zero)
    (clear (2 ^ w) (n % 2 ^ w) (2 ^ 32) r (rest_lt w n) (half w hw) hr (simp (zero-mul, zero-add) at f)))
    (λ f. simp one-mul (set (2 ^ w) (n % 2 ^ w) (2 ^ 32) r (rest_lt w n) (half w hw) hr (simp one-mul at f)))
    (rw (split w n, twice w) at e)
    ∙ sym (extended w n)

-- a number taken off modulo 2 ^ 32 and added again
back : (x h : ℕ) → x < 2 ^ 32 → h ≤ 2 ^ 32 → ((x + (2 ^ 32 - h)) % 2 ^ 32 + h) % 2 ^ 32 ≡ x
back x h hx hh = omega arith

-- a power of 2 that is a word, as the code's shift makes it
pub shifted : (w : ℕ) → w < 32 → 1 * 2 ^ w % 2 ^ 32 ≡ 2 ^ w
shifted w h = rw one-mul (mod-eq_of_lt (pow-lt h))

-- the code's sums
pub code_extends : (w n : ℕ) → 1 ≤ w → w < 32
    → ((n % (1 * 2 ^ w % 2 ^ 32) + 1 * 2 ^ (w - 1) % 2 ^ 32) % (1 * 2 ^ w % 2 ^ 32) + (2 ^ 32 - 1 * 2 ^ (w - 1) % 2 ^ 32)) % 2 ^ 32 ≡ sign_extend w n
code_extends zero n h k = elim h [ ]
code_extends (suc w) n h k =
    let x : ℕ = (n % 2 ^ suc w + 2 ^ w) % 2 ^ suc w in
    let bound : 2 ^ suc w ≤ 2 ^ 32 = pow_mono {i = suc w} {j = 32} (omega arith) in
    let low : 2 ^ w ≤ 2 ^ 32 = pow_mono {i = w} {j = 32} (omega arith) in
    let xlt : x < 2 ^ suc w = mod-lt (n % 2 ^ suc w + 2 ^ w) (pow_pos (suc w)) in
    rw (under w, shifted (suc w) k, shifted w (omega arith))
    (sign_extends w n ((x + (2 ^ 32 - 2 ^ w)) % 2 ^ 32) (omega arith) (omega arith) (back x (2 ^ w) (omega arith) low))

-- the extended bits have the signed reading of those that were extended
pub keeps_signed : (w n : ℕ) → w < 32 → signed 32 (sign_extend (suc w) n) ≡ signed (suc w) n
keeps_signed w n hw =
    rw (extended w n, read w n)
    (by_top
    (λ b. signed 32 (b * 2 ^ w + n % 2 ^ w + b * (2 ^ 32 - 2 * 2 ^ w)) ≡ sub_ℕ (n % 2 ^ w) (b * 2 ^ w))
    (bit w n)
    (bit_lt w n)
    (simp (zero-mul, zero-add, add-zero) (reads_clear (2 ^ w) (n % 2 ^ w) (rest_lt w n) (half w hw)))
    (simp one-mul (reads_set (2 ^ w) (n % 2 ^ w) (rest_lt w n) (half w hw))))
