-- The laws of big-endian reading and writing, over the width.
use mathlib.Core.Path.{◌≡◌, refl, ap, sym, ◌∙◌}
use mathlib.Core.List.{List}
use mathlib.Core.Bool.{Bool, true, false}
use Prim.Native.Nat.{ℕ, zero, suc, ◌+◌, ◌-◌, ◌*◌, ◌/◌, ◌%◌, ◌^◌, ◌≤◌, ◌<◌}
use native.Mathlib.Nat.{mod-eq_of_lt, add-zero, mul_assoc, div-add-mod', mod-lt, mul-add-mod_self_right, pow-suc}
use native.Mathlib.Omega.{arith}
use lib.ListN.{length, get_or, set, take, drop, length-set}
use lib.Seq.{get_or-set_same, get_or-set_other, set-get_or, set_out}
use native.Mathlib.Numerals.{add-one}
use Rattle.std.proofs.lemmas.Grind.{common_steps}
use lib.Dec.{eqb}
use borrow.Author.Tests.{eqb-true, eqb-false}
use Rattle.endian.specs.BigEndian.{read_at, write_at}
use Rattle.words.proofs.Cases.{below_or_not}

-- a write keeps the length
pub length_write : (w : ℕ) (s : List ℕ) (at v : ℕ) → length (write_at w s at v) ≡ length s
unfolding write_at
length_write zero s at v = refl
length_write (suc w) s at v = length_write w (set s (at + w) (v % 256)) at (v / 256) ∙ length-set s (at + w) (v % 256)

-- a write leaves every other byte
pub write_other : (w : ℕ) (s : List ℕ) (at v j : ℕ) → ((i : ℕ) → i < w → j ≡ at + i → ⊥)
    → get_or (write_at w s at v) j 0 ≡ get_or s j 0
unfolding write_at
write_other zero s at v j h = refl
write_other (suc w) s at v j h =
    write_other w (set s (at + w) (v % 256)) at (v / 256) j (λ i k. h i (omega arith))
    ∙ get_or-set_other s (at + w) j (v % 256) 0 (h w (omega arith))

-- a read depends on its own bytes alone
pub read_same : (w : ℕ) (s t : List ℕ) (at : ℕ) → ((i : ℕ) → i < w → get_or s (at + i) 0 ≡ get_or t (at + i) 0)
    → read_at w s at ≡ read_at w t at
unfolding read_at
read_same zero s t at h = refl
read_same (suc w) s t at h =
    let front : read_at w s at ≡ read_at w t at = read_same w s t at (λ i k. h i (omega arith)) in
    let last : get_or s (at + w) 0 ≡ get_or t (at + w) 0 = h w (omega arith) in
    omega arith

power_pos : (w : ℕ) → 0 < 256 ^ w
power_pos zero = omega arith
power_pos (suc w) = rw (pow-suc 256 w) (omega (arith, power_pos w))

-- the low w + 1 bytes of a number by its lowest byte
one_more_byte : (w v : ℕ) → v % 256 ^ suc w ≡ v / 256 % 256 ^ w * 256 + v % 256
one_more_byte w v =
    let m : ℕ = 256 ^ w in
    let c : ℕ = v / 256 % m * 256 + v % 256 in
    let rest : v / 256 % m < m = mod-lt (v / 256) (power_pos w) in
    let parts : v / 256 / m * m + v / 256 % m ≡ v / 256 = div-add-mod' (v / 256) m in
    let regroup : v / 256 / m * m * 256 ≡ v / 256 / m * (m * 256) = mul_assoc (v / 256 / m) m 256 in
    let whole : v ≡ v / 256 / m * (m * 256) + c = omega arith in
    let small : c < m * 256 = omega arith in
    rw (pow-suc 256 w)
    (ap (λ (n : ℕ). n % (m * 256)) whole ∙ mul-add-mod_self_right (v / 256 / m) (m * 256) c ∙ mod-eq_of_lt small)

-- what is read is the low bytes of what was written there
pub read_write : (w : ℕ) (s : List ℕ) (at v : ℕ) → at + w ≤ length s → read_at w (write_at w s at v) at ≡ v % 256 ^ w
unfolding read_at write_at
read_write zero s at v h = omega arith
read_write (suc w) s at v h =
    let t : List ℕ = set s (at + w) (v % 256) in
    let front : read_at w (write_at w t at (v / 256)) at ≡ v / 256 % 256 ^ w =
    read_write w t at (v / 256) (omega (arith, length-set s (at + w) (v % 256))) in
    let last : get_or (write_at w t at (v / 256)) (at + w) 0 ≡ v % 256 =
    write_other w t at (v / 256) (at + w) (λ i k e. omega arith) ∙ get_or-set_same s (at + w) (v % 256) 0 (omega arith) in
    rw (front, last) (sym (one_more_byte w v))

-- what is read fits its width, in a list of bytes
pub read_lt : (w : ℕ) (s : List ℕ) (at : ℕ) → ((j : ℕ) → get_or s j 0 < 256) → read_at w s at < 256 ^ w
unfolding read_at
read_lt zero s at h = omega arith
read_lt (suc w) s at h = rw (pow-suc 256 w) (omega (arith, read_lt w s at h, h (at + w)))

-- to write back what was read changes nothing, in a list of bytes
pub write_read : (w : ℕ) (s : List ℕ) (at : ℕ) → ((j : ℕ) → get_or s j 0 < 256) → write_at w s at (read_at w s at) ≡ s
unfolding read_at write_at
write_read zero s at h = refl
write_read (suc w) s at h =
    let high : (read_at w s at * 256 + get_or s (at + w) 0) / 256 ≡ read_at w s at = omega (arith, h (at + w)) in
    let low : (read_at w s at * 256 + get_or s (at + w) 0) % 256 ≡ get_or s (at + w) 0 = omega (arith, h (at + w)) in
    rw (high, low, set-get_or s (at + w) 0) (write_read w s at h)

set_bytes : (s : List ℕ) (i a : ℕ) → a < 256 → ((j : ℕ) → get_or s j 0 < 256) → (j : ℕ) → get_or (set s i a) j 0 < 256
set_bytes s i a ha h j = go (eqb j i) refl
  where
    go : (t : Bool) → eqb j i ≡ t → get_or (set s i a) j 0 < 256
    go true e =
        rw (eqb-true j i e)
        (below_or_not i (length s) (λ k. rw (get_or-set_same s i a 0 k) ha) (λ k. rw (set_out s i a k) (h i)))
    go false e = rw (get_or-set_other s i j a 0 (eqb-false j i e)) (h j)

-- a write leaves a list of bytes
pub write_bytes : (w : ℕ) (s : List ℕ) (at v : ℕ) → ((j : ℕ) → get_or s j 0 < 256) → (j : ℕ) → get_or (write_at w s at v) j 0 < 256
unfolding write_at
write_bytes zero s at v h j = h j
write_bytes (suc w) s at v h j =
    write_bytes w (set s (at + w) (v % 256)) at (v / 256) (set_bytes s (at + w) (v % 256) (omega arith) h) j

-- ---- a number that is read byte by byte, over a part of the list

-- the part has the number's bytes
pub part_length : (n at : ℕ) (s : List ℕ) → at + n ≤ length s → length (take (at + n - at) (drop at s)) ≡ n
part_length n at s h = grind (arith, common_steps)

-- there is room for one byte more
pub read_room : (i : ℕ) (s : List ℕ) (at : ℕ) → ((j : ℕ) → get_or s j 0 < 256) → i < 4 → read_at i s at < 16777216
read_room zero s at h k = omega (arith, read_lt 0 s at h)
read_room (suc zero) s at h k = omega (arith, read_lt 1 s at h)
read_room (suc (suc zero)) s at h k = omega (arith, read_lt 2 s at h)
read_room (suc (suc (suc zero))) s at h k = omega (arith, read_lt 3 s at h)
read_room (suc (suc (suc (suc i)))) s at h k = absurd (omega arith)

pub read_none : (s : List ℕ) (at : ℕ) → read_at 0 s at ≡ 0
unfolding read_at
read_none s at = refl

pub read_more : (i n at : ℕ) (s : List ℕ) → i < length (take (at + n - at) (drop at s)) → at + n ≤ length s
    → read_at (i + 1) s at ≡ read_at i s at * 256 + get_or (take (at + n - at) (drop at s)) i 0
unfolding read_at
read_more i n at s h k =
    let part : get_or (take (at + n - at) (drop at s)) i 0 ≡ get_or s (at + i) 0 = grind (arith, common_steps) in
    rw (add-one, part) refl

-- ---- a number that is written, the last byte first

pub write_more : (i : ℕ) (s : List ℕ) (at v : ℕ) → 0 < i → write_at i s at v ≡ write_at (i - 1) (set s (at + (i - 1)) (v % 256)) at (v / 256)
unfolding write_at
write_more zero s at v h = absurd (omega arith)
write_more (suc i) s at v h =
    let under : suc i - 1 ≡ i = omega arith in
    rw under refl

pub write_none : (i : ℕ) (s : List ℕ) (at v : ℕ) → i ≤ 0 → write_at i s at v ≡ s
unfolding write_at
write_none zero s at v h = refl
write_none (suc i) s at v h = absurd (omega arith)

-- ---- the three widths of the processor, byte by byte

pub byte_fits : (b : ℕ) → b < 256 → b < 4294967296
byte_fits b h = omega arith

pub byte_read : (s : List ℕ) (at : ℕ) → read_at 1 s at ≡ get_or s at 0
unfolding read_at
byte_read s at = rw add-zero (omega arith)

pub half_read : (s : List ℕ) (at : ℕ) → read_at 2 s at ≡ get_or s at 0 * 256 + get_or s (at + 1) 0
unfolding read_at
half_read s at = rw add-zero (omega arith)

pub word_read : (s : List ℕ) (at : ℕ)
    → read_at 4 s at ≡ get_or s at 0 * 16777216 + get_or s (at + 1) 0 * 65536 + get_or s (at + 2) 0 * 256 + get_or s (at + 3) 0
unfolding read_at
word_read s at = rw add-zero (omega arith)

pub byte_write : (s : List ℕ) (at v : ℕ) → write_at 1 s at v ≡ set s at (v % 256)
unfolding write_at
byte_write s at v = rw add-zero

pub half_write : (s : List ℕ) (at v : ℕ) → write_at 2 s at v ≡ set (set s (at + 1) (v % 256)) at (v / 256 % 256)
unfolding write_at
half_write s at v = rw add-zero

pub word_write : (s : List ℕ) (at v : ℕ)
    → write_at 4 s at v
    ≡ set (set (set (set s (at + 3) (v % 256)) (at + 2) (v / 256 % 256)) (at + 1) (v / 65536 % 256)) at (v / 16777216 % 256)
unfolding write_at
word_write s at v =
    let third : v / 256 / 256 / 256 ≡ v / 16777216 = omega arith in
    let second : v / 256 / 256 ≡ v / 65536 = omega arith in
    rw (add-zero, third, second)
