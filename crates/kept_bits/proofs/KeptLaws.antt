-- What is kept of a word is a word, and is kept again; and small numbers are kept whole.
use mathlib.Core.Path.{◌≡◌, refl}
use Prim.Native.Nat.{ℕ, ◌^◌, ◌<◌}
use native.Mathlib.Omega.{arith}
use Rattle.kept_bits.specs.Kept.{kept_psw, kept_index, kept_high, kept_low}

-- ---- words

pub kept_psw_lt : (v : ℕ) → kept_psw v < 2 ^ 32
unfolding kept_psw
kept_psw_lt v = omega arith

pub kept_index_lt : (v : ℕ) → v < 2 ^ 32 → kept_index v < 2 ^ 32
unfolding kept_index
kept_index_lt v h = omega arith

pub kept_high_lt : (v : ℕ) → v < 2 ^ 32 → kept_high v < 2 ^ 32
unfolding kept_high
kept_high_lt v h = omega arith

pub kept_low_lt : (v : ℕ) → v < 2 ^ 32 → kept_low v < 2 ^ 32
unfolding kept_low
kept_low_lt v h = omega arith

-- ---- kept whole

pub psw_kept : (n : ℕ) → n < 2 ^ 28 → kept_psw n ≡ n
unfolding kept_psw
psw_kept n h = omega arith

pub psw_again : (v : ℕ) → kept_psw (kept_psw v) ≡ kept_psw v
unfolding kept_psw
psw_again v = omega arith

pub index_again : (v : ℕ) → kept_index (kept_index v) ≡ kept_index v
unfolding kept_index
index_again v = omega arith

pub index_kept : (i : ℕ) → i < 32 → kept_index i ≡ i
unfolding kept_index
index_kept i h = omega arith

pub index_none : kept_index 0x80000000 ≡ 0x80000000
unfolding kept_index
index_none = refl

pub high_again : (v : ℕ) → kept_high (kept_high v) ≡ kept_high v
unfolding kept_high
high_again v = omega arith

pub low_again : (v : ℕ) → kept_low (kept_low v) ≡ kept_low v
unfolding kept_low
low_again v = omega arith
