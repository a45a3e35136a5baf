-- AND, OR, XOR and XNOR give words, numbers below 2 ^ 32.
use Prim.Native.Nat.{ℕ, ◌^◌, ◌<◌}
use native.Mathlib.Omega.{arith}
use lib.Bits.{and_lt as bits-and-lt, or_lt as bits-or-lt, xor_lt as bits-xor-lt}
use Rattle.bitwise.specs.Bitwise.{and, or, xor, xnor}

module _ (x y : ℕ) where
  pub xnor_lt : xnor x y < 2 ^ 32
  unfolding xnor
  xnor_lt = omega arith

module _ (x y : ℕ) (hx : x < 2 ^ 32) (hy : y < 2 ^ 32) where
  pub and_lt : and x y < 2 ^ 32
  unfolding and
  and_lt = bits-and-lt 32 x y hx hy

  pub or_lt : or x y < 2 ^ 32
  unfolding or
  or_lt = bits-or-lt 32 x y hx hy

  pub xor_lt : xor x y < 2 ^ 32
  unfolding xor
  xor_lt = bits-xor-lt 32 x y hx hy
