-- An aligned access lies in one frame of 4,096 bytes, at any width that divides 4,096.
use mathlib.Core.Path.{◌≡◌, ap, sym, ◌∙◌}
use Prim.Native.Nat.{ℕ, zero, suc, ◌+◌, ◌*◌, ◌/◌, ◌%◌, ◌<◌}
use native.Mathlib.Nat.{div-add-mod', mul_assoc, add-mul, mod-lt, mul-le-mul_right, zero-mul, suc-mul}
use native.Mathlib.Omega.{arith}

-- the w bytes of block s of k lie below the end of the blocks
in_block : (w k s i : ℕ) → s < k → i < w → s * w + i < k * w
in_block w k s i hs hi = omega (arith, mul-le-mul_right {m = suc s} {n = k} w hs, suc-mul s w)

-- block q of w bytes, by the frame that it lies in
block : (w k q : ℕ) → k * w ≡ 4096 → q * w ≡ q / k * 4096 + q % k * w
block w k q e =
    ap (λ (n : ℕ). n * w) (sym (div-add-mod' q k)) ∙ add-mul (q / k * k) (q % k) w
    ∙ ap (λ (n : ℕ). n + q % k * w) (mul_assoc (q / k) k w ∙ ap (λ (n : ℕ). q / k * n) e)

-- k blocks of w bytes fill a frame
pub one_frame : (w k a i : ℕ) → k * w ≡ 4096 → a % w ≡ 0 → i < w → (a + i) / 4096 ≡ a / 4096
one_frame w zero a i e h hi = absurd (omega (arith, zero-mul w))
one_frame w (suc k) a i e h hi =
    let q : ℕ = a / w in
    let whole : a ≡ q / suc k * 4096 + q % suc k * w =
    sym (omega (arith, div-add-mod' a w)) ∙ block w (suc k) q e in
    let inside : q % suc k * w + i < suc k * w = in_block w (suc k) (q % suc k) i (mod-lt q (omega arith)) hi in
    omega arith
