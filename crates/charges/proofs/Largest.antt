-- No entry of a list costs more than the largest, and none of a list of bytes more than 65,535.
use mathlib.Core.Path.{◌≡◌}
use mathlib.Core.List.{List}
use Prim.Native.Nat.{ℕ, zero, suc, ◌*◌, ◌≤◌, ◌<◌}
use native.Mathlib.Omega.{arith}
use lib.ListN.{get_or}
use Rattle.words.proofs.Cases.{below_or_not}
use Rattle.endian.proofs.Widths.{read_lt}
use Rattle.charges.specs.Charges.{charge_at, largest, Charging, Uncharged, ChargedBy, charge_of, most_charged}

within : (n : ℕ) (s : List ℕ) (i : ℕ) → i < n → charge_at s i ≤ largest n s
unfolding largest
within zero s i h = absurd (omega arith)
within (suc n) s i h =
    below_or_not i n (λ below. omega (arith, within n s i below)) (λ not. let same : i ≡ n = omega arith in rw same (omega arith))

pub costs_at_most : (c : Charging) (i : ℕ) → i ≤ 64 → charge_of c i ≤ most_charged c
costs_at_most Uncharged i h = omega arith
costs_at_most (ChargedBy s) i h = within 65 s i (omega arith)

-- bytes make numbers of 16 bits
pub sixteen_bits : (s : List ℕ) → ((j : ℕ) → get_or s j 0 < 256) → (n : ℕ) → largest n s ≤ 65535
unfolding largest charge_at
sixteen_bits s bytes zero = omega arith
sixteen_bits s bytes (suc n) =
    omega (arith, sixteen_bits s bytes n, read_lt 2 s (n * 2) bytes)
