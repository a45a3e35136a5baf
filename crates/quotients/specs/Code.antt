-- A sign set on a magnitude, for the laws of Division. No contract names it.
use Rattle.std.specs.Prelude.{ℕ, ◌^◌, cond, nat_le}
use Rattle.sums.specs.Sums.{difference}

-- the number m, or its opposite where the signed reading of x is below 0
unfoldable pub with_sign : ℕ → ℕ → ℕ
with_sign x m = cond (nat_le (2 ^ 31) x) (difference 0 m) m
