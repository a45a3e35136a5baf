-- `charges::charge_at` meets its contract: an entry is the big-endian half-word in its two bytes, and so has 16 bits.
use mathlib.Core.Path.{◌∙◌}
use Prim.Native.Nat.{◌*◌}
use native.Mathlib.Omega.{arith}
use Rattle.endian.proofs.Widths.{read_lt}
use Rattle.charges.specs.Charges.{charge_at}
use Rattle.charges.proofs.charge_at.Goals as goal

pub returns : goal.returns
unfolding charge_at
returns c =
    let small = read_lt 2 c.args.charges.now (c.args.i * 2) (λ j. (c.type_inv.charges j).fits) in
    (c.from.ensures ∙ c.read.ensures, omega (arith, small, c.from.ensures, c.read.ensures))
