-- `quotients::divide_signed` meets its contract, by the laws of Division.
use Rattle.std.specs.Int.{w32}
use Rattle.std.proofs.lemmas.Int.{of_z-to_z}
use Rattle.quotients.specs.Quotients.{signed_quotient}
use Rattle.quotients.proofs.Division.{quotient_cast, quotient_by_zero}
use Rattle.quotients.proofs.Sizes.{signed_quotient_lt}
use Rattle.quotients.proofs.divide_signed.Goals as goal

pub returns-then-y-eq0 : goal.returns-then-y-eq0
returns-then-y-eq0 c = rw c.if-y-eq0.true (quotient_by_zero c.args.x c.ranges.x.fits)

pub returns : goal.returns
returns c =
    let x = c.ranges.x.fits in
    let y = c.ranges.y.fits in
    rw (c.cast_unsigned.ensures, c.wrapping_div.ensures, c.cast_signed.ensures, c.cast_signed-2.ensures, of_z-to_z w32 c.args.x x, of_z-to_z w32 c.args.y y, quotient_cast c.args.x c.args.y x y)
    (of_z-to_z w32 (signed_quotient c.args.x c.args.y) (signed_quotient_lt c.args.x c.args.y))
