-- `shifts::shift_arithmetic` meets its contract, by the laws of ShiftLaws.
use Rattle.std.specs.Int.{w32}
use Rattle.std.proofs.lemmas.Int.{of_z-to_z}
use Rattle.shifts.proofs.ShiftLaws.{arithmetic_cast}
use Rattle.shifts.proofs.shift_arithmetic.Goals as goal

pub returns : goal.returns
returns c =
    rw (c.cast_unsigned.ensures, c.cast_signed.ensures, of_z-to_z w32 c.args.x c.ranges.x.fits)
    (arithmetic_cast c.args.x c.args.y c.ranges.x.fits)
