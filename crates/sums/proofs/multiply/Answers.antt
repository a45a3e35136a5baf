-- `sums::multiply` meets its contract, by the laws of Product.
use Rattle.std.proofs.Common.{sym, refl}
use Rattle.words.specs.Numbers.{truncate}
use Rattle.sums.specs.Sums.{unsigned_product}
use Rattle.sums.proofs.Product.{products_agree}
use Rattle.sums.proofs.multiply.Goals as goal

pub returns : goal.returns
unfolding unsigned_product truncate
returns c = record { unsigned = refl; signed = sym (products_agree c.args.x c.args.y c.ranges.x.fits c.ranges.y.fits) }
