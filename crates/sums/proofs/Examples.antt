-- Worked values, by computation: document 01's case of a sum.
use Rattle.std.proofs.Common.{◌≡◌, refl}
use Rattle.words.specs.Numbers.{truncate}
use Rattle.sums.specs.Sums.{sum}

pub sum_wraps : sum 0xFFFFFFFF 1 ≡ 0
unfolding sum truncate
sum_wraps = refl
