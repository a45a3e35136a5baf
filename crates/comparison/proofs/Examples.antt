-- Worked values, by computation: document 01's cases that need the orders of words alone.
use mathlib.Core.Path.{◌≡◌, refl}
use mathlib.Core.Bool.{true, false}
use Rattle.words.specs.Numbers.{bit, signed}
use Rattle.comparison.specs.Comparison.{signed_holds, unsigned_holds}
use Rattle.comparison.specs.declared.Order.TheVariants.{Less}

pub less_signed : signed_holds Less 0xFFFFFFFF 0 ≡ true
unfolding signed_holds signed bit
less_signed = refl

pub not_less_unsigned : unsigned_holds Less 0xFFFFFFFF 0 ≡ false
unfolding unsigned_holds
not_less_unsigned = refl
