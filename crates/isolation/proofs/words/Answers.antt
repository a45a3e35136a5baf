-- `isolation::words` meets its contract: an array has its length, and its elements are values of their type.
use native.Mathlib.Omega.{arith}
use borrow.Author.Rules.{rules}
use Rattle.isolation.proofs.words.Goals as goal

pub returns : goal.returns
returns c = let e = c.elements.ensures in (search rules, λ i h. e i (omega (arith, h)))
