-- `compute::unless_zero` meets its contract, by its definition.
use borrow.Author.Tests.{eq-eqb, ne_eqb}
use Rattle.compute.specs.Compute.{unless_zero}
use Rattle.compute.proofs.unless_zero.Goals as goal

pub returns-then-divisor-eq0 : goal.returns-then-divisor-eq0
unfolding unless_zero
returns-then-divisor-eq0 c = simp (eq-eqb _ _ c.if-divisor-eq0.true, c.fault.ensures)

pub returns : goal.returns
unfolding unless_zero
returns c = simp (ne_eqb _ _ c.if-divisor-eq0.false)
