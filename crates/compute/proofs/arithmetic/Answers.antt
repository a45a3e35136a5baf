-- `compute::arithmetic` meets its contract: each arm is its row of the table.
use Rattle.compute.specs.Compute.{computations}
use Rattle.compute.proofs.arithmetic.Goals as goal

pub returns-in-2 : goal.returns-in-2
unfolding computations
returns-in-2 c = simp (c.in-2.is, c.into_r-in-2.ensures, c.subtract.ensures)
