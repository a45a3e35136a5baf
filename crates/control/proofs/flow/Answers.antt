-- `control::flow` meets its contract: each arm is its row of the table.
use Rattle.control.specs.Control.{controls}
use Rattle.control.proofs.flow.Goals as goal

pub returns-in-2 : goal.returns-in-2
unfolding controls
returns-in-2 c = simp (c.in-2.is, c.branch-signed_holds.ensures, c.signed_holds.ensures)
