-- `system::system` meets its contract: each arm is its row of the table. The check finds the others alone.
use Rattle.words.specs.Numbers.{zero_extend}
use Rattle.system.specs.System.{systems}
use Rattle.system.proofs.system.Goals as goal

pub returns-in-0 : goal.returns-in-0
unfolding systems zero_extend
returns-in-0 c = simp (c.in-0.is, c.privileged.ensures, c.immediate_z-special.ensures, c.field_y-register.ensures)

pub returns-in-1 : goal.returns-in-1
unfolding systems zero_extend
returns-in-1 c = simp (c.in-1.is, c.privileged-in-1.ensures, c.immediate_z-special.ensures)

pub returns-in-2 : goal.returns-in-2
unfolding systems
returns-in-2 c = simp (c.in-2.is, c.privileged-in-2.ensures)
