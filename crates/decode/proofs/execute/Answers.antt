-- `decode::execute` meets its contract, by the laws of Dispatch.
use mathlib.Core.Path.{◌∙◌}
use native.Mathlib.Omega.{arith}
use Rattle.decode.specs.Table.{executed}
use Rattle.decode.proofs.Dispatch.{by_computation, by_control, by_trap, by_transfer, by_system, by_none}
use Rattle.decode.proofs.execute.Goals as goal

pub returns-in-0-to-31 : goal.returns-in-0-to-31
unfolding executed
returns-in-0-to-31 c = c.arithmetic.ensures ∙ by_computation _ _ _ (omega arith)

pub returns-in-32-to-45 : goal.returns-in-32-to-45
unfolding executed
returns-in-32-to-45 c = c.flow.ensures ∙ by_control _ _ _ (omega arith) (omega arith)

pub returns-in-46-to-47 : goal.returns-in-46-to-47
unfolding executed
returns-in-46-to-47 c = c.trap.ensures ∙ by_trap _ _ _ (omega arith) (omega arith)

pub returns-in-48-to-55 : goal.returns-in-48-to-55
unfolding executed
returns-in-48-to-55 c = c.transfer.ensures ∙ by_transfer _ _ _ (omega arith) (omega arith)

pub returns-in-56-to-61 : goal.returns-in-56-to-61
unfolding executed
returns-in-56-to-61 c = c.system.ensures ∙ by_system _ _ _ (omega arith) (omega arith)

pub returns-in_default : goal.returns-in_default
unfolding executed
returns-in_default c = c.illegal.ensures ∙ by_none _ _ _ (omega arith)
