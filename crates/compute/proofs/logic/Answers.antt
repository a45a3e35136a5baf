-- `compute::logic` meets its contract: the check finds that each arm is its row of the table, and the last arm is every opcode but those.
use mathlib.Core.Path.{◌∙◌}
use Rattle.instructions.specs.Code.{operands_of}
use Rattle.compute.proofs.Arms.{computation_illegal}
use Rattle.compute.proofs.logic.Goals as goal

pub returns-in_default : goal.returns-in_default
returns-in_default c =
    c.illegal.ensures
    ∙ computation_illegal _ (operands_of c.args.o) c.requires c.in_default.in_default-own.rest.0 c.in_default.in_default-own.rest.1
