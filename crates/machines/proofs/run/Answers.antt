-- `machines::run` meets its contract: the machine that is compared is the one that the run leaves.
use mathlib.Core.Path.{ap}
use Rattle.run_loop.specs.Run.{Outcome}
use Rattle.machines.proofs.Equal.{machine_tested}
use Rattle.machines.proofs.run.Goals as goal

pub returns-clause-unchanged : goal.returns-clause-unchanged
returns-clause-unchanged c =
    machine_tested c.args.state c.run_or_given-answered.result.state c.args.ramcopy.now c.args.beltcopy.now c.alike.ensures c.same.ensures c.same-2.ensures
    (ap (λ (o : Outcome). o.machine) c.run_or_given-answered.ensures)
