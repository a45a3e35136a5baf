-- `run_loop::advance` meets its contract, by the laws of Going.
use Prim.Native.Nat.{◌-◌}
use Rattle.machine.specs.Machine.{machine_of}
use Rattle.refusals.specs.Code.{asked}
use Rattle.run_loop.specs.Code.{come_to, IsFound}
use Rattle.run_loop.proofs.Going.{Going}
use Rattle.run_loop.proofs.advance.Given as goal

abbrev pub invariant-loop-progress : goal.invariant-loop-progress
invariant-loop-progress l =
    IsFound l.progress × Going (asked l.request) (machine_of l.fn.state l.initial.ram l.rom l.initial.belt) (machine_of (come_to l.progress) l.ram l.rom l.belt)
    l.progress.made l.eid l.slot l.charge

abbrev pub decreases-loop-progress : goal.decreases-loop-progress
decreases-loop-progress l =
    l.wanted - l.progress.made
