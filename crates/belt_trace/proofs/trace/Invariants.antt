-- `belt_trace::trace` meets its contract, by the laws of Lines.
use Rattle.machine.specs.Machine.{machine_of}
use Rattle.belt_trace.proofs.Lines.{Tracing}
use Rattle.belt_trace.proofs.trace.Given as goal

abbrev pub invariant-loop-line : goal.invariant-loop-line
invariant-loop-line l =
    Tracing l.rom l.initial.text (machine_of l.state l.ram l.rom l.belt) l.text l.line
