-- A helper of the code's contracts: the state that a reading hands back. No definition names it.
use Rattle.std.specs.Prelude.{Result, Ok, Err}
use Rattle.timer.specs.Timer.{timer_at_reset}
use Rattle.processor.specs.State.{at_reset}
use Rattle.machine.specs.Machine.{state}
use Rattle.machine.specs.declared.State.{State}
use Rattle.refusals.specs.declared.Refusal.{Refusal}

-- a refused one hands back the reset state
abbrev pub handed : Result State Refusal → State
handed (Ok s) = s
handed (Err e) = state at_reset timer_at_reset
