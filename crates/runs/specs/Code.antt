-- A helper of the code's contract: what a run comes to, with the Result that it answers. No definition names it.
use Rattle.std.specs.Prelude.{List, ℕ, Result, Ok, Err}
use Rattle.machine.specs.Machine.{machine_of}
use Rattle.machine.specs.declared.State.{State}
use Rattle.refusals.specs.declared.Refusal.{Refusal}
use Rattle.refusals.specs.Code.{refusal_number}
use Rattle.run_loop.specs.Run.{Outcome, outcome, begun}
use Rattle.run_loop.specs.declared.Ran.{Ran}

-- of the state that was given and the memory after the run; a refused run leaves that state
abbrev pub outcome_as : State → List ℕ → List ℕ → List ℕ → Result Ran Refusal → Outcome
outcome_as given ram rom belt (Ok r) = outcome (machine_of r.state ram rom belt) 0 r.steps r.eid r.slot r.charge
outcome_as given ram rom belt (Err e) = begun (machine_of given ram rom belt) (refusal_number e)
