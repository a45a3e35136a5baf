-- Helpers of the code's contracts: the state that a run on its way stands for, and the answer of a Result. No definition names them.
use Rattle.std.specs.Prelude.{◌≡◌, Result, Ok, Err}
use Rattle.words.specs.Identifiers.{no_exception}
use Rattle.tlb.specs.Lookup.{no_slot, lookup}
use Rattle.machine.specs.Machine.{state}
use Rattle.machine.specs.declared.State.{State}
use Rattle.refusals.specs.declared.Refusal.{Refusal}
use Rattle.refusals.specs.Code.{refusal_number}
use Rattle.run_loop.specs.Run.{indexed, Answer, answer}
use Rattle.run_loop.specs.declared.Ran.{Ran}
use Rattle.run_loop.specs.declared.turn.Progress.{Progress}

-- the state that a run has come to: its replacement index is the one that the steps made give
abbrev pub come_to : Progress → State
come_to r = state (indexed r.began.processor.replacement r.made r.state.processor) r.state.timer

-- the entry found last is that of its page
abbrev pub IsFound : Progress → Type 0
IsFound r = r.found.index ≡ lookup r.state.processor.tlbhigh r.found.page

-- a refused run makes no step
abbrev pub answer_of : Result Ran Refusal → Answer
answer_of (Ok r) = answer 0 r.steps r.eid r.slot r.charge
answer_of (Err e) = answer (refusal_number e) 0 no_exception no_slot 0
