-- What the exported runs do: the machine is read from its record and, unless the run is refused, written back (document 01, "Runs and views";
-- document 02, job 3).
use Rattle.std.specs.Prelude.{cond, List, [], ◌++◌, ℕ, eqb}
use Rattle.memory.specs.Map.{Memory}
use Rattle.words.specs.Identifiers.{no_exception}
use Rattle.tlb.specs.Lookup.{no_slot}
use Rattle.record_layout.specs.Record.{record_of, processor_of, timer_of}
use Rattle.machine.specs.Machine.{Machine}
use Rattle.step.specs.Step.{Stepped}
use Rattle.refusals.specs.Request.{Request}
use Rattle.refusals.specs.Refusal.{Test, first_failed, memory_tests, request_tests}
use Rattle.record.specs.Calls.{machine_tests}
use Rattle.run_loop.specs.Run.{Answer, answer, Outcome, begun, steps_from, run_from}

abbrev pub call_tests : List ℕ → Memory → Request → List Test
call_tests s m q = memory_tests m ++ (machine_tests s ++ request_tests q.wanted q.charging)

unfoldable pub call_refusal : List ℕ → Memory → Request → ℕ
call_refusal s m q = first_failed (call_tests s m q)

-- the machine's buffer and the lent memory after a call, and its answer
pub record Called : Type 0 where
  pub buffer : List ℕ
  pub memory : Memory
  pub answer : Answer

abbrev pub called : List ℕ → Memory → ℕ → ℕ → ℕ → ℕ → ℕ → Called
called buffer m refusal steps eid slot charge = record { buffer = buffer; memory = m; answer = answer refusal steps eid slot charge }

-- the machine that a record holds, with the lent memory
abbrev pub machine_in : List ℕ → Memory → Machine
machine_in s m = record { processor = processor_of s; timer = timer_of s; memory = m }

-- an outcome with the machine as its record
abbrev pub recorded : Outcome → Called
recorded o =
    record { buffer = record_of o.machine.processor o.machine.timer; memory = o.machine.memory; answer = o.answer }

-- the steps of a call: a refused one makes none
unfoldable pub call_steps : Request → List ℕ → Memory → List Stepped
call_steps q s m = cond (eqb (call_refusal s m q) 0) (steps_from q q.wanted (machine_in s m)) []

-- a run of either kind; a refused one leaves the buffer as it was
unfoldable pub call_of : Request → List ℕ → Memory → Called
call_of q s m =
    cond (eqb (call_refusal s m q) 0)
    (recorded (run_from q q.wanted (begun (machine_in s m) 0)))
    (called s m (call_refusal s m q) 0 no_exception no_slot 0)
