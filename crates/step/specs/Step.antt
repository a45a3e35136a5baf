-- One step (document 01, "One step"; manual, 3.2): a look, which changes nothing and names an action, then the action, then what every step does
-- (document 02, jobs 1 and 4), and what the step tells (jobs 2 and 3).
use Rattle.std.specs.Prelude.{ℕ}
use Rattle.memory.specs.Map.{Memory}
use Rattle.memory.specs.Access.{access_width, memory_after, timer_after}
use Rattle.timer.specs.Timer.{lines_with, ticked}
use Rattle.timer.specs.declared.Timer.{Timer}
use Rattle.words.specs.Identifiers.{no_exception}
use Rattle.tlb.specs.Lookup.{no_slot}
use Rattle.processor.specs.Tlb.{index_moved}
use Rattle.instructions.specs.Operands.{Surroundings, surroundings}
use Rattle.instructions.specs.Action.{Action, Write, Store, System, Exception}
use Rattle.look.specs.Look.{look_from, no_opcode, opcode_from}
use Rattle.actions.specs.Actions.{processor_after}
use Rattle.machine.specs.Machine.{Machine}

-- ---- the look

abbrev pub surroundings_of : Machine → Surroundings
surroundings_of m = surroundings m.processor.psw m.processor.tlbhigh m.processor.tlblow m.timer m.memory

-- with the host's interrupt lines, and the timer's as it was before the step
unfoldable pub look : Machine → ℕ → Action
look m lines = look_from (surroundings_of m) m.processor.registers m.processor.pc (lines_with m.timer lines)

-- the opcode of the word that the look fetches, or `no_opcode`
abbrev pub opcode_fetched : Machine → ℕ → ℕ
opcode_fetched m lines = opcode_from (surroundings_of m) m.processor.pc (lines_with m.timer lines)

-- ---- the action

abbrev pub memory_done : Memory → Action → Memory
memory_done m (Write n v next slot) = m
memory_done m (Store width physical v slot) = memory_after (access_width width) m physical v
memory_done m (System i) = m
memory_done m (Exception eid address) = m

abbrev pub timer_done : Timer → Memory → Action → Timer
timer_done t m (Write n v next slot) = t
timer_done t m (Store width physical v slot) = timer_after (access_width width) t m physical v
timer_done t m (System i) = t
timer_done t m (Exception eid address) = t

-- the exception that is accepted, or `no_exception`
abbrev pub eid_of : Action → ℕ
eid_of (Write n v next slot) = no_exception
eid_of (Store width physical v slot) = no_exception
eid_of (System i) = no_exception
eid_of (Exception eid address) = eid

-- the slot of the data access, or `no_slot`: a load or a store that completes has one
abbrev pub slot_of : Action → ℕ
slot_of (Write n v next slot) = slot
slot_of (Store width physical v slot) = slot
slot_of (System i) = no_slot
slot_of (Exception eid address) = no_slot

-- the opcode of the instruction that completes, by that of the word fetched, or `no_opcode`: where an exception is accepted, none completes
abbrev pub completed_opcode : ℕ → Action → ℕ
completed_opcode opcode (Write n v next slot) = opcode
completed_opcode opcode (Store width physical v slot) = opcode
completed_opcode opcode (System i) = opcode
completed_opcode opcode (Exception eid address) = no_opcode

abbrev pub acted : Machine → Action → Machine
acted m a =
    record {
      processor = processor_after m.processor a;
      timer = timer_done m.timer m.memory a;
      memory = memory_done m.memory a;
    }

-- what every step does at its end, after an exception too: the replacement index moves, and the timer ticks
abbrev pub ended : Machine → Machine
ended m = record { processor = index_moved m.processor; timer = ticked m.timer; memory = m.memory }

abbrev pub done : Machine → Action → Machine
done m a = ended (acted m a)

-- ---- the step

-- what a step tells: the exception that it accepted, or `no_exception`; the slot of its data access, or `no_slot`; and the opcode of its completed
-- instruction, or `no_opcode`
pub record Event : Type 0 where
  pub eid : ℕ
  pub slot : ℕ
  pub opcode : ℕ

abbrev pub told : ℕ → Action → Event
told opcode a = record { eid = eid_of a; slot = slot_of a; opcode = completed_opcode opcode a }

-- the machine after a step, and the step's event
pub record Stepped : Type 0 where
  pub machine : Machine
  pub event : Event

unfoldable pub step_of : Machine → ℕ → Stepped
step_of m lines = record { machine = done m (look m lines); event = told (opcode_fetched m lines) (look m lines) }

-- as a contract names it, of what the code answers
abbrev pub stepped : Machine → ℕ → ℕ → ℕ → Stepped
stepped m eid slot opcode = record { machine = m; event = record { eid = eid; slot = slot; opcode = opcode } }
