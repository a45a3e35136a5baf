-- Reading through the translation (manual, 3.2 and 3.5).
use Rattle.std.specs.Prelude.{false, ℕ}
use Rattle.words.specs.Identifiers.{no_exception}
use Rattle.tlb.specs.Lookup.{no_slot}
use Rattle.translation.specs.Translation.{translated, resolved, Translation}
use Rattle.timer.specs.declared.Timer.{Timer}
use Rattle.memory.specs.Map.{Memory}
use Rattle.memory.specs.Access.{load_of, loaded_eid}
use Rattle.memory.specs.Loaded.{Loaded}
use Rattle.memory.specs.Loaded as loaded
use Rattle.instructions.specs.Operands.{Surroundings}
use Rattle.access.specs.Read.{Read, Value, Fault}

-- a value with the slot that served it, or the fault of the translation or the bus timeout

abbrev pub answered : ℕ → Loaded → Read
answered slot (loaded.Value v) = Value v slot
answered slot loaded.Timeout = Fault (loaded_eid loaded.Timeout)

abbrev pub read_through : ℕ → Timer → Memory → Translation → Read
read_through width timer m t = resolved (λ address slot. answered slot (load_of width timer m address)) Fault t

-- the byte, half-word or word at a virtual address
unfoldable pub read_from : ℕ → Surroundings → ℕ → Read
read_from width s address = read_through width s.timer s.memory (translated s.psw s.highs s.lows width false address)

-- the numbers of an answer: the exception that it names, or `no_exception`; what was read, or 0 where it faults; and the slot, or `no_slot`
abbrev pub read_eid : Read → ℕ
read_eid (Value v slot) = no_exception
read_eid (Fault eid) = eid

abbrev pub read_value : Read → ℕ
read_value (Value v slot) = v
read_value (Fault eid) = 0

abbrev pub read_slot : Read → ℕ
read_slot (Value v slot) = slot
read_slot (Fault eid) = no_slot
