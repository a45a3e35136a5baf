-- Loads and stores of w bytes at a physical address (document 01, "One step" and "Closed by us"; manual, 3.5; document 02, job 1).
use Rattle.std.specs.Prelude.{cond, ℕ, eqb}
use Rattle.words.specs.Identifiers.{bus_timeout, no_exception}
use Rattle.endian.specs.BigEndian.{read_at, write_at}
use Rattle.timer.specs.declared.Timer as timer
use Rattle.timer.specs.Timer.{register_read, register_written}
use Rattle.memory.specs.Map.{Memory, memory, place_in}
use Rattle.memory.specs.declared.Place.{Place}
use Rattle.memory.specs.declared.Place.TheVariants.{Ram, Rom, Belt, Timer, Nothing}
use Rattle.memory.specs.Loaded.{Loaded}
use Rattle.memory.specs.Loaded as loaded
use Rattle.memory.specs.Stored.{Stored}
use Rattle.memory.specs.Stored as stored

-- what is read at a place
abbrev pub read_in : ℕ → timer.Timer → Memory → Place → Loaded
read_in w t m (Ram at) = loaded.Value (read_at w m.ram at)
read_in w t m (Rom at) = loaded.Value (read_at w m.rom at)
read_in w t m (Belt at) = loaded.Value (read_at w m.belt at)
read_in w t m (Timer at) = loaded.Value (register_read t at)
read_in w t m Nothing = loaded.Timeout

-- a load: the big-endian number of w bytes there, or the timer's register, or a timeout
unfoldable pub load_of : ℕ → timer.Timer → Memory → ℕ → Loaded
load_of w t m address = read_in w t m (place_in w m address)

-- whether a store at a place is answered
abbrev pub completes : Place → Stored
completes (Ram at) = stored.Done
completes (Rom at) = stored.Done
completes (Belt at) = stored.Done
completes (Timer at) = stored.Done
completes Nothing = stored.Timeout

-- a store completes wherever something answers
unfoldable pub store_answer : ℕ → Memory → ℕ → Stored
store_answer w m address = completes (place_in w m address)

-- the memory with the low w bytes of v at a place
abbrev pub write_in : ℕ → Memory → Place → ℕ → Memory
write_in w m (Ram at) v = memory (write_at w m.ram at v) m.rom m.belt
write_in w m (Rom at) v = m
write_in w m (Belt at) v = memory m.ram m.rom (write_at w m.belt at v)
write_in w m (Timer at) v = m
write_in w m Nothing v = m

-- the width of an access, from the number that the code has for it: no access has another than 1, 2 and 4
unfoldable pub access_width : ℕ → ℕ
access_width width = cond (eqb width 1) 1 (cond (eqb width 2) 2 4)

-- the memory after a store: the low w bytes of v are there; ROM never changes
unfoldable pub memory_after : ℕ → Memory → ℕ → ℕ → Memory
memory_after w m address v = write_in w m (place_in w m address) v

-- the timer with v in the register at a place
abbrev pub written_in : timer.Timer → Place → ℕ → timer.Timer
written_in t (Ram at) v = t
written_in t (Rom at) v = t
written_in t (Belt at) v = t
written_in t (Timer at) v = register_written t at v
written_in t Nothing v = t

-- the timer after a store
unfoldable pub timer_after : ℕ → timer.Timer → Memory → ℕ → ℕ → timer.Timer
timer_after w t m address v = written_in t (place_in w m address) v

-- the numbers of an answer: the exception that it names, or `no_exception`; and what a load brings, 0 where it times out
abbrev pub loaded_eid : Loaded → ℕ
loaded_eid (loaded.Value v) = no_exception
loaded_eid loaded.Timeout = bus_timeout

abbrev pub loaded_value : Loaded → ℕ
loaded_value (loaded.Value v) = v
loaded_value loaded.Timeout = 0

abbrev pub stored_eid : Stored → ℕ
stored_eid stored.Done = no_exception
stored_eid stored.Timeout = bus_timeout
