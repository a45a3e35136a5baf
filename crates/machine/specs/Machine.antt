-- The machine: a processor, the timer and the memory that the host lends.
use Rattle.std.specs.Prelude.{◌≡◌, Bool, List, ℕ, ◌^◌, ◌<◌, length, get_or}
use Rattle.words.specs.Logic.{both}
use Rattle.timer.specs.Timer.{timer_fit, TimerWords}
use Rattle.timer.specs.declared.Timer.{Timer}
use Rattle.memory.specs.Map.{Memory, memory}
use Rattle.memory.specs.Lent.{Lent, lent, left}
use Rattle.processor.specs.State.{fit}
use Rattle.processor.specs.declared.Processor.{Processor}
use Rattle.machine.specs.declared.State.{State}

pub record Machine : Type 0 where
  pub processor : Processor
  pub timer : Timer
  pub memory : Memory

abbrev pub machine : Processor → Timer → List ℕ → List ℕ → List ℕ → Machine
machine p t ram rom belt = record { processor = p; timer = t; memory = memory ram rom belt }

-- a processor and a timer with the memory lent to a call, and with the memory as the call left it
abbrev pub before : Processor → Timer → Lent → Lent → Lent → Machine
before p t ram rom belt = record { processor = p; timer = t; memory = lent ram rom belt }

abbrev pub after : Processor → Timer → Lent → Lent → Lent → Machine
after p t ram rom belt = record { processor = p; timer = t; memory = left ram rom belt }

-- the code's state: a processor and its timer
abbrev pub state : Processor → Timer → State
state p t = record { processor = p; timer = t }

-- the machine of a state with the memory that it is lent, or that a call left
abbrev pub machine_of : State → Lent → Lent → Lent → Machine
machine_of s ram rom belt = before s.processor s.timer ram rom belt

-- cause 6 of "Refused calls", of a processor with its timer
unfoldable pub fit_with : Processor → Timer → Bool
fit_with p t = both (fit p) (timer_fit t)

-- ---- what the code's types say of a machine

-- every element is below a number
abbrev pub Bounded : ℕ → List ℕ → Type 0
Bounded n l = (i : ℕ) → i < length l → get_or l i 0 < n

-- 32 words
abbrev pub Words32 : List ℕ → Type 0
Words32 l = (length l ≡ 32) × ((i : ℕ) → i < 32 → get_or l i 0 < 2 ^ 32)

abbrev pub Bytes : List ℕ → Type 0
Bytes l = Bounded 256 l

-- every processor and timer of the code is one of these, and all memory that a host lends
pub record Representable (m : Machine) : Type 0 where
  pub registers : Words32 m.processor.registers
  pub pc : m.processor.pc < 2 ^ 32
  pub psw : m.processor.psw < 2 ^ 32
  pub index : m.processor.index < 2 ^ 32
  pub entryhigh : m.processor.entryhigh < 2 ^ 32
  pub entrylow : m.processor.entrylow < 2 ^ 32
  pub badaddress : m.processor.badaddress < 2 ^ 32
  pub tlbhigh : Words32 m.processor.tlbhigh
  pub tlblow : Words32 m.processor.tlblow
  pub replacement : m.processor.replacement < 2 ^ 32
  pub timer : TimerWords m.timer
  pub ram : Bytes m.memory.ram
  pub rom : Bytes m.memory.rom
  pub belt : Bytes m.memory.belt
