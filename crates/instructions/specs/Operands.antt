-- The fields of an instruction word, and what an instruction reads (manual, 3.1 and the formats).
use Rattle.std.specs.Prelude.{List, ℕ, ◌/◌, ◌%◌, ◌^◌, get_or}
use Rattle.words.specs.Numbers.{zero_extend, sign_extend}
use Rattle.words.specs.Identifiers.{illegal_instruction}
use Rattle.timer.specs.declared.Timer.{Timer}
use Rattle.tlb.specs.Lookup.{no_slot}
use Rattle.memory.specs.Map.{Memory}
use Rattle.memory.specs.Lent.{Lent, lent}
use Rattle.instructions.specs.Action.{Action, Write, Exception}

-- bits 31..26, 25..21, 20..16 and 15..11
abbrev pub opcode_of : ℕ → ℕ
opcode_of word = word / 2 ^ 26

abbrev pub field_x : ℕ → ℕ
field_x word = word / 2 ^ 21 % 32

abbrev pub field_y : ℕ → ℕ
field_y word = word / 2 ^ 16 % 32

abbrev pub field_r : ℕ → ℕ
field_r word = word / 2 ^ 11 % 32

-- the values of the registers that bits 25..21 and 20..16 name, the instruction word, and the PC after the fetch
pub record Operands : Type 0 where
  pub x : ℕ
  pub y : ℕ
  pub word : ℕ
  pub next : ℕ

abbrev pub operands : ℕ → ℕ → ℕ → ℕ → Operands
operands x y word next = record { x = x; y = y; word = word; next = next }

-- with the registers read from a register file
abbrev pub operands_in : List ℕ → ℕ → ℕ → Operands
operands_in registers word next = operands (get_or registers (field_x word) 0) (get_or registers (field_y word) 0) word next

-- what loads, stores and privileged instructions read besides
pub record Surroundings : Type 0 where
  pub psw : ℕ
  pub highs : List ℕ
  pub lows : List ℕ
  pub timer : Timer
  pub memory : Memory

abbrev pub surroundings : ℕ → List ℕ → List ℕ → Timer → Memory → Surroundings
surroundings psw highs lows timer memory = record { psw = psw; highs = highs; lows = lows; timer = timer; memory = memory }

-- as a contract names them, of what is lent to a call
abbrev pub around : ℕ → Lent → Lent → Timer → Lent → Lent → Lent → Surroundings
around psw highs lows timer ram rom belt = surroundings psw highs lows timer (lent ram rom belt)

-- what an instruction does: from its operands alone, or from the surroundings too
abbrev pub Simple : Type 0
Simple = Operands → Action

abbrev pub Meaning : Type 0
Meaning = Surroundings → Operands → Action

abbrev pub simple : Simple → Meaning
simple f s o = f o

-- bits 15..0, extended
abbrev pub immediate_s : Operands → ℕ
immediate_s o = sign_extend 16 o.word

abbrev pub immediate_z : Operands → ℕ
immediate_z o = zero_extend 16 o.word

-- a result into the register of bits 15..11, or of bits 20..16; no data access
abbrev pub into_r : Operands → ℕ → Action
into_r o v = Write (field_r o.word) v o.next no_slot

abbrev pub into_y : Operands → ℕ → Action
into_y o v = Write (field_y o.word) v o.next no_slot

-- a fault that leaves no address
abbrev pub fault : ℕ → Action
fault eid = Exception eid 0

-- opcodes 1E, 3E and 3F
abbrev pub illegal : Simple
illegal o = fault illegal_instruction
