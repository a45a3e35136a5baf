-- The look (document 01, "One step"; manual, 3.2): it changes nothing and names an action.
use Rattle.std.specs.Prelude.{cond, List, ℕ, ltb}
use Rattle.sums.specs.Sums.{sum}
use Rattle.look.specs.Interrupt.{no_channel, channel}
use Rattle.instructions.specs.Operands.{Surroundings, Operands, operands_in, opcode_of}
use Rattle.access.specs.Reads.{read_from}
use Rattle.decode.specs.Table.{executed}
use Rattle.instructions.specs.Action.{Action, Exception}
use Rattle.access.specs.Read.{Read, Value, Fault}

-- the instruction word's operands in the register file
abbrev pub operands_of : List ℕ → ℕ → ℕ → Operands
operands_of registers pc word = operands_in registers word (sum pc 4)

-- what is done with the fetched word, or with the fault of the fetch; a step does not tell the fetch's slot
abbrev pub decoded : Surroundings → List ℕ → ℕ → Read → Action
decoded s registers pc (Value word slot) = executed s (operands_of registers pc word)
decoded s registers pc (Fault eid) = Exception eid pc

-- an interrupt first; otherwise the instruction at the PC
unfoldable pub look_from : Surroundings → List ℕ → ℕ → ℕ → Action
look_from s registers pc lines =
    cond (ltb (channel s.psw lines) no_channel) (Exception (channel s.psw lines) 0) (decoded s registers pc (read_from 4 s pc))

-- an opcode is below 64; this stands for none
abbrev pub no_opcode : ℕ
no_opcode = 64

-- the opcode of the word that is fetched; `no_opcode` where an interrupt is accepted, or the fetch faults
abbrev pub opcode_read : Read → ℕ
opcode_read (Value word slot) = opcode_of word
opcode_read (Fault eid) = no_opcode

unfoldable pub opcode_from : Surroundings → ℕ → ℕ → ℕ
opcode_from s pc lines = cond (ltb (channel s.psw lines) no_channel) no_opcode (opcode_read (read_from 4 s pc))
