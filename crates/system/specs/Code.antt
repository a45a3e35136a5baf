-- A helper of the code's contracts. No definition names it.
use Rattle.words.specs.Identifiers.{illegal_instruction}
use Rattle.instructions.specs.Operands.{fault}
use Rattle.system.specs.System.{SystemMeaning}

-- past the end of the two lists, as the opcode table has it past its own
abbrev pub illegal_system : SystemMeaning
illegal_system psw y word = fault illegal_instruction
