-- The opcode table: the six opcode bits choose among 61 instructions (document 01, "One step").
use Rattle.std.specs.Prelude.{List, ◌++◌, map, get_or}
use Rattle.instructions.specs.Operands.{Meaning, simple, illegal, opcode_of}
use Rattle.compute.specs.Compute.{computations}
use Rattle.control.specs.Control.{controls}
use Rattle.transfer.specs.Transfer.{transfers}
use Rattle.system.specs.System.{SystemMeaning, traps, systems}

abbrev pub by_psw : SystemMeaning → Meaning
by_psw f s o = f s.psw o.y o.word

-- 00 to 1F, 20 to 2D, 2E and 2F, 30 to 37, 38 to 3D; 3E and 3F are illegal
unfoldable pub meanings : List Meaning
meanings = map simple computations ++ (map simple controls ++ (map by_psw traps ++ (transfers ++ map by_psw systems)))

-- the action of an instruction
unfoldable pub executed : Meaning
executed s o = get_or meanings (opcode_of o.word) (simple illegal) s o
