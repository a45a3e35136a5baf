-- The control flow instructions (manual, 3.4), a clause for each, and their opcodes 20 to 2D.
use Rattle.std.specs.Prelude.{List, [], ◌∷◌}
use Rattle.comparison.specs.Comparison.{unsigned_holds, signed_holds}
use Rattle.comparison.specs.declared.Order.TheVariants.{Equal, NotEqual, LessOrEqual, Less, GreaterOrEqual, Greater}
use Rattle.instructions.specs.Operands.{Simple}
use Rattle.control.specs.Branches.{target, jump_to, branch}
use Rattle.tlb.specs.Lookup.{no_slot}
use Rattle.instructions.specs.Action.{Write}

-- 3.4.1
abbrev pub BEQ : Simple
BEQ o = branch (unsigned_holds Equal o.x o.y) o.word o.next

-- 3.4.2
abbrev pub BNE : Simple
BNE o = branch (unsigned_holds NotEqual o.x o.y) o.word o.next

-- 3.4.3
abbrev pub BLE : Simple
BLE o = branch (signed_holds LessOrEqual o.x o.y) o.word o.next

-- 3.4.4
abbrev pub BLEU : Simple
BLEU o = branch (unsigned_holds LessOrEqual o.x o.y) o.word o.next

-- 3.4.5
abbrev pub BLT : Simple
BLT o = branch (signed_holds Less o.x o.y) o.word o.next

-- 3.4.6
abbrev pub BLTU : Simple
BLTU o = branch (unsigned_holds Less o.x o.y) o.word o.next

-- 3.4.7
abbrev pub BGE : Simple
BGE o = branch (signed_holds GreaterOrEqual o.x o.y) o.word o.next

-- 3.4.8
abbrev pub BGEU : Simple
BGEU o = branch (unsigned_holds GreaterOrEqual o.x o.y) o.word o.next

-- 3.4.9
abbrev pub BGT : Simple
BGT o = branch (signed_holds Greater o.x o.y) o.word o.next

-- 3.4.10
abbrev pub BGTU : Simple
BGTU o = branch (unsigned_holds Greater o.x o.y) o.word o.next

-- 3.4.11
abbrev pub J : Simple
J o = jump_to (target 26 o.word o.next)

-- 3.4.12
abbrev pub JR : Simple
JR o = jump_to o.x

-- 3.4.13
abbrev pub JAL : Simple
JAL o = Write 31 o.next (target 26 o.word o.next) no_slot

-- 3.4.14: its register is read before R31 is written
abbrev pub JALR : Simple
JALR o = Write 31 o.next o.x no_slot

-- opcodes 20 to 2D
unfoldable pub controls : List Simple
controls = BEQ ∷ BNE ∷ BLE ∷ BLEU ∷ BLT ∷ BLTU ∷ BGE ∷ BGEU ∷ BGT ∷ BGTU ∷ J ∷ JR ∷ JAL ∷ JALR ∷ []
