-- The operands of an instruction as the code's types have them.
use Prim.Native.Nat.{◌^◌, ◌<◌}
use Rattle.instructions.specs.Operands.{Operands}

-- the registers' values and the PC after the fetch are words; nothing is asked of the instruction word
pub record Words (o : Operands) : Type 0 where
  pub x : o.x < 2 ^ 32
  pub y : o.y < 2 ^ 32
  pub next : o.next < 2 ^ 32
