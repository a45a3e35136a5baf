-- Lent slices as a contract names them: the memory at the entry of a call, of `x.old`, or of `x.now` where the slice is read only, and at its
-- exit, of `x.new`. No call writes the ROM.
use Rattle.std.specs.Prelude.{List, ℕ}
use Rattle.memory.specs.Map.{Memory, memory}

abbrev pub Lent : Type 0
Lent = List ℕ

abbrev pub lent : Lent → Lent → Lent → Memory
lent ram rom belt = memory ram rom belt

abbrev pub left : Lent → Lent → Lent → Memory
left ram rom belt = memory ram rom belt
