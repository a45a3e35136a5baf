-- `endian::write` meets its contract: the bytes that are left to write would make the whole number.
use mathlib.Core.Path.{◌≡◌}
use Rattle.endian.specs.BigEndian.{write_at}
use Rattle.endian.proofs.write.Given as goal

abbrev pub invariant-loop-i : goal.invariant-loop-i
invariant-loop-i g l = write_at g.row.N l.initial.s l.at l.v ≡ write_at l.i l.s l.at l.rest
