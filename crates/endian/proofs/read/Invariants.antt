-- `endian::read` meets its contract: the bytes so far make the number so far.
use mathlib.Core.Path.{◌≡◌}
use Rattle.endian.specs.BigEndian.{read_at}
use Rattle.endian.proofs.read.Given as goal

abbrev pub invariant-loop-b : goal.invariant-loop-b
invariant-loop-b g l = l.v ≡ read_at l.b-index l.s l.at
