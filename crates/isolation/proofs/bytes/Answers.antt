-- `isolation::bytes` meets its contract: an element of a slice is a value of its type.
use Rattle.isolation.proofs.bytes.Goals as goal

pub returns : goal.returns
returns c = λ i h. (c.type_inv.s i).fits
