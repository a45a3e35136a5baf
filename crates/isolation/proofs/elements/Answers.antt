-- `isolation::elements` meets its contract: an element of a slice is a value of its type.
use Rattle.isolation.proofs.elements.Goals as goal

pub returns : goal.returns
returns c = λ i h. (c.type_inv.l i).fits
