-- `bitwise::xnor` meets its contract, by its definition.
use borrow.Author.Rules.{rules}
use Rattle.bitwise.specs.Bitwise.{xnor}
use Rattle.bitwise.proofs.xnor.Goals as goal

pub returns : goal.returns
unfolding xnor
returns c = search rules
