-- `bitwise::xor` meets its contract, by its definition.
use borrow.Author.Rules.{rules}
use Rattle.bitwise.specs.Bitwise.{xor}
use Rattle.bitwise.proofs.xor.Goals as goal

pub returns : goal.returns
unfolding xor
returns c = search rules
