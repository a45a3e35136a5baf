-- `bitwise::or` meets its contract, by its definition.
use borrow.Author.Rules.{rules}
use Rattle.bitwise.specs.Bitwise.{or}
use Rattle.bitwise.proofs.or.Goals as goal

pub returns : goal.returns
unfolding or
returns c = search rules
