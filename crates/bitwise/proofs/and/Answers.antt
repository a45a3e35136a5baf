-- `bitwise::and` meets its contract, by its definition.
use borrow.Author.Rules.{rules}
use Rattle.bitwise.specs.Bitwise.{and}
use Rattle.bitwise.proofs.and.Goals as goal

pub returns : goal.returns
unfolding and
returns c = search rules
