-- `machine::is_fit` meets its contract, by its definition in parts.
use Rattle.machine.proofs.Tests.{only_fit}
use Rattle.machine.proofs.is_fit.Goals as goal

pub returns : goal.returns
returns c = only_fit _ c.only_special.ensures c.only_words.ensures
