-- `machine::only_special` meets its contract, by the law of its four tests.
use Rattle.machine.proofs.Tests.{only_four}
use Rattle.machine.proofs.only_special.Goals as goal

pub returns : goal.returns
returns c = only_four _ _ _ _ c.kept_psw.ensures c.kept_index.ensures c.kept_high.ensures c.kept_low.ensures
