-- `machine::only_words` meets its contract, by what is found of the high words and of the low words.
use Rattle.machine.proofs.Tests.{only_all}
use Rattle.machine.proofs.only_words.Goals as goal

pub returns : goal.returns
returns c = only_all c.args.highs.now c.args.lows.now c.told-highs c.told-lows c.only_highs.ensures c.only_lows.ensures
