-- `replay::part` meets its contract, by the laws of CommandLaws.
use Rattle.replay.proofs.CommandLaws.{again, part_judged}
use Rattle.replay.proofs.part.Goals as goal

pub loop-i-preserved : goal.loop-i-preserved
loop-i-preserved c = again _ _ _ _ c.loop-i.invariant c.loop-i-test.true c.read-word.ensures c.read-number.ensures c.command.ensures

pub returns : goal.returns
returns c = part_judged _ _ _ _ c.loop-i.invariant c.loop-i-test.false c.judge.ensures
