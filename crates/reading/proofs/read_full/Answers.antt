-- `reading::read_full` meets its contract, by the laws of Filling.
use Rattle.std.proofs.Common.{rules}
use Rattle.reading.proofs.Filling.{read_more}
use Rattle.reading.proofs.read_full.Goals as goal

pub loop-at-preserved : goal.loop-at-preserved
loop-at-preserved g c =
    (search rules, search rules, read_more _ _ _ _ _ _ _ _ c.loop-at.invariant.1 c.in_ok-n.ensures.bound.0 c.loop-at.invariant.2 c.in_ok-n.ensures.bytes.0)
