-- `record_layout::kinds_in_place` meets its contract, by the kind bytes that its tests read.
use Rattle.record_layout.proofs.KindLaws.{kind_tests}
use Rattle.record_layout.proofs.kinds_in_place.Goals as goal

pub returns : goal.returns
returns c =
    kind_tests _ c.read.ensures c.read-2.ensures c.read-3.ensures
    c.read-4.ensures c.read-5.ensures c.timer_kind_in_place.ensures
