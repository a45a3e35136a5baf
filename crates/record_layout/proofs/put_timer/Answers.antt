-- `record_layout::put_timer` meets its contract, by the law of the four writes.
use Rattle.record_layout.proofs.Written.{timer_written}
use Rattle.record_layout.proofs.put_timer.Goals as goal

pub returns : goal.returns
returns c =
    timer_written c.args.timer c.requires.1 c.args.s.now c.requires.0 c.write.ensures
    c.write-2.ensures c.write-3.ensures c.write-4.ensures
