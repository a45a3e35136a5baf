-- `record_layout::put` meets its contract: the timer's item, and the items of the processor before it.
use Rattle.record_layout.proofs.Written.{both_written}
use Rattle.record_layout.proofs.put.Goals as goal

pub returns : goal.returns
returns c =
    both_written c.args.state.timer c.args.state.processor c.args.s.now c.requires.0 c.put_timer.ensures
    c.put_processor.ensures
