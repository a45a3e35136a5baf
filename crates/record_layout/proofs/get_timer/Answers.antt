-- `record_layout::get_timer` meets its contract, by its fields.
use mathlib.Core.Path.{◌∙◌}
use Rattle.record_layout.proofs.Fields.{timer_read_lem, timer_absent}
use Rattle.record_layout.proofs.get_timer.Goals as goal

pub returns-then-s-lt-LENGTH : goal.returns-then-s-lt-LENGTH
returns-then-s-lt-LENGTH c = c.reset.ensures ∙ timer_absent _ c.if-s-lt-LENGTH.true

pub returns : goal.returns
returns c = timer_read_lem _ c.if-s-lt-LENGTH.false c.read.ensures c.read-2.ensures c.read-3.ensures
