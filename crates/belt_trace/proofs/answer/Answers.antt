-- `belt_trace::answer` meets its contract, by the two cases of its definition.
use mathlib.Core.Path.{sym}
use lib.Seq.{length-take-le}
use Rattle.belt_trace.proofs.Lines.{answer_short, answer_full}
use Rattle.belt_trace.proofs.answer.Goals as goal

pub returns-then-input-lt4096 : goal.returns-then-input-lt4096
returns-then-input-lt4096 c =
    let is = answer_short _ c.if-input-lt4096.true in
    record { count = rw is c.short_input.ensures.count; text = rw is c.short_input.ensures.text }

pub slice_bounds-trace-end : goal.slice_bounds-trace-end
slice_bounds-trace-end c = sym (length-take-le 4096 c.args.input.now c.if-input-lt4096.false)

pub returns : goal.returns
returns c =
    let is = answer_full _ c.if-input-lt4096.false in
    record { count = rw is c.trace.ensures.count; text = rw is c.trace.ensures.text }
