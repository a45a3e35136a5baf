-- `beltrun::run` meets its contract, by the count of `belt_trace::answer` within the buffer.
use mathlib.Core.Path.{refl, sym}
use lib.Seq.{length-take-le}
use Rattle.belt_text.proofs.TextLaws.{within}
use Rattle.beltrun.proofs.Lengths.{bytes_written_lem, read_or_none}
use Rattle.beltrun.proofs.run.Goals as goal

pub slice_bounds-text-end : goal.slice_bounds-text-end
slice_bounds-text-end c = within _ _ c.answer-count.new.text c.answer-count.ensures.count c.answer-count.auto.text

pub slice_bounds-write_all-end : goal.slice_bounds-write_all-end
slice_bounds-write_all-end c =
    let answer = c.answer-count in
    sym (length-take-le answer.result answer.new.text (within _ _ answer.new.text answer.ensures.count answer.auto.text))

pub returns : goal.returns
returns c =
    bytes_written_lem _ _ c.unwrap_or-n.result _ refl (read_or_none c.read_full.result c.read_full.new.buf _ c.read_full.ensures.bound c.unwrap_or-n.ensures)
    c.answer-count.ensures.count
