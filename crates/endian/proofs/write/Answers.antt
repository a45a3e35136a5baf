-- `endian::write` meets its contract, by the laws of Widths.
use mathlib.Core.Path.{◌∙◌, sym}
use Rattle.endian.proofs.Widths.{write_more, write_none}
use Rattle.endian.proofs.write.Goals as goal

pub loop-i-preserved : goal.loop-i-preserved
loop-i-preserved g c = c.loop-i.invariant ∙ write_more c.loop-i.i c.loop-i.s c.args.at c.loop-i.rest c.loop-i-test.true

pub returns : goal.returns
returns g c = sym (c.loop-i.invariant ∙ write_none c.loop-i.i c.loop-i.s c.args.at c.loop-i.rest c.loop-i-test.false)
