-- `arrays::put_words` meets its contract, by the laws of Loops.
use mathlib.Core.Path.{sym, ◌∙◌}
use native.Mathlib.Nat.{zero-mul, add-zero}
use Rattle.arrays.proofs.Loops.{put_more, put_end}
use Rattle.arrays.proofs.put_words.Goals as goal

pub loop-i-init : goal.loop-i-init
loop-i-init c = simp (zero-mul, add-zero)

pub loop-i-preserved : goal.loop-i-preserved
loop-i-preserved c =
    let args = c.args in
    rw c.write.ensures (c.loop-i.invariant ∙ put_more c.loop-i.s args.at args.stride c.loop-i.i args.words.now c.loop-i-test.true)

pub returns : goal.returns
returns c =
    let args = c.args in
    sym (c.loop-i.invariant ∙ put_end c.loop-i.s args.at args.stride c.loop-i.i args.words.now c.loop-i-test.false)
