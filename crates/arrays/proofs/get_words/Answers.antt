-- `arrays::get_words` meets its contract, by the laws of Loops.
use mathlib.Core.Path.{sym, ◌∙◌}
use native.Mathlib.Nat.{sub-zero, zero-mul, add-zero}
use lib.ListN.{length}
use Rattle.arrays.proofs.Loops.{get_more, get_end}
use Rattle.arrays.proofs.get_words.Goals as goal

pub loop-i-init : goal.loop-i-init
loop-i-init c = simp (sub-zero, zero-mul, add-zero)

pub loop-i-preserved : goal.loop-i-preserved
loop-i-preserved c =
    let args = c.args in
    rw c.read.ensures
    (c.loop-i.invariant ∙ get_more args.s.now args.at args.stride (length args.words.now) c.loop-i.i c.loop-i.words c.loop-i.auto.words c.loop-i-test.true)

pub returns : goal.returns
returns c =
    let args = c.args in
    sym (c.loop-i.invariant ∙ get_end args.s.now args.at args.stride (length args.words.now) c.loop-i.i c.loop-i.words c.loop-i.auto.words c.loop-i-test.false)
