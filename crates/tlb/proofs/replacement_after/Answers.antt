-- `tlb::replacement_after` meets its contract, by the laws of Replacement.
use mathlib.Core.Path.{sym}
use native.Mathlib.Omega.{arith}
use Rattle.tlb.proofs.Replacement.{rises, goes_on, first_at_once, first_from_below}
use Rattle.tlb.specs.Lookup.{replacement_after}
use Rattle.tlb.proofs.replacement_after.Goals as goal

pub returns-then-steps-eq0 : goal.returns-then-steps-eq0
unfolding replacement_after
returns-then-steps-eq0 c = rw c.if-steps-eq0.true

pub returns-then-replacement-ge31 : goal.returns-then-replacement-ge31
returns-then-replacement-ge31 c = sym (goes_on _ 1 _ (omega (arith, c.if-steps-eq0.false)) (first_at_once _ c.if-replacement-ge31.true))

pub returns-then-steps-room : goal.returns-then-steps-room
returns-then-steps-room c = sym (rises _ _ (omega (arith, c.if-replacement-ge31.false, c.if-steps-room.true)))

pub returns : goal.returns
returns c = sym (goes_on _ _ _ c.if-steps-room.false (first_from_below _ c.if-replacement-ge31.false))
