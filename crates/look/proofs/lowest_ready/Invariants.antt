-- `look::lowest_ready` meets its contract, by the laws of ChannelLoop.
use mathlib.Core.Path.{◌≡◌}
use Prim.Native.Nat.{◌-◌}
use Rattle.look.specs.Interrupt.{lowest}
use Rattle.look.proofs.lowest_ready.Given as goal

abbrev pub invariant-loop-i : goal.invariant-loop-i
invariant-loop-i l = lowest 16 0 l.ready ≡ lowest (16 - l.i) l.i l.rest
