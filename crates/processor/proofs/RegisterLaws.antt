-- A register write: to register 0 it is a jump.
use mathlib.Core.Path.{◌≡◌}
use Prim.Native.Nat.{ℕ, ◌%◌}
use borrow.Author.Tests.{eq-eqb}
use Rattle.processor.specs.declared.Processor.{Processor}
use Rattle.processor.specs.Register.{put, written, jumped}

pub zero_written : (p : Processor) (n v next : ℕ) → n % 32 ≡ 0 → jumped p next ≡ written p n v next
unfolding written jumped put
zero_written p n v next e = simp (eq-eqb (n % 32) 0 e)
