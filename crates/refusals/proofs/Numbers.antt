-- The number of a refusal is never that of an accepted call.
use mathlib.Core.Path.{◌≡◌}
use Prim.Native.Nat.{◌≤◌}
use native.Mathlib.Omega.{arith}
use Rattle.refusals.specs.declared.Refusal.{Refusal}
use Rattle.refusals.specs.declared.Refusal.TheVariants.{RamLength, RomLength, BeltLength, RecordLength, KindByte, Unfit, TooManySteps, NoFrame, ChargesLength}
use Rattle.refusals.specs.Code.{refusal_number}

pub from_one : (e : Refusal) → 1 ≤ refusal_number e
from_one RamLength = omega arith
from_one RomLength = omega arith
from_one BeltLength = omega arith
from_one RecordLength = omega arith
from_one KindByte = omega arith
from_one Unfit = omega arith
from_one TooManySteps = omega arith
from_one NoFrame = omega arith
from_one ChargesLength = omega arith

pub never_accepted : (e : Refusal) → refusal_number e ≡ 0 → ⊥
never_accepted e h = omega (arith, from_one e)
