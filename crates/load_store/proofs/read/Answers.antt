-- `load_store::read` meets its contract, by the laws of Widths.
use native.Mathlib.Omega.{arith}
use Rattle.load_store.proofs.Widths.{width_one, width_two, width_four, inside}
use Rattle.load_store.proofs.read.Goals as goal

pub read-requires : goal.read-requires
read-requires c = record { inside = inside _ _ (width_one _ c.in-1.is) c.requires; word = omega arith }

pub read-requires-in-2 : goal.read-requires-in-2
read-requires-in-2 c = record { inside = inside _ _ (width_two _ c.in-2.is) c.requires; word = omega arith }

pub read-requires-in_default : goal.read-requires-in_default
read-requires-in_default c = record { inside = inside _ _ (width_four _ c.in_default.in_default-own.rest.0.1 c.in_default.in_default-own.rest.1) c.requires; word = omega arith }

pub returns-in-1 : goal.returns-in-1
returns-in-1 c = rw (width_one _ c.in-1.is) c.read.ensures

pub returns-in-2 : goal.returns-in-2
returns-in-2 c = rw (width_two _ c.in-2.is) c.read-in-2.ensures

pub returns-in_default : goal.returns-in_default
returns-in_default c = rw (width_four _ c.in_default.in_default-own.rest.0.1 c.in_default.in_default-own.rest.1) c.read-in_default.ensures
