-- `load_store::write` meets its contract, by the laws of Widths.
use native.Mathlib.Omega.{arith}
use Rattle.load_store.proofs.Widths.{width_one, width_two, width_four, inside}
use Rattle.load_store.proofs.write.Goals as goal

pub write-requires : goal.write-requires
write-requires c = record { inside = inside _ _ (width_one _ c.in-1.is) c.requires; word = omega arith }

pub write-requires-in-2 : goal.write-requires-in-2
write-requires-in-2 c = record { inside = inside _ _ (width_two _ c.in-2.is) c.requires; word = omega arith }

pub write-requires-in_default : goal.write-requires-in_default
write-requires-in_default c = let m = c.in_default.in_default-own in record { inside = inside _ _ (width_four _ m.rest.0.1 m.rest.1) c.requires; word = omega arith }

pub returns-in-1 : goal.returns-in-1
returns-in-1 c = rw (width_one _ c.in-1.is) c.write.ensures

pub returns-in-2 : goal.returns-in-2
returns-in-2 c = rw (width_two _ c.in-2.is) c.write-in-2.ensures

pub returns-in_default : goal.returns-in_default
returns-in_default c =
    let m = c.in_default.in_default-own in
    rw (width_four _ m.rest.0.1 m.rest.1) c.write-in_default.ensures
