-- The EID in a line, digit by digit.
use mathlib.Core.Path.{◌≡◌, refl}
use mathlib.Core.Bool.{Bool, true, false, cond}
use mathlib.Core.List.{[], ◌∷◌}
use Prim.Native.Nat.{ℕ, ◌/◌}
use lib.Dec.{ltb}
use Rattle.belt_text.specs.Line.{decimal_digit, two_digits, eid_text}

-- one test for both digits is one for each
each : (t : Bool) (a b : ℕ) → cond t (a ∷ b ∷ []) (45 ∷ 45 ∷ []) ≡ cond t a 45 ∷ cond t b 45 ∷ []
each true a b = refl
each false a b = refl

pub eid_parts : (eid : ℕ)
    → eid_text eid ≡ cond (ltb eid 32) (decimal_digit (eid / 10)) 45 ∷ cond (ltb eid 32) (decimal_digit eid) 45 ∷ []
unfolding eid_text two_digits
eid_parts eid = each (ltb eid 32) (decimal_digit (eid / 10)) (decimal_digit eid)
