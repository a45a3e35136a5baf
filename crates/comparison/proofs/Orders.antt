-- Adding 2 ^ 31 modulo 2 ^ 32 turns the signed order of two words into the unsigned one.
use mathlib.Core.Path.{◌≡◌, refl, ap, sym, ◌∙◌}
use mathlib.Core.Bool.{Bool, true, false, not}
use Prim.Native.Nat.{ℕ, ◌+◌, ◌-◌, ◌%◌, ◌^◌, ◌<◌}
use native.Mathlib.Omega.{arith}
use lib.Dec.{ltb, leb, eqb}
use lib.Signed.{lt_z, le_z}
use lib.IntN.{ℤ, pos, negsuc}
use borrow.Author.Tests.{lt-ltb, le-ltb, le-leb, lt-leb, eq-eqb, ne_eqb, eqb-true, eqb-false}
use Rattle.words.specs.Numbers.{truncate, signed}
use Rattle.sums.specs.Sums.{sum}
use Rattle.comparison.specs.Comparison.{unsigned_holds, signed_holds}
use Rattle.comparison.specs.declared.Order.{Order}
use Rattle.comparison.specs.declared.Order.TheVariants.{Equal, NotEqual, LessOrEqual, Less, GreaterOrEqual, Greater}
use Rattle.words.proofs.Cases.{below_or_not, same_ltb}
use Rattle.words.proofs.Integers.{by_signs}

leb_not : (m n : ℕ) → leb m n ≡ not (ltb n m)
leb_not m n =
    below_or_not n m (λ h. rw (lt-leb m n h, lt-ltb n m h)) (λ h. rw (le-leb m n h, le-ltb n m h))

le_z_not : (u v : ℤ) → le_z u v ≡ not (lt_z v u)
le_z_not (pos m) (pos n) = leb_not m n
le_z_not (pos m) (negsuc n) = refl
le_z_not (negsuc m) (pos n) = refl
le_z_not (negsuc m) (negsuc n) = leb_not n m

abbrev biased : ℕ → ℕ
biased x = (x + 2147483648) % 4294967296

module _ (x y : ℕ) (hx : x < 2 ^ 32) (hy : y < 2 ^ 32) where
  less : lt_z (signed 32 x) (signed 32 y) ≡ ltb (biased x) (biased y)
  less =
      let a : ℕ = biased x in
      let b : ℕ = biased y in
      by_signs (λ u v. lt_z u v ≡ ltb a b) x y hx hy
      (λ lx ly. same_ltb x y a b (λ h. omega arith) (λ h. omega arith)) (λ lx ly. sym (le-ltb a b (omega arith)))
      (λ lx ly. sym (lt-ltb a b (omega arith))) (λ lx ly. same_ltb (4294967295 - y) (4294967295 - x) a b (λ h. omega arith) (λ h. omega arith))

  equal : eqb x y ≡ eqb (biased x) (biased y)
  equal = go (eqb x y) refl
    where
      go : (t : Bool) → eqb x y ≡ t → eqb x y ≡ eqb (biased x) (biased y)
      go true e = e ∙ sym (eq-eqb (biased x) (biased y) (ap biased (eqb-true x y e)))
      go false e = e ∙ sym (ne_eqb (biased x) (biased y) (λ h. eqb-false x y e (omega arith)))

less_or_equal : (x y : ℕ) → x < 2 ^ 32 → y < 2 ^ 32
    → le_z (signed 32 x) (signed 32 y) ≡ leb (biased x) (biased y)
less_or_equal x y hx hy = le_z_not (signed 32 x) (signed 32 y) ∙ ap not (less y x hy hx) ∙ sym (leb_not (biased x) (biased y))

pub signed_by_unsigned : (o : Order) (x y : ℕ) → x < 2 ^ 32 → y < 2 ^ 32
    → signed_holds o x y ≡ unsigned_holds o (sum x 2147483648) (sum y 2147483648)
unfolding signed_holds unsigned_holds sum truncate
signed_by_unsigned Equal x y hx hy = equal x y hx hy
signed_by_unsigned NotEqual x y hx hy = ap not (equal x y hx hy)
signed_by_unsigned LessOrEqual x y hx hy = less_or_equal x y hx hy
signed_by_unsigned Less x y hx hy = less x y hx hy
signed_by_unsigned GreaterOrEqual x y hx hy = less_or_equal y x hy hx
signed_by_unsigned Greater x y hx hy = less y x hy hx
