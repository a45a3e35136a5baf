-- The test is true exactly of equal lists, and is what `==` says of two slices.
use Rattle.std.proofs.Common.{◌≡◌, refl, ap₂, Bool, true, List, [], ◌∷◌, ℕ}
use Rattle.std.specs.Cmp.Lexicographic.{pointwise}
use lib.Dec.{eqb}
use borrow.Author.Tests.{eq-eqb, eqb-true}
use Rattle.words.specs.Logic.{both}
use Rattle.words.proofs.Conjunction.{both_true, two}
use Rattle.byte_slices.specs.Same.{same}

pub same_equal : (a b : List ℕ) → same a b ≡ true → a ≡ b
unfolding same
same_equal [] [] e = refl
same_equal [] (y ∷ b) e = cc
same_equal (x ∷ a) [] e = cc
same_equal (x ∷ a) (y ∷ b) e =
    let (heads, rest) = both_true (eqb x y) (same a b) e in
    ap₂ (λ (n : ℕ) (l : List ℕ). n ∷ l) (eqb-true x y heads) (same_equal a b rest)

-- two numbers, or two lists, that are tested first of several tests which all pass
pub numbers_first : (a b : ℕ) (t : Bool) → both (eqb a b) t ≡ true → (a ≡ b) × (t ≡ true)
numbers_first a b t e = let (first, rest) = both_true (eqb a b) t e in (eqb-true a b first, rest)

pub lists_first : (a b : List ℕ) (t : Bool) → both (same a b) t ≡ true → (a ≡ b) × (t ≡ true)
lists_first a b t e = let (first, rest) = both_true (same a b) t e in (same_equal a b first, rest)

pub same_self : (a : List ℕ) → same a a ≡ true
unfolding same
same_self [] = refl
same_self (x ∷ a) = simp (eq-eqb x x refl) (same_self a)

-- `==` of two slices is the test
pub same_pointwise : (a b : List ℕ) → pointwise eqb a b ≡ same a b
unfolding same
same_pointwise [] [] = refl
same_pointwise [] (y ∷ b) = refl
same_pointwise (x ∷ a) [] = refl
same_pointwise (x ∷ a) (y ∷ b) = rw (same_pointwise a b) (two (eqb x y) (same a b))
