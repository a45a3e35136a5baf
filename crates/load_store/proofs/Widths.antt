-- The width of an access, by the tests of the code.
use mathlib.Core.Path.{◌≡◌, ap, sym, subst, ◌∙◌}
use Prim.Native.Nat.{ℕ, ◌+◌, ◌≤◌}
use borrow.Author.Tests.{ne_eqb}
use Rattle.memory.specs.Map.{place_of}
use Rattle.memory.specs.Access.{access_width}
use Rattle.memory.specs.declared.Place.{Place}

pub width_one : (w : ℕ) → w ≡ 1 → access_width w ≡ 1
unfolding access_width
width_one w e = rw e

pub width_two : (w : ℕ) → w ≡ 2 → access_width w ≡ 2
unfolding access_width
width_two w e = rw e

pub width_four : (w : ℕ) → (w ≡ 1 → ⊥) → (w ≡ 2 → ⊥) → access_width w ≡ 4
unfolding access_width
width_four w e f = simp (ne_eqb w 1 e, ne_eqb w 2 f)

pub inside : (at length : ℕ) {v w : ℕ} → v ≡ w → at + v ≤ length → at + w ≤ length
inside at length e h = subst (λ (n : ℕ). at + n ≤ length) e h

-- the place of a width's bytes, which the code was told for as many
pub told : (w ram rom belt a : ℕ) {n : ℕ} {p q : Place} → n ≡ w → q ≡ place_of n ram rom belt a → q ≡ p → place_of w ram rom belt a ≡ p
told w ram rom belt a e answer given = ap (λ (n : ℕ). place_of n ram rom belt a) (sym e) ∙ sym answer ∙ given
