-- The search for the lowest bit that is set, as its loop runs: a turn more, a turn that ends the search, and the end.
use mathlib.Core.Path.{◌≡◌}
use Prim.Native.Nat.{ℕ, ◌+◌, ◌-◌, ◌/◌, ◌%◌, ◌≤◌, ◌<◌}
use native.Mathlib.Numerals.{add-one}
use borrow.Author.Tests.{eq-eqb, ne_eqb}
use Rattle.words.proofs.Counts.{left, over}
use Rattle.look.specs.Interrupt.{lowest}

-- of n turns, those left at turn i
module _ (n i ready : ℕ) where
  pub lowest_more : i < n → (ready % 2 ≡ 1 → ⊥) → lowest (n - i) i ready ≡ lowest (n - (i + 1)) (i + 1) (ready / 2)
  unfolding lowest
  lowest_more h other = rw (left n i h, add-one i) (simp (ne_eqb _ _ other))

  pub lowest_stop : i < n → ready % 2 ≡ 1 → lowest (n - i) i ready ≡ i
  unfolding lowest
  lowest_stop h same = rw (left n i h) (simp (eq-eqb _ _ same))

  pub lowest_end : n ≤ i → lowest (n - i) i ready ≡ 32
  unfolding lowest
  lowest_end h = rw (over n i h)
