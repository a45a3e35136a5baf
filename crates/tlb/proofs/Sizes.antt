-- The index that TBS answers and the replacement index are words.
use Prim.Native.Nat.{ℕ, ◌^◌, ◌<◌}
use native.Mathlib.Omega.{arith}
use borrow.Author.Tests.{lt-ltb, le-ltb}
use Rattle.words.proofs.Cases.{below_or_not}
use Rattle.tlb.specs.Lookup.{next_replacement, found_index}

pub replacement_lt : (r : ℕ) → next_replacement r < 2 ^ 32
unfolding next_replacement
replacement_lt r = below_or_not r 31 (λ h. rw (lt-ltb _ _ h) (omega arith)) (λ h. rw (le-ltb _ _ h) (omega arith))

pub found_lt : (i : ℕ) → found_index i < 2 ^ 32
unfolding found_index
found_lt i = below_or_not i 32 (λ h. rw (lt-ltb _ _ h) (omega arith)) (λ h. rw (le-ltb _ _ h) (omega arith))
