-- What the tests of words say, as facts, and the facts that they come to; and one word written among the others.
use mathlib.Core.Path.{◌≡◌, refl}
use mathlib.Core.Bool.{Bool, true, false}
use mathlib.Core.List.{List}
use Prim.Native.Nat.{ℕ, zero, suc, ◌+◌, ◌<◌}
use native.Mathlib.Omega.{arith}
use native.Mathlib.Nat.{zero-add, add-zero, add-suc, suc-add}
use lib.Dec.{eqb}
use lib.ListN.{length, get_or, set}
use lib.Seq.{get_or-set_same, get_or-set_other, set_out}
use borrow.Author.Tests.{eqb-true, eqb-false, eq-eqb}
use Rattle.words.proofs.Cases.{below_or_not}
use Rattle.words.proofs.Conjunction.{both_true, true_both}
use Rattle.words.specs.Logic.{both}
use Rattle.kept_bits.specs.Kept.{kept_psw, kept_index, kept_high, kept_low, only, only_from}
use Rattle.kept_bits.specs.Code.{only_special}

-- the special registers tested first, and then what is left
pub special_first : (psw index high low : ℕ) (rest : Bool)
    → both (only kept_psw psw) (both (only kept_index index) (both (only kept_high high) (both (only kept_low low) rest)))
    ≡ both (only_special psw index high low) rest
unfolding only_special
special_first psw index high low rest = go (only kept_psw psw) (only kept_index index) (only kept_high high) (only kept_low low)
  where
    go : (a b c d : Bool) → both a (both b (both c (both d rest))) ≡ both (both a (both b (both c d))) rest
    go true true true d = refl
    go true true false d = refl
    go true false c d = refl
    go false b c d = refl

-- each of the 32 words of a list has no bit but the kept ones
abbrev pub Only : (ℕ → ℕ) → List ℕ → Type 0
Only kept l = (i : ℕ) → i < 32 → kept (get_or l i 0) ≡ get_or l i 0

module _ (kept : ℕ → ℕ) (l : List ℕ) where
  only_each : (n i : ℕ) → only_from kept n l i ≡ true → (j : ℕ) → j < n → kept (get_or l (i + j) 0) ≡ get_or l (i + j) 0
  unfolding only_from
  only_each zero i e j h = absurd (omega arith)
  only_each (suc n) i e zero h =
      let first = (both_true (only kept (get_or l i 0)) (only_from kept n l (suc i)) e).0 in
      rw (add-zero i) (eqb-true _ _ first)
  only_each (suc n) i e (suc j) h =
      let rest = (both_true (only kept (get_or l i 0)) (only_from kept n l (suc i)) e).1 in
      rw (add-suc i j, ← suc-add i j) (only_each n (suc i) rest j (omega arith))

  each_only : (n i : ℕ) → ((j : ℕ) → j < n → kept (get_or l (i + j) 0) ≡ get_or l (i + j) 0) → only_from kept n l i ≡ true
  unfolding only_from
  each_only zero i h = refl
  each_only (suc n) i h =
      true_both (only kept (get_or l i 0)) (only_from kept n l (suc i))
      (eq-eqb _ _ (rw (add-zero i) at (h 0 (omega arith))))
      (each_only n (suc i) (λ j k. rw (suc-add i j, ← add-suc i j) (h (suc j) (omega arith))))

  pub only_means : only_from kept 32 l 0 ≡ true → Only kept l
  only_means e i h = rw zero-add at (only_each 32 0 e i h)

  pub means_only : Only kept l → only_from kept 32 l 0 ≡ true
  means_only h = each_only 32 0 (λ j k. rw zero-add (h j k))

pub set_only : (kept : ℕ → ℕ) (l : List ℕ) (i v : ℕ) → kept v ≡ v → Only kept l → Only kept (set l i v)
set_only kept l i v hv h j hj = go (eqb j i) refl
  where
    go : (t : Bool) → eqb j i ≡ t → kept (get_or (set l i v) j 0) ≡ get_or (set l i v) j 0
    go true e =
        rw (eqb-true j i e)
        (below_or_not i (length l)
        (λ k. rw (get_or-set_same l i v 0 k) hv)
        (λ k. rw (set_out l i v k, ← eqb-true j i e) (h j hj)))
    go false e = rw (get_or-set_other l i j v 0 (eqb-false j i e)) (h j hj)
