-- The difference of words is what a wrapping subtraction ensures, and that of the integers.
use Rattle.std.proofs.Common.{◌≡◌, ℕ, zero, suc, ◌+◌, ◌-◌, ◌%◌, ◌^◌, ◌<◌, ◌≤◌, pos, neg_ℤ, refl, arith}
use lib.IntN.{sub_ℕ}
use Rattle.words.specs.Numbers.{truncate, word_of}
use Rattle.sums.specs.Sums.{difference}
use Rattle.words.proofs.Cases.{below_or_not}
use Rattle.words.proofs.Integers.{sub_pos, sub_neg, word_pos, word_negsuc}

pub is_difference : (r a b : ℕ) → r < 2 ^ 32 → b < 2 ^ 32 → (r + b) % 2 ^ 32 ≡ a → r ≡ difference a b
unfolding difference truncate
is_difference r a b hr hb e = omega arith

pub difference_of_integers : (x y : ℕ) → x < 2 ^ 32 → y < 2 ^ 32 → difference x y ≡ word_of (sub_ℕ x y)
unfolding difference truncate
difference_of_integers x y hx hy =
    below_or_not x y
    (λ h. rw (sub_neg x y h, word_negsuc (y - suc x) (omega arith)) (omega arith))
    (λ h. rw (sub_pos x y h, word_pos (x - y) (omega arith)) (omega arith))

-- the word of an integer below 0 makes 0 with the integer's opposite
pub word_negated : (n : ℕ) → n ≤ 2 ^ 32 → word_of (neg_ℤ (pos n)) ≡ difference 0 n
unfolding word_of difference truncate
word_negated zero h = refl
word_negated (suc n) h = omega arith
