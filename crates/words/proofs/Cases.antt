-- Cases by a test, and equal tests from equivalent orders.
use Rattle.std.proofs.Common.{◌≡◌, ℕ, ◌<◌, ◌≤◌, Bool, true, false, cond, ltb, leb, sym, refl, ◌∙◌, arith, ltb-false, ltb-true, le-ltb, lt-ltb, le-leb}
use Rattle.words.specs.Numbers.{bit}
use borrow.Author.Tests.{lt-leb}

-- what holds of both holds of the one that is chosen
pub chosen {ℓ κ} : {A : Type ℓ} (P : A → Type κ) (t : Bool) {x y : A} → P x → P y → P (cond t x y)
chosen P true h k = h
chosen P false h k = k

-- the same, where the test is known for each
pub case {ℓ κ} : {A : Type ℓ} (P : A → Type κ) (t : Bool) {x y : A} → (t ≡ true → P x) → (t ≡ false → P y) → P (cond t x y)
case P true h k = h refl
case P false h k = k refl

-- by the test that chose
pub by_test {ℓ κ} : {A : Type ℓ} {B : Type κ} (t : Bool) {x y r : B} → cond t x y ≡ r → (t ≡ true → x ≡ r → A) → (t ≡ false → y ≡ r → A) → A
by_test true e f g = f refl e
by_test false e f g = g refl e

pub below_or_not {ℓ} : {A : Type ℓ} (a b : ℕ) → (a < b → A) → (b ≤ a → A) → A
below_or_not {A} a b f g = go (ltb a b) refl
  where
    go : (t : Bool) → ltb a b ≡ t → A
    go true e = f (ltb-true a b e)
    go false e = g (ltb-false a b e)

pub same_ltb : (a b c d : ℕ) → (a < b → c < d) → (b ≤ a → d ≤ c) → ltb a b ≡ ltb c d
same_ltb a b c d f g =
    below_or_not a b (λ h. lt-ltb a b h ∙ sym (lt-ltb c d (f h))) (λ h. le-ltb a b h ∙ sym (le-ltb c d (g h)))

pub same_leb : (a b c d : ℕ) → (a ≤ b → c ≤ d) → (b < a → d < c) → leb a b ≡ leb c d
same_leb a b c d f g =
    below_or_not b a (λ h. lt-leb a b h ∙ sym (lt-leb c d (g h))) (λ h. le-leb a b h ∙ sym (le-leb c d (f h)))

pub bit_lt : (i n : ℕ) → bit i n < 2
unfolding bit
bit_lt i n = omega arith
