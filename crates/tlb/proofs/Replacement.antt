-- The replacement index after n steps: up to 31 it rises with them, and from 4 to 31 it goes round in 28 (document 02, job 4).
use mathlib.Core.Path.{◌≡◌, ap, ◌∙◌}
use Prim.Native.Nat.{ℕ, zero, suc, ◌+◌, ◌-◌, ◌%◌, ◌≤◌, ◌<◌}
use native.Mathlib.Omega.{arith}
use borrow.Author.Tests.{lt-ltb, le-ltb}
use Rattle.words.proofs.Cases.{below_or_not}
use Rattle.tlb.specs.Lookup.{next_replacement, replacement_after}

pub next_up : (r : ℕ) → r < 31 → next_replacement r ≡ r + 1
unfolding next_replacement
next_up r h = simp (lt-ltb _ _ h)

pub next_first : (r : ℕ) → 31 ≤ r → next_replacement r ≡ 4
unfolding next_replacement
next_first r h = simp (le-ltb _ _ h)

-- one place on in the round
next_round : (x : ℕ) → next_replacement (4 + x % 28) ≡ 4 + (x + 1) % 28
next_round x =
    below_or_not (4 + x % 28) 31 (λ h. next_up _ h ∙ omega (arith, h)) (λ h. next_first _ h ∙ omega (arith, h))

-- the index of a fit machine after n steps
pub goes_round : (n r : ℕ) → 4 ≤ r → r ≤ 31 → replacement_after n r ≡ 4 + (r - 4 + n) % 28
unfolding replacement_after
goes_round zero r from upto = omega (arith, from, upto)
goes_round (suc n) r from upto =
    ap next_replacement (goes_round n r from upto) ∙ next_round (r - 4 + n) ∙ omega arith

-- it stays in 4..31
pub index_range : (r : ℕ) → 4 ≤ r → (4 ≤ next_replacement r) × (next_replacement r ≤ 31)
unfolding next_replacement
index_range r from =
    below_or_not r 31 (λ h. rw (lt-ltb _ _ h) (omega (arith, from), omega arith)) (λ h. rw (le-ltb _ _ h) (omega arith, omega arith))

-- ---- as the code reckons it, from any number

pub rises : (n r : ℕ) → r + n ≤ 31 → replacement_after n r ≡ r + n
unfolding replacement_after
rises zero r h = omega arith
rises (suc n) r h = ap next_replacement (rises n r (omega (arith, h))) ∙ next_up (r + n) (omega (arith, h)) ∙ omega arith

-- n steps after k steps
after_more : (n k r : ℕ) → replacement_after (k + n) r ≡ replacement_after n (replacement_after k r)
unfolding replacement_after
after_more zero k r = let same : k + zero ≡ k = omega arith in ap (λ (i : ℕ). replacement_after i r) same
after_more (suc n) k r =
    let same : k + suc n ≡ suc (k + n) = omega arith in
    ap (λ (i : ℕ). replacement_after i r) same ∙ ap next_replacement (after_more n k r)

-- the k-th step is the one to 4
pub goes_on : (n k r : ℕ) → k ≤ n → replacement_after k r ≡ 4 → replacement_after n r ≡ 4 + (n - k) % 28
goes_on n k r h first =
    let split : n ≡ k + (n - k) = omega (arith, h) in
    ap (λ (i : ℕ). replacement_after i r) split ∙ after_more (n - k) k r ∙ ap (replacement_after (n - k)) first
    ∙ goes_round (n - k) 4 (omega arith) (omega arith) ∙ omega arith

pub first_at_once : (r : ℕ) → 31 ≤ r → replacement_after 1 r ≡ 4
unfolding replacement_after
first_at_once r h = next_first r h

pub first_from_below : (r : ℕ) → r < 31 → replacement_after (32 - r) r ≡ 4
unfolding replacement_after
first_from_below r h =
    let last : 32 - r ≡ suc (31 - r) = omega (arith, h) in
    ap (λ (i : ℕ). replacement_after i r) last ∙ ap next_replacement (rises (31 - r) r (omega (arith, h)))
    ∙ next_first (r + (31 - r)) (omega (arith, h))
