-- The accepted channel is the lowest one that is ready, and there is none otherwise.
use mathlib.Core.Path.{◌≡◌, refl, ap, sym, ◌∙◌}
use mathlib.Core.Bool.{Bool, true, false, cond}
use Prim.Native.Nat.{ℕ, zero, suc, ◌+◌, ◌*◌, ◌/◌, ◌%◌, ◌^◌, ◌<◌, min}
use native.Mathlib.Nat.{zero-add, add-zero, add-suc, suc-add, div-one, div-div-eq-div-mul, zero-div, lt_of_le_of_lt, pow-suc, pow-succ'}
use native.Mathlib.Omega.{arith}
use lib.Bits.{bit_and, and_le_r}
use lib.Dec.{eqb}
use borrow.Author.Tests.{eq-eqb, ne_eqb, eqb-false}
use Rattle.words.proofs.Cases.{bit_lt}
use Rattle.words.specs.Numbers.{bit}
use Rattle.bitwise.specs.Bitwise.{and}
use Rattle.bitwise.proofs.BitLaws.{and_bit}
use Rattle.status.specs.Psw.{interrupt_current, enabled}
use Rattle.look.specs.Interrupt.{lowest, channel}

-- ---- bits, one shift on

pub bit_zero : (n : ℕ) → bit 0 n ≡ n % 2
unfolding bit
bit_zero n = ap (λ (m : ℕ). m % 2) (div-one n)

pub bit_next : (j n : ℕ) → bit j (n / 2) ≡ bit (suc j) n
unfolding bit
bit_next j n = ap (λ (m : ℕ). m % 2) (div-div-eq-div-mul n 2 (2 ^ j) ∙ ap (λ (m : ℕ). n / m) (sym (pow-succ' 2 j)))

-- ---- the lowest bit of n that is set

lowest_set : (n i ready k : ℕ) → k < n → bit k ready ≡ 1 → ((j : ℕ) → j < k → bit j ready ≡ 1 → ⊥) → lowest n i ready ≡ i + k
unfolding lowest
lowest_set zero i ready k h set none = absurd (omega arith)
lowest_set (suc n) i ready zero h set none = simp (eq-eqb _ _ (sym (bit_zero ready) ∙ set)) (sym (add-zero i))
lowest_set (suc n) i ready (suc k) h set none =
    simp (ne_eqb _ _ (λ e. none 0 (omega arith) (bit_zero ready ∙ e)))
    (lowest_set n (suc i) (ready / 2) k (omega arith) (bit_next k ready ∙ set)
    (λ j l e. none (suc j) (omega arith) (sym (bit_next j ready) ∙ e))
    ∙ suc-add i k ∙ sym (add-suc i k))

lowest_none : (n i ready : ℕ) → ((j : ℕ) → j < n → bit j ready ≡ 1 → ⊥) → lowest n i ready ≡ 32
unfolding lowest
lowest_none zero i ready none = refl
lowest_none (suc n) i ready none =
    simp (ne_eqb _ _ (λ e. none 0 (omega arith) (bit_zero ready ∙ e)))
    (lowest_none n (suc i) (ready / 2) (λ j l e. none (suc j) (omega arith) (sym (bit_next j ready) ∙ e)))

-- a number below 2 ^ n that is not 0 has one of its n bits set
lowest_hits : (n i ready : ℕ) → (ready ≡ 0 → ⊥) → ready < 2 ^ n → lowest n i ready < i + n
unfolding lowest
lowest_hits zero i ready some small = absurd (some (omega (arith, small)))
lowest_hits (suc n) i ready some small = go (eqb (ready % 2) 1) refl (lowest_hits n (suc i) (ready / 2))
  where
    go : (t : Bool) → eqb (ready % 2) 1 ≡ t
        → ((ready / 2 ≡ 0 → ⊥) → ready / 2 < 2 ^ n → lowest n (suc i) (ready / 2) < suc i + n)
        → lowest (suc n) i ready < i + suc n
    go true e rest = simp e (omega arith)
    go false e rest =
        let odd : ready % 2 ≡ 1 → ⊥ = eqb-false (ready % 2) 1 e in
        let half : ready < 2 ^ n * 2 = rw (pow-suc 2 n) at small in
        let hit : lowest n (suc i) (ready / 2) < suc i + n = rest (λ z. some (omega arith)) (omega arith) in
        simp e (omega arith)

-- ---- the channel

-- channel i is ready: its line and its bit of IEN
abbrev pub IsReady : ℕ → ℕ → ℕ → Type 0
IsReady psw lines i = (bit i lines ≡ 1) × (bit i (enabled psw) ≡ 1)

no_bit : (j : ℕ) → bit j 0 ≡ 1 → ⊥
unfolding bit
no_bit j e = let zeroed : 0 / 2 ^ j ≡ 0 = zero-div (2 ^ j) in omega arith

module _ (psw lines : ℕ) where
  enabled_lt : enabled psw < 2 ^ 16
  unfolding enabled
  enabled_lt = omega arith

  pub ready_set : (i : ℕ) → IsReady psw lines i → bit i (bit_and lines (enabled psw)) ≡ 1
  unfolding and
  ready_set i r = and_bit i lines (enabled psw) ∙ rw (r.0, r.1)

  pub set_ready : (i : ℕ) → bit i (bit_and lines (enabled psw)) ≡ 1 → IsReady psw lines i
  unfolding and
  set_ready i e =
      let both : min (bit i lines) (bit i (enabled psw)) ≡ 1 = sym (and_bit i lines (enabled psw)) ∙ e in
      (omega (arith, bit_lt i lines, bit_lt i (enabled psw)), omega (arith, bit_lt i lines, bit_lt i (enabled psw)))

  pub accepted_lowest : (k : ℕ) → k < 16 → interrupt_current psw ≡ 1 → IsReady psw lines k
      → ((j : ℕ) → j < k → IsReady psw lines j → ⊥) → channel psw lines ≡ k
  unfolding channel
  accepted_lowest k h on r none =
      simp (eq-eqb _ _ on)
      (lowest_set 16 0 (bit_and lines (enabled psw)) k h (ready_set k r) (λ j l e. none j l (set_ready j e)) ∙ zero-add k)

  pub none_ready : ((j : ℕ) → j < 16 → IsReady psw lines j → ⊥) → channel psw lines ≡ 32
  unfolding channel
  none_ready none = go (eqb (interrupt_current psw) 1)
    where
      go : (t : Bool) → cond t (lowest 16 0 (bit_and lines (enabled psw))) 32 ≡ 32
      go true = lowest_none 16 0 (bit_and lines (enabled psw)) (λ j l e. none j l (set_ready j e))
      go false = refl

  pub disabled : (interrupt_current psw ≡ 1 → ⊥) → channel psw lines ≡ 32
  unfolding channel
  disabled off = simp (ne_eqb _ _ off)

  -- document 01's condition: I_C is 1 and lines AND IEN is not 0
  pub due : interrupt_current psw ≡ 1 → (bit_and lines (enabled psw) ≡ 0 → ⊥) → channel psw lines < 16
  unfolding channel
  due on some =
      let small : bit_and lines (enabled psw) < 2 ^ 16 = lt_of_le_of_lt (and_le_r lines (enabled psw)) enabled_lt in
      simp (eq-eqb _ _ on) (lowest_hits 16 0 (bit_and lines (enabled psw)) some small)

  pub not_due : bit_and lines (enabled psw) ≡ 0 → channel psw lines ≡ 32
  not_due none = none_ready (λ j l r. no_bit j (sym (ap (bit j) none) ∙ ready_set j r))
