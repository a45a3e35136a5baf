-- Channel 14 is the host's line or the timer's: it is accepted exactly when it is asked for, I_C and its bit of IEN allow it, and no lower channel is
-- ready (document 02, job 1; manual, 2.7.3 and chapter 5, section 4).
use mathlib.Core.Path.{◌≡◌, refl, sym, ◌∙◌}
use mathlib.Core.Bool.{Bool, true, false, cond, true≢false}
use mathlib.Core.Logic.{◌⊎◌, inl, inr}
use Prim.Native.Nat.{ℕ, zero, suc, ◌+◌, ◌/◌, ◌%◌, ◌^◌, ◌≤◌, ◌<◌}
use native.Mathlib.Omega.{arith}
use lib.Bits.{bit_and, bit_or}
use lib.Dec.{eqb}
use borrow.Author.Tests.{eqb-true, eqb-false}
use Rattle.words.specs.Logic.{Exactly}
use Rattle.words.specs.Numbers.{bit}
use Rattle.words.proofs.Cases.{below_or_not, bit_lt}
use Rattle.bitwise.specs.Bitwise.{or}
use Rattle.bitwise.proofs.BitLaws.{or_bit}
use Rattle.timer.specs.Timer.{raised, lines_with}
use Rattle.timer.specs.declared.Timer.{Timer}
use Rattle.status.specs.Psw.{interrupt_current, enabled}
use Rattle.look.specs.Interrupt.{lowest, channel}
use Rattle.look.proofs.Ready.{bit_zero, bit_next, IsReady, ready_set, set_ready, accepted_lowest}

-- ---- what the search tells of the bits

from_or_none : (n i ready : ℕ) → (lowest n i ready ≡ 32) ⊎ (i ≤ lowest n i ready)
unfolding lowest
from_or_none zero i ready = inl refl
from_or_none (suc n) i ready = go (eqb (ready % 2) 1) (from_or_none n (suc i) (ready / 2))
  where
    go : (t : Bool) → (lowest n (suc i) (ready / 2) ≡ 32) ⊎ (suc i ≤ lowest n (suc i) (ready / 2))
        → (cond t i (lowest n (suc i) (ready / 2)) ≡ 32) ⊎ (i ≤ cond t i (lowest n (suc i) (ready / 2)))
    go true h = inr (omega arith)
    go false (inl e) = inl e
    go false (inr h) = inr (omega arith)

not_before : {i found : ℕ} → (found ≡ 32) ⊎ (suc i ≤ found) → found ≡ i → i < 32 → ⊥
not_before (inl e) f h = omega arith
not_before (inr l) f h = omega arith

-- the bit that is found is set, and none below it is
abbrev Found : ℕ → ℕ → Type 0
Found ready k = (bit k ready ≡ 1) × ((j : ℕ) → j < k → bit j ready ≡ 1 → ⊥)

found_next : (ready k : ℕ) → (ready % 2 ≡ 1 → ⊥) → Found (ready / 2) k → Found ready (suc k)
found_next ready k even f = (sym (bit_next k ready) ∙ f.0, none)
  where
    none : (j : ℕ) → j < suc k → bit j ready ≡ 1 → ⊥
    none zero h e = even (sym (bit_zero ready) ∙ e)
    none (suc j) h e = f.1 j (omega arith) (bit_next j ready ∙ e)

lowest_means : (n i ready k : ℕ) → lowest n i ready ≡ i + k → i + k < 32 → Found ready k
unfolding lowest
lowest_means zero i ready k e h = absurd (omega arith)
lowest_means (suc n) i ready k e h = go (eqb (ready % 2) 1) refl k e h (λ l on low. lowest_means n (suc i) (ready / 2) l on low)
  where
    go : (t : Bool) → eqb (ready % 2) 1 ≡ t → (k : ℕ) → cond t i (lowest n (suc i) (ready / 2)) ≡ i + k → i + k < 32
        → ((l : ℕ) → lowest n (suc i) (ready / 2) ≡ suc i + l → suc i + l < 32 → Found (ready / 2) l) → Found ready k
    go true odd zero f l next = (bit_zero ready ∙ eqb-true _ _ odd, λ j m x. omega arith)
    go true odd (suc k) f l next = absurd (omega arith)
    go false even zero f l next = absurd (not_before (from_or_none n (suc i) (ready / 2)) (omega arith) (omega arith))
    go false even (suc k) f l next =
        let on : lowest n (suc i) (ready / 2) ≡ suc i + k = omega arith in
        found_next ready k (eqb-false _ _ even) (next k on (omega arith))

-- ---- the lines with the timer's

unraised : {A : Type 0} {r : Bool} → r ≡ false → A ⊎ (r ≡ true) → A
unraised e (inl a) = a
unraised e (inr f) = absurd (true≢false (sym f ∙ e))

asked : (t : Timer) (lines : ℕ) → Exactly (bit 14 (lines_with t lines) ≡ 1) ((bit 14 lines ≡ 1) ⊎ (raised t ≡ true))
unfolding lines_with or bit
asked t lines = go (raised t) refl
  where
    go : (r : Bool) → raised t ≡ r
        → Exactly (bit 14 (cond r (bit_or lines (2 ^ 14)) lines) ≡ 1) ((bit 14 lines ≡ 1) ⊎ (raised t ≡ true))
    go true e = ((λ _. inr e), λ _. or_bit 14 lines (2 ^ 14) ∙ omega (arith, bit_lt 14 lines))
    go false e = ((λ f. inl f), unraised e)

lower_line : (t : Timer) (lines j : ℕ) → j < 14 → bit j (lines_with t lines) ≡ bit j lines
unfolding lines_with or lowest
lower_line t lines j h = go (raised t)
  where
    -- the search finds bit 14 in it
    unset : bit j (2 ^ 14) ≡ 0
    unset =
        below_or_not (bit j (2 ^ 14)) 1 (λ l. omega arith)
        (λ g. absurd ((lowest_means 16 0 (2 ^ 14) 14 refl (omega arith)).1 j h (omega (arith, bit_lt j (2 ^ 14)))))

    go : (r : Bool) → bit j (cond r (bit_or lines (2 ^ 14)) lines) ≡ bit j lines
    go true = or_bit j lines (2 ^ 14) ∙ omega (arith, unset, bit_lt j lines)
    go false = refl

-- ---- the theorem

module _ (t : Timer) (psw lines : ℕ) where
  abbrev all : ℕ
  all = lines_with t lines

  -- a lower channel is ready with the timer exactly if it is without
  lower_ready : (j : ℕ) → j < 14 → Exactly (IsReady psw all j) (IsReady psw lines j)
  lower_ready j h =
      ((λ r. (sym (lower_line t lines j h) ∙ r.0, r.1)), λ r. (lower_line t lines j h ∙ r.0, r.1))

  abbrev Due : Type 0
  Due =
      (interrupt_current psw ≡ 1) × (bit 14 (enabled psw) ≡ 1) × ((bit 14 lines ≡ 1) ⊎ (raised t ≡ true))
      × ((j : ℕ) → j < 14 → IsReady psw lines j → ⊥)

  means_due : channel psw all ≡ 14 → Due
  unfolding channel
  means_due e = go (eqb (interrupt_current psw) 1) refl e
    where
      go : (c : Bool) → eqb (interrupt_current psw) 1 ≡ c → cond c (lowest 16 0 (bit_and all (enabled psw))) 32 ≡ 14 → Due
      go true on f =
          let found = lowest_means 16 0 (bit_and all (enabled psw)) 14 f (omega arith) in
          let ready = set_ready psw all 14 found.0 in (
            eqb-true _ _ on,
            ready.1,
            (asked t lines).0 ready.0,
            λ j h r. found.1 j h (ready_set psw all j ((lower_ready j h).1 r)),
          )
      go false off f = absurd (omega arith)

  due_accepted : Due → channel psw all ≡ 14
  due_accepted d =
      accepted_lowest psw all 14 (omega arith) d.0 ((asked t lines).1 d.2, d.1) (λ j h r. d.3 j h ((lower_ready j h).0 r))

  pub channel_14_accepted : Exactly (channel psw all ≡ 14) Due
  channel_14_accepted = (means_due, due_accepted)
