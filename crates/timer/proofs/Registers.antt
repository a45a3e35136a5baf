-- A timer that holds words: its registers read as words, and stores and ticks keep it so; they keep a fit one fit, too.
use mathlib.Core.Path.{◌≡◌}
use mathlib.Core.Bool.{◌&&◌}
use Prim.Native.Nat.{ℕ, ◌/◌, ◌%◌, ◌^◌, ◌≤◌, ◌<◌}
use native.Mathlib.Omega.{arith}
use lib.Dec.{leb, eqb}
use borrow.Author.Tests.{ne_eqb}
use Rattle.words.proofs.Cases.{case}
use Rattle.words.proofs.Conjunction.{two}
use Rattle.timer.specs.Timer.{timer, raised, register_read, register_written, ticked, TimerWords}
use Rattle.timer.specs.declared.Timer.{Timer}

pub read_word : (t : Timer) → TimerWords t → (at : ℕ) → register_read t at < 2 ^ 32
unfolding register_read
read_word t h at = case (λ (v : ℕ). v < 2 ^ 32) (eqb at 0) (λ _. h.control) (λ _. h.divisor)

pub written_words : (t : Timer) → TimerWords t → (at v : ℕ) → TimerWords (register_written t at v)
unfolding register_written
written_words t h at v =
    case TimerWords (eqb at 0)
    (λ _. record { divisor = h.divisor; counter = h.counter; control = omega arith })
    (λ _. record { divisor = omega arith; counter = omega arith; control = h.control })

pub ticked_words : (t : Timer) → TimerWords t → TimerWords (ticked t)
unfolding ticked
ticked_words t h =
    case TimerWords (eqb t.divisor 0)
    (λ _. h)
    (λ _. case TimerWords (leb t.counter 1)
    (λ _. record { divisor = h.divisor; counter = h.divisor; control = omega (arith, h.control) })
    (λ _. record { divisor = h.divisor; counter = omega (arith, h.counter); control = h.control }))

-- ---- fitness

pub written_fits : (t : Timer) → t.control ≤ 3 → (at v : ℕ) → (register_written t at v).control ≤ 3
unfolding register_written
written_fits t h at v = case (λ (u : Timer). u.control ≤ 3) (eqb at 0) (λ _. omega arith) (λ _. h)

pub ticked_fits : (t : Timer) → t.control ≤ 3 → (ticked t).control ≤ 3
unfolding ticked
ticked_fits t h =
    case (λ (u : Timer). u.control ≤ 3) (eqb t.divisor 0)
    (λ _. h)
    (λ _. case (λ (u : Timer). u.control ≤ 3) (leb t.counter 1) (λ _. omega (arith, h)) (λ _. h))

-- ---- as the code has them

pub raised_as_tested : (t : Timer) → (eqb (t.control % 2) 1 && eqb (t.control / 2 % 2) 1) ≡ raised t
unfolding raised
raised_as_tested t = two (eqb (t.control % 2) 1) (eqb (t.control / 2 % 2) 1)

pub to_divisor : (t : Timer) (at v : ℕ) → (at ≡ 0 → ⊥) → v < 2 ^ 32 → timer v v t.control ≡ register_written t at v
unfolding register_written
to_divisor t at v n h = let same : v % 2 ^ 32 ≡ v = omega arith in simp (ne_eqb at 0 n, same)
