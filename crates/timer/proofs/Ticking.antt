-- What n ticks come to: a timer that does not run stands still, and one that does wraps when its counter has run down (document 02, job 1).
use mathlib.Core.Path.{◌≡◌, refl, ap, ◌∙◌}
use Prim.Native.Nat.{ℕ, zero, suc, ◌-◌, ◌≤◌, ◌<◌}
use native.Mathlib.Omega.{arith}
use borrow.Author.Tests.{le-leb, lt-leb, ne_eqb}
use Rattle.timer.specs.Timer.{timer, flagged, ticked, ticks}

-- ---- one tick

stands : (c k : ℕ) → ticked (timer 0 c k) ≡ timer 0 c k
unfolding ticked
stands c k = refl

pub wraps : (d c k : ℕ) → 1 ≤ d → c ≤ 1 → ticked (timer d c k) ≡ timer d d (flagged k)
unfolding ticked
wraps d c k h e = simp (ne_eqb d 0 (λ z. omega arith), le-leb c 1 e)

pub goes_down : (d c k : ℕ) → 1 ≤ d → 2 ≤ c → ticked (timer d c k) ≡ timer d (c - 1) k
unfolding ticked
goes_down d c k h e = simp (ne_eqb d 0 (λ z. omega arith), lt-leb c 1 e)

-- ---- n ticks

pub stands_still : (n c k : ℕ) → ticks n (timer 0 c k) ≡ timer 0 c k
unfolding ticks
stands_still zero c k = refl
stands_still (suc n) c k = ap ticked (stands_still n c k) ∙ stands c k

-- before the counter has run down, nothing else has moved: a clear flag is clear
pub runs_down : (n d c k : ℕ) → 1 ≤ d → n < c → ticks n (timer d c k) ≡ timer d (c - n) k
unfolding ticks
runs_down zero d c k h e = ap (λ (x : ℕ). timer d x k) (omega arith)
runs_down (suc n) d c k h e =
    ap ticked (runs_down n d c k h (omega arith)) ∙ goes_down d (c - n) k h (omega arith)
    ∙ ap (λ (x : ℕ). timer d x k) (omega arith)

-- after as many ticks as the counter says, the flag is set and the counter holds the divisor
pub wraps_after : (c d k : ℕ) → 1 ≤ c → 1 ≤ d → ticks c (timer d c k) ≡ timer d d (flagged k)
unfolding ticks
wraps_after zero d k e h = absurd (omega arith)
wraps_after (suc n) d k e h =
    ap ticked (runs_down n d (suc n) k h (omega arith)) ∙ wraps d (suc n - n) k h (omega arith)
