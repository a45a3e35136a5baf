-- The board's timer (manual, chapter 5, section 4; document 02, job 1): its registers, its ticks, and when it asks for an interrupt.
use Rattle.std.specs.Prelude.{Bool, cond, ℕ, zero, suc, ◌+◌, ◌-◌, ◌*◌, ◌/◌, ◌%◌, ◌^◌, ◌<◌, leb, eqb}
use Rattle.std.specs.Int.Bits.{bit_or}
use Rattle.words.specs.Logic.{both}
use Rattle.timer.specs.declared.Timer.{Timer}

abbrev pub timer : ℕ → ℕ → ℕ → Timer
timer divisor counter control = record { divisor = divisor; counter = counter; control = control }

unfoldable pub timer_at_reset : Timer
timer_at_reset = timer 0 0 0

-- ---- the control register: bit 0 is the wrap-around flag, bit 1 the interrupt enable

abbrev pub flagged : ℕ → ℕ
flagged control = control / 2 * 2 + 1

-- flag and enable
unfoldable pub raised : Timer → Bool
raised t = both (eqb (t.control % 2) 1) (eqb (t.control / 2 % 2) 1)

-- no bit above 1 is kept
unfoldable pub timer_fit : Timer → Bool
timer_fit t = leb t.control 3

-- ---- the registers that answer: control at offset 0, divisor at offset 4

abbrev pub control_at : ℕ
control_at = 0

abbrev pub divisor_at : ℕ
divisor_at = 4

unfoldable pub register_read : Timer → ℕ → ℕ
register_read t at = cond (eqb at control_at) t.control t.divisor

-- control keeps bits 1 and 0 of a word; the divisor loads the counter too
unfoldable pub register_written : Timer → ℕ → ℕ → Timer
register_written t at v = cond (eqb at control_at) (timer t.divisor t.counter (v % 4)) (timer (v % 2 ^ 32) (v % 2 ^ 32) t.control)

-- ---- ticks

-- one tick: with divisor 0 nothing moves
unfoldable pub ticked : Timer → Timer
ticked t =
    cond (eqb t.divisor 0) t
    (cond (leb t.counter 1) (timer t.divisor t.divisor (flagged t.control)) (timer t.divisor (t.counter - 1) t.control))

-- n ticks
unfoldable pub ticks : ℕ → Timer → Timer
ticks zero t = t
ticks (suc n) t = ticked (ticks n t)

-- ---- the interrupt lines that a step sees: channel 14 is the host's line or the timer's

unfoldable pub lines_with : Timer → ℕ → ℕ
lines_with t lines = cond (raised t) (bit_or lines (2 ^ 14)) lines

-- ---- what the code's types say of a timer

pub record TimerWords (t : Timer) : Type 0 where
  pub divisor : t.divisor < 2 ^ 32
  pub counter : t.counter < 2 ^ 32
  pub control : t.control < 2 ^ 32
