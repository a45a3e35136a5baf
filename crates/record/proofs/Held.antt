-- The processor and the timer that bytes hold are values of the code's types, whether they are a record or not.
use mathlib.Core.List.{List}
use Prim.Native.Nat.{ℕ, ◌^◌, ◌<◌}
use native.Mathlib.Omega.{arith}
use lib.ListN.{get_or}
use Rattle.endian.specs.BigEndian.{read_at}
use Rattle.endian.proofs.Widths.{read_lt}
use Rattle.arrays.proofs.ReadLaws.{words_count, words_lt}
use Rattle.words.proofs.Cases.{chosen}
use Rattle.timer.specs.Timer.{timer_at_reset, TimerWords}
use Rattle.record_layout.specs.Record.{timerless, processor_of, timer_of}
use Rattle.record.proofs.WrittenRead.{Value}

module _ (s : List ℕ) (h : (j : ℕ) → get_or s j 0 < 256) where
  word : (at : ℕ) → read_at 4 s at < 2 ^ 32
  word at = omega (arith, read_lt 4 s at h)

  pub held_value : Value (processor_of s)
  unfolding processor_of
  held_value =
      record {
        arrays = record { registers = words_count s h 4 32 _; highs = words_count s h 8 32 _; lows = words_count s h 8 32 _ };
        registers = words_lt s h 4 32 _;
        pc = word _;
        psw = word _;
        index = word _;
        entryhigh = word _;
        entrylow = word _;
        badaddress = word _;
        highs = words_lt s h 8 32 _;
        lows = words_lt s h 8 32 _;
        replacement = omega (arith, read_lt 1 s 413 h);
      }

  pub held_timer : TimerWords (timer_of s)
  unfolding timer_of timer_at_reset
  held_timer =
      chosen TimerWords (timerless s)
      (record { divisor = omega arith; counter = omega arith; control = omega arith })
      (record { divisor = word 415; counter = word 419; control = omega (arith, read_lt 1 s 423 h) })
