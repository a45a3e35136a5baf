-- The processor of a record and its timer, from their fields.
use mathlib.Core.Path.{◌≡◌}
use mathlib.Core.List.{List}
use Prim.Native.Nat.{ℕ, ◌≤◌, ◌<◌}
use lib.ListN.{length}
use borrow.Author.Tests.{lt-ltb, le-ltb}
use Rattle.endian.specs.BigEndian.{read_at}
use Rattle.timer.specs.Timer.{timer, timer_at_reset}
use Rattle.processor.specs.declared.Processor.{Processor}
use Rattle.arrays.specs.Numbers.{words_at}
use Rattle.record_layout.specs.Record.{processor_of, timer_of}

module _ (s : List ℕ) where
  pub fields_read : {registers tlbhigh tlblow : List ℕ} {pc psw index entryhigh entrylow badaddress replacement : ℕ}
      → registers ≡ words_at 32 s 1 4
      → tlbhigh ≡ words_at 32 s 156 8
      → tlblow ≡ words_at 32 s 160 8
      → pc ≡ read_at 4 s 130
      → psw ≡ read_at 4 s 135
      → index ≡ read_at 4 s 139
      → entryhigh ≡ read_at 4 s 143
      → entrylow ≡ read_at 4 s 147
      → badaddress ≡ read_at 4 s 151
      → replacement ≡ read_at 1 s 413
      → ◌≡◌ {A = Processor} (record {
        registers = registers;
        pc = pc;
        psw = psw;
        index = index;
        entryhigh = entryhigh;
        entrylow = entrylow;
        badaddress = badaddress;
        tlbhigh = tlbhigh;
        tlblow = tlblow;
        replacement = replacement;
      }) (processor_of s)
  unfolding processor_of
  fields_read a b c d e f g h i j = rw (a, b, c, d, e, f, g, h, i, j)

  -- with a timer, and without it
  pub timer_read_lem : {divisor counter control : ℕ} → 424 ≤ length s
      → divisor ≡ read_at 4 s 415
      → counter ≡ read_at 4 s 419
      → control ≡ read_at 1 s 423
      → timer divisor counter control ≡ timer_of s
  unfolding timer_of
  timer_read_lem h a b c = rw (le-ltb (length s) 424 h, a, b, c)

  pub timer_absent : length s < 424 → timer_at_reset ≡ timer_of s
  unfolding timer_of
  timer_absent h = rw (lt-ltb (length s) 424 h)
