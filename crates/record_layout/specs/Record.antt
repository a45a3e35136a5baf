-- The machine record: the 424 bytes of a processor and its timer, and what 424 or 414 bytes hold (document 01, "What the host lends"; document 02,
-- job 1).
use Rattle.std.specs.Prelude.{Bool, cond, List, [], ◌∷◌, ◌++◌, ℕ, ltb, eqb, length}
use Rattle.words.specs.Logic.{both, either}
use Rattle.endian.specs.BigEndian.{read_at}
use Rattle.timer.specs.Timer.{timer, timer_at_reset}
use Rattle.timer.specs.declared.Timer.{Timer}
use Rattle.processor.specs.declared.Processor.{Processor}
use Rattle.arrays.specs.Numbers.{bytes_of, word_bytes, pair_bytes, words_at}
use Rattle.record_layout.specs.Layout.{record_length, registers_kind_at, pc_kind_at, special_kind_at, tlb_kind_at, replacement_kind_at, timer_kind_at}
use Rattle.record_layout.specs.Layout.{registers_at, pc_at, psw_at, index_at, entry_high_at, entry_low_at, bad_address_at, tlb_high_at, tlb_low_at, replacement_at}
use Rattle.record_layout.specs.Layout.{timer_divisor_at, timer_counter_at, timer_control_at}

-- the five items of a processor, each a kind byte and its body: the registers, the PC, the special registers, the TLB entries, the replacement
-- index
unfoldable pub processor_items : Processor → List ℕ
processor_items p =
    (1 ∷ word_bytes p.registers)
    ++ (2 ∷ bytes_of 4 p.pc)
    ++ (3 ∷ word_bytes (p.psw ∷ p.index ∷ p.entryhigh ∷ p.entrylow ∷ p.badaddress ∷ []))
    ++ (4 ∷ pair_bytes p.tlbhigh p.tlblow)
    ++ (5 ∷ p.replacement ∷ [])

-- the sixth: divisor, counter, and control in one byte
unfoldable pub timer_item : Timer → List ℕ
timer_item t = 6 ∷ (word_bytes (t.divisor ∷ t.counter ∷ []) ++ (t.control ∷ []))

unfoldable pub record_of : Processor → Timer → List ℕ
record_of p t = processor_items p ++ timer_item t

-- too short for the timer
abbrev pub timerless : List ℕ → Bool
timerless s = ltb (length s) record_length

-- each kind byte is in its place
unfoldable pub kinds_in_place : List ℕ → Bool
kinds_in_place s =
    both (eqb (read_at 1 s registers_kind_at) 1)
    (both (eqb (read_at 1 s pc_kind_at) 2)
    (both (eqb (read_at 1 s special_kind_at) 3)
    (both (eqb (read_at 1 s tlb_kind_at) 4)
    (both (eqb (read_at 1 s replacement_kind_at) 5)
    (either (timerless s) (eqb (read_at 1 s timer_kind_at) 6))))))

-- the registers are 4 bytes apart; the high words of the TLB are 8 bytes apart, and so are the low words
unfoldable pub processor_of : List ℕ → Processor
processor_of s =
    record {
      registers = words_at 32 s registers_at 4;
      pc = read_at 4 s pc_at;
      psw = read_at 4 s psw_at;
      index = read_at 4 s index_at;
      entryhigh = read_at 4 s entry_high_at;
      entrylow = read_at 4 s entry_low_at;
      badaddress = read_at 4 s bad_address_at;
      tlbhigh = words_at 32 s tlb_high_at 8;
      tlblow = words_at 32 s tlb_low_at 8;
      replacement = read_at 1 s replacement_at;
    }

-- the timer is at zero, as at reset, where the record has none
unfoldable pub timer_of : List ℕ → Timer
timer_of s = cond (timerless s) timer_at_reset (timer (read_at 4 s timer_divisor_at) (read_at 4 s timer_counter_at) (read_at 1 s timer_control_at))
