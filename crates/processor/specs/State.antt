-- The state at reset, a state with one part changed, and which states are fit (document 01, "Closed by us" and cause 6 of "Refused calls").
use Rattle.std.specs.Prelude.{ℕ, Bool, List, replicate, ◌==◌, nat_le, slice_index}
use Rattle.words.specs.Logic.{both}
use Rattle.kept_bits.specs.Kept.{kept_psw, kept_index, kept_high, kept_low, only, only_from}
use Rattle.processor.specs.declared.Processor.{Processor}
use Rattle.processor.specs.Entry.{rom_service}

unfoldable pub at_reset : Processor
at_reset =
    record {
      registers = replicate 32 0;
      pc = rom_service;
      psw = 0;
      index = 0;
      entryhigh = 0;
      entrylow = 0;
      badaddress = 0;
      tlbhigh = replicate 32 0xC0000000;
      tlblow = replicate 32 0;
      replacement = 4;
    }

-- ---- a state with one part changed

-- from its ten fields, in their order
abbrev pub state_of : List ℕ → ℕ → ℕ → ℕ → ℕ → ℕ → ℕ → List ℕ → List ℕ → ℕ → Processor
state_of registers pc psw index high low bad highs lows replacement =
    record {
      registers = registers;
      pc = pc;
      psw = psw;
      index = index;
      entryhigh = high;
      entrylow = low;
      badaddress = bad;
      tlbhigh = highs;
      tlblow = lows;
      replacement = replacement;
    }

abbrev pub with_registers : Processor → List ℕ → Processor
with_registers p registers =
    state_of registers p.pc p.psw p.index p.entryhigh p.entrylow p.badaddress p.tlbhigh p.tlblow p.replacement

abbrev pub with_pc : Processor → ℕ → Processor
with_pc p pc =
    state_of p.registers pc p.psw p.index p.entryhigh p.entrylow p.badaddress p.tlbhigh p.tlblow p.replacement

-- PSW, TLB Index, Entry High, Entry Low and Bad Address
abbrev pub with_specials : Processor → ℕ → ℕ → ℕ → ℕ → ℕ → Processor
with_specials p psw index high low bad = state_of p.registers p.pc psw index high low bad p.tlbhigh p.tlblow p.replacement

-- the high words and the low words of the TLB
abbrev pub with_tlb : Processor → List ℕ → List ℕ → Processor
with_tlb p highs lows =
    state_of p.registers p.pc p.psw p.index p.entryhigh p.entrylow p.badaddress highs lows p.replacement

abbrev pub with_replacement : Processor → ℕ → Processor
with_replacement p replacement =
    state_of p.registers p.pc p.psw p.index p.entryhigh p.entrylow p.badaddress p.tlbhigh p.tlblow replacement

-- ---- which states are fit

-- register 0 is 0, the replacement index is in 4..31, and no bit is set that is never kept
unfoldable pub fit : Processor → Bool
fit p =
    both (slice_index p.registers 0 == 0)
    (both (both (nat_le 4 p.replacement) (nat_le p.replacement 31))
    (both (only kept_psw p.psw)
    (both (only kept_index p.index)
    (both (only kept_high p.entryhigh)
    (both (only kept_low p.entrylow)
    (both (only_from kept_high 32 p.tlbhigh 0) (only_from kept_low 32 p.tlblow 0)))))))
