-- A representable machine from its fourteen facts.
use Prim.Native.Nat.{ℕ, ◌^◌, ◌<◌}
use Rattle.timer.specs.Timer.{TimerWords}
use Rattle.machine.specs.Machine.{Machine, Words32, Bytes, Representable}

abbrev pub Word : ℕ → Type 0
Word n = n < 2 ^ 32

pub representable : {m : Machine} → Words32 m.processor.registers → Word m.processor.pc → Word m.processor.psw → Word m.processor.index
    → Word m.processor.entryhigh → Word m.processor.entrylow → Word m.processor.badaddress
    → Words32 m.processor.tlbhigh → Words32 m.processor.tlblow → Word m.processor.replacement → TimerWords m.timer
    → Bytes m.memory.ram → Bytes m.memory.rom → Bytes m.memory.belt → Representable m
representable registers pc psw index high low bad highs lows replacement timer ram rom belt =
    record {
      registers = registers;
      pc = pc;
      psw = psw;
      index = index;
      entryhigh = high;
      entrylow = low;
      badaddress = bad;
      tlbhigh = highs;
      tlblow = lows;
      replacement = replacement;
      timer = timer;
      ram = ram;
      rom = rom;
      belt = belt;
    }
