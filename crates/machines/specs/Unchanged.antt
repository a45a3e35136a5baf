-- Whether a machine is one that is known, as a test.
use Rattle.std.specs.Prelude.{Bool, List, ℕ, eqb}
use Rattle.words.specs.Logic.{both}
use Rattle.byte_slices.specs.Same.{same}
use Rattle.timer.specs.declared.Timer.{Timer}
use Rattle.processor.specs.declared.Processor.{Processor}
use Rattle.machine.specs.Machine.{Machine}

unfoldable pub same_special : Processor → Processor → Bool
same_special p q =
    both (eqb p.psw q.psw)
    (both (eqb p.index q.index)
    (both (eqb p.entryhigh q.entryhigh)
    (both (eqb p.entrylow q.entrylow)
    (eqb p.badaddress q.badaddress))))

unfoldable pub same_tlb : Processor → Processor → Bool
same_tlb p q =
    both (same p.tlbhigh q.tlbhigh) (both (same p.tlblow q.tlblow) (eqb p.replacement q.replacement))

-- the first five items of the machine record
unfoldable pub same_processor : Processor → Processor → Bool
same_processor p q =
    both (same p.registers q.registers) (both (eqb p.pc q.pc) (both (same_special p q) (same_tlb p q)))

-- and the sixth
unfoldable pub same_timer : Timer → Timer → Bool
same_timer t u =
    both (eqb t.divisor u.divisor) (both (eqb t.counter u.counter) (eqb t.control u.control))

unfoldable pub same_state : Processor → Timer → Processor → Timer → Bool
same_state p t q u = both (same_processor p q) (same_timer t u)

-- the processor, the timer, RAM and belt; no call writes the ROM
unfoldable pub same_machine : Processor → Timer → List ℕ → List ℕ → Machine → Bool
same_machine p t ram belt m =
    both (same_state p t m.processor m.timer) (both (same ram m.memory.ram) (same belt m.memory.belt))
