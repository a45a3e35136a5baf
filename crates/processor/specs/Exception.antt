-- Exception entry and return (manual, 2.8; document 01, "One step").
use Rattle.std.specs.Prelude.{ℕ, slice_index, slice_set}
use Rattle.status.specs.Psw.{pushed, popped}
use Rattle.processor.specs.Entry.{service_address, bad_address_after, entry_high_after}
use Rattle.processor.specs.State.{with_registers, with_pc, with_specials}
use Rattle.processor.specs.declared.Processor.{Processor}

-- the state after an exception is accepted, before the instruction at the PC completes: that is the next instruction for an interrupt, and
-- the faulting one for a fault
unfoldable pub entered : Processor → ℕ → ℕ → Processor
entered p eid address =
    with_specials (with_pc (with_registers p (slice_set p.registers 30 p.pc)) (service_address p.psw eid address))
    (pushed p.psw eid) p.index (entry_high_after eid address p.entryhigh) p.entrylow (bad_address_after eid address p.badaddress)

-- RFX (3.6.2)
unfoldable pub returned : Processor → Processor
returned p =
    with_specials (with_pc p (slice_index p.registers 30)) (popped p.psw) p.index p.entryhigh p.entrylow p.badaddress
