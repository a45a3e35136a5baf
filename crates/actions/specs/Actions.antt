-- Actions that are more than one method of the processor (manual, 3.5 and 3.6).
use Rattle.sums.specs.Sums.{sum}
use Rattle.processor.specs.declared.Processor.{Processor}
use Rattle.instructions.specs.Action.{Action, Write, Store, System, Exception, SystemInstruction, Rfx, Mvfs, Mvts, Tbs, Tbwr, Tbri, Tbwi}
use Rattle.processor.specs.Exception.{entered, returned}
use Rattle.processor.specs.Register.{written, jumped, special, special_written}
use Rattle.processor.specs.Tlb.{indexed_written, random_written, entry_read, searched}

-- on to the next instruction
abbrev pub onward : Processor → Processor
onward p = jumped p (sum p.pc 4)

-- RFX, MVFS, MVTS, TBS, TBWR, TBRI and TBWI (3.6.2 to 3.6.8)
unfoldable pub system_done : SystemInstruction → Processor → Processor
system_done Rfx p = returned p
system_done (Mvfs z n) p = written p n (special p z) (sum p.pc 4)
system_done (Mvts z v) p = special_written (onward p) z v
system_done Tbs p = searched (onward p)
system_done Tbwr p = random_written (onward p)
system_done Tbri p = entry_read (onward p)
system_done Tbwi p = indexed_written (onward p)

-- what an action makes of the processor
abbrev pub processor_after : Processor → Action → Processor
processor_after p (Write n v next slot) = written p n v next
processor_after p (Store width physical v slot) = onward p
processor_after p (System i) = system_done i p
processor_after p (Exception eid address) = entered p eid address
