-- The translation lookaside buffer (manual, 2.9; 3.6.5 to 3.6.8; document 01, "Closed by us"; document 02, job 4).
use Rattle.std.specs.Prelude.{ℕ, ◌%◌, slice_index, slice_set}
use Rattle.tlb.specs.Lookup.{page_of, lookup, next_replacement, found_index}
use Rattle.processor.specs.State.{with_specials, with_tlb, with_replacement}
use Rattle.processor.specs.declared.Processor.{Processor}

-- TLB entry i, modulo 32, written from Entry High and Entry Low
unfoldable pub entry_written : Processor → ℕ → Processor
entry_written p i = with_tlb p (slice_set p.tlbhigh (i % 32) p.entryhigh) (slice_set p.tlblow (i % 32) p.entrylow)

-- TBWI: by bits 4..0 of TLB Index
unfoldable pub indexed_written : Processor → Processor
indexed_written p = entry_written p p.index

-- TBWR: at the replacement index, which it does not move
unfoldable pub random_written : Processor → Processor
random_written p = entry_written p p.replacement

-- the replacement index moved, as at the end of every step
abbrev pub index_moved : Processor → Processor
index_moved p = with_replacement p (next_replacement p.replacement)

-- TLB Index, Entry High and Entry Low set
abbrev pub tlb_registers : Processor → ℕ → ℕ → ℕ → Processor
tlb_registers p index high low = with_specials p p.psw index high low p.badaddress

-- TBRI
unfoldable pub entry_read : Processor → Processor
entry_read p = tlb_registers p p.index (slice_index p.tlbhigh (p.index % 32)) (slice_index p.tlblow (p.index % 32))

-- TBS: the index of the TLB entry for Entry High's page, or 80000000
unfoldable pub searched : Processor → Processor
searched p = tlb_registers p (found_index (lookup p.tlbhigh (page_of p.entryhigh))) p.entryhigh p.entrylow
