-- The expected machine, and whether a machine, an EID and a slot agree with it.
use Rattle.std.specs.Prelude.{Bool, false, cond, List, ℕ, ◌/◌, ◌%◌, eqb, length, replicate}
use Rattle.words.specs.Logic.{both}
use Rattle.memory.specs.Map.{Memory, memory}
use Rattle.timer.specs.Timer.{timer_at_reset}
use Rattle.timer.specs.declared.Timer.{Timer}
use Rattle.processor.specs.declared.Processor.{Processor}
use Rattle.processor.specs.State.{at_reset}
use Rattle.machine.specs.Machine.{Machine, machine, fit_with}
use Rattle.record_layout.specs.Record.{record_of}
use Rattle.record.specs.Calls.{processor_read, timer_read, buffer_after}
use Rattle.byte_slices.specs.Same.{same}
use Rattle.byte_slices.specs.Bytes.{copied, fits, patch}

-- the bytes of the record, and memory
pub record Expected : Type 0 where
  pub bytes : List ℕ
  pub memory : Memory

abbrev pub expected : List ℕ → List ℕ → List ℕ → List ℕ → Expected
expected bytes ram rom belt = record { bytes = bytes; memory = memory ram rom belt }

-- ---- agreement

-- a processor with its timer has a record, and it is this one
unfoldable pub record_agrees : List ℕ → Processor → Timer → Bool
record_agrees bytes p t = both (fit_with p t) (same (record_of p t) bytes)

unfoldable pub memory_agrees : Memory → Memory → Bool
memory_agrees x m =
    both (same m.ram x.ram) (both (same m.rom x.rom) (same m.belt x.belt))

-- an EID and a slot in one number: 256 times the slot, and the EID
unfoldable pub told_agrees : ℕ → ℕ → ℕ → Bool
told_agrees wanted eid slot = both (eqb eid (wanted % 256)) (eqb slot (wanted / 256))

-- the expected EID and slot, the record and all memory, against an EID, a slot and a machine
unfoldable pub agrees : Expected → ℕ → Machine → ℕ → ℕ → Bool
agrees x wanted m eid slot =
    both (told_agrees wanted eid slot) (both (record_agrees x.bytes m.processor m.timer) (memory_agrees x.memory m.memory))

-- ---- commands

abbrev zeros : List ℕ → List ℕ
zeros s = replicate (length s) 0

-- the reset machine, and memory of zeros
unfoldable pub clear : Expected → Expected
clear x =
    expected (buffer_after at_reset timer_at_reset x.bytes) (zeros x.memory.ram) (zeros x.memory.rom) (zeros x.memory.belt)

-- a patch: 1 a word and 2 a byte of the record, 3 a word of RAM, 4 of ROM, 5 of the belt
unfoldable pub patch_fits : Expected → ℕ → ℕ → Bool
patch_fits x kind at =
    cond (eqb kind 1) (fits 4 x.bytes at)
    (cond (eqb kind 2) (fits 1 x.bytes at)
    (cond (eqb kind 3) (fits 4 x.memory.ram at)
    (cond (eqb kind 4) (fits 4 x.memory.rom at)
    (cond (eqb kind 5) (fits 4 x.memory.belt at)
    false))))

abbrev with_bytes : Expected → List ℕ → Expected
with_bytes x s = record { bytes = s; memory = x.memory }

unfoldable pub patched : Expected → ℕ → ℕ → ℕ → Expected
patched x kind at v =
    cond (eqb kind 1) (with_bytes x (patch 4 x.bytes at v))
    (cond (eqb kind 2) (with_bytes x (patch 1 x.bytes at v))
    (cond (eqb kind 3) (expected x.bytes (patch 4 x.memory.ram at v) x.memory.rom x.memory.belt)
    (cond (eqb kind 4) (expected x.bytes x.memory.ram (patch 4 x.memory.rom at v) x.memory.belt)
    (cond (eqb kind 5) (expected x.bytes x.memory.ram x.memory.rom (patch 4 x.memory.belt at v))
    x))))

-- the model's machine made the expected one, in memory of the given lengths
unfoldable pub started_in : Memory → Expected → Machine
started_in m x =
    machine (processor_read x.bytes) (timer_read x.bytes) (copied m.ram x.memory.ram) (copied m.rom x.memory.rom)
    (copied m.belt x.memory.belt)
