-- General-purpose and special registers (manual, 2.4 and 2.6; document 01, "Closed by us").
use Rattle.std.specs.Prelude.{ℕ, ◌%◌, cond, List, [], ◌∷◌, ◌==◌, slice_index, slice_set}
use Rattle.kept_bits.specs.Kept.{kept_psw, kept_index, kept_high, kept_low, after}
use Rattle.processor.specs.State.{with_registers, with_pc, with_specials}
use Rattle.processor.specs.declared.Processor.{Processor}

-- the register file with a register written, by a number modulo 32; a write to register 0 has no effect
unfoldable pub put : List ℕ → ℕ → ℕ → List ℕ
put registers n v = cond (n % 32 == 0) registers (slice_set registers (n % 32) v)

-- a register written, and the PC after the instruction
unfoldable pub written : Processor → ℕ → ℕ → ℕ → Processor
written p n v next = with_pc (with_registers p (put p.registers n v)) next

-- the PC alone
unfoldable pub jumped : Processor → ℕ → Processor
jumped p target = with_pc p target

-- ---- special registers

-- in the order of their numbers, 0 to 4
abbrev pub special_list : Processor → List ℕ
special_list p = p.psw ∷ p.index ∷ p.entryhigh ∷ p.entrylow ∷ p.badaddress ∷ []

-- a number above 4 reads 0
unfoldable pub special : Processor → ℕ → ℕ
special p z = slice_index (special_list p) z

-- a number above 4 stores nothing; only kept bits are stored
unfoldable pub special_written : Processor → ℕ → ℕ → Processor
special_written p z v =
    with_specials p (after z 0 (kept_psw v) p.psw) (after z 1 (kept_index v) p.index)
    (after z 2 (kept_high v) p.entryhigh) (after z 3 (kept_low v) p.entrylow) (after z 4 v p.badaddress)
