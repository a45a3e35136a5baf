-- The translation of a virtual address (document 01, "One step", last paragraph; manual, 2.9.1 to 2.9.4), and the slot that served
-- it (document 02, job 2).
use Rattle.std.specs.Prelude.{Bool, not, cond, List, ℕ, ◌+◌, ◌*◌, ◌-◌, ◌/◌, ◌%◌, leb, ltb, eqb, get_or}
use Rattle.words.specs.Logic.{both}
use Rattle.status.specs.Psw.{user_mode}
use Rattle.words.specs.Identifiers.{tlb_miss, tlb_write, tlb_invalid, illegal_address, privileged_address, no_exception}
use Rattle.tlb.specs.Lookup.{page_of, no_entry, direct_mapped, no_slot, lookup}
use Rattle.translation.specs.declared.Width.{Width}
use Rattle.translation.specs.declared.Width.TheVariants.{Byte, Half, Word}

-- what an access comes to: the physical address with the slot that served it, or its fault
pub data Translation : Type 0 where
  Physical : ℕ → ℕ → Translation
  TlbMiss : Translation
  TlbWrite : Translation
  TlbInvalid : Translation
  IllegalAddress : Translation
  PrivilegedAddress : Translation

-- the bytes of an access
abbrev pub bytes_of : Width → ℕ
bytes_of Byte = 1
bytes_of Half = 2
bytes_of Word = 4

-- the low word's frame, valid bit 0 and write bit 1
abbrev pub frame_of : ℕ → ℕ
frame_of low = low / 4096

unfoldable pub valid : ℕ → Bool
valid low = eqb (low % 2) 1

unfoldable pub writable : ℕ → Bool
writable low = eqb (low / 2 % 2) 1

-- through the low word of the page's entry, in its slot
unfoldable pub through : ℕ → ℕ → Bool → ℕ → Translation
through low slot store address =
    cond (not (valid low))
    TlbInvalid
    (cond (both store (not (writable low)))
    TlbWrite
    (Physical (frame_of low * 4096 + address % 4096) slot))

-- below C0000000: by the TLB
unfoldable pub mapped : List ℕ → List ℕ → Bool → ℕ → Translation
mapped highs lows store address =
    cond (ltb (lookup highs (page_of address)) no_entry)
    (through (get_or lows (lookup highs (page_of address)) 0) (lookup highs (page_of address)) store address)
    TlbMiss

-- a privileged address in User Mode
unfoldable pub forbidden : ℕ → ℕ → Bool
forbidden psw address = both (leb 0x80000000 address) (user_mode psw)

-- alignment, then privilege, then the direct or the mapped address
unfoldable pub translated : ℕ → List ℕ → List ℕ → ℕ → Bool → ℕ → Translation
translated psw highs lows width store address =
    cond (not (eqb (address % width) 0))
    IllegalAddress
    (cond (forbidden psw address)
    PrivilegedAddress
    (cond (leb 0xC0000000 address)
    (Physical (address - 0xC0000000) direct_mapped)
    (mapped highs lows store address)))

-- what becomes of a translation: of the physical address and its slot, or of the fault by its number (document 01, "One step")
abbrev pub resolved : {A : Type 0} → (ℕ → ℕ → A) → (ℕ → A) → Translation → A
resolved at fault (Physical address slot) = at address slot
resolved at fault TlbMiss = fault tlb_miss
resolved at fault TlbWrite = fault tlb_write
resolved at fault TlbInvalid = fault tlb_invalid
resolved at fault IllegalAddress = fault illegal_address
resolved at fault PrivilegedAddress = fault privileged_address

-- the numbers of an answer: the exception that it names, or `no_exception`; the physical address, or 0 where it faults; and the slot, or `no_slot`
abbrev pub translation_eid : Translation → ℕ
translation_eid t = resolved (λ address slot. no_exception) (λ eid. eid) t

abbrev pub physical_of : Translation → ℕ
physical_of t = resolved (λ address slot. address) (λ eid. 0) t

abbrev pub translation_slot : Translation → ℕ
translation_slot t = resolved (λ address slot. slot) (λ eid. no_slot) t
