-- The numbers of exception entry: where service begins, and what the registers Bad Address and Entry High become (manual, 2.8 and 2.9.6; document 01,
-- "One step").
use Rattle.std.specs.Prelude.{ℕ, ◌+◌, Bool, cond, ◌==◌, nat_le, nat_lt}
use Rattle.words.specs.Logic.{both}
use Rattle.words.specs.Identifiers.{tlb_miss, tlb_invalid, privileged_address}
use Rattle.status.specs.Psw.{vector}
use Rattle.kept_bits.specs.Kept.{kept_high}

-- where ROM and RAM begin, direct-mapped
abbrev pub rom_service : ℕ
rom_service = 0xE0000000

abbrev pub ram_service : ℕ
ram_service = 0xC0000000

-- by V
unfoldable pub service_base : ℕ → ℕ
service_base psw = cond (vector psw == 0) rom_service ram_service

-- a TLB miss on an address below 80000000, in either mode
unfoldable pub user_miss : ℕ → ℕ → Bool
user_miss eid address = both (eid == tlb_miss) (nat_lt address 0x80000000)

unfoldable pub service_address : ℕ → ℕ → ℕ → ℕ
service_address psw eid address = service_base psw + cond (user_miss eid address) 8 4

-- faults 21 to 25 leave their address
abbrev pub bad_address_after : ℕ → ℕ → ℕ → ℕ
bad_address_after eid address former = cond (both (nat_le tlb_miss eid) (nat_le eid privileged_address)) address former

-- and 21 to 23 its page number
abbrev pub entry_high_after : ℕ → ℕ → ℕ → ℕ
entry_high_after eid address former = cond (both (nat_le tlb_miss eid) (nat_le eid tlb_invalid)) (kept_high address) former
