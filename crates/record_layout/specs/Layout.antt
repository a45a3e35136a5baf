-- Where the kind bytes and the numbers stand in the machine record, and its lengths (document 01, "What the host lends"; document 02, job 1).
use Rattle.std.specs.Prelude.{ℕ}

abbrev pub record_length : ℕ
record_length = 424

-- of a record without the timer: still read, and never written
abbrev pub old_length : ℕ
old_length = 414

-- ---- the kind bytes

abbrev pub registers_kind_at : ℕ
registers_kind_at = 0

abbrev pub pc_kind_at : ℕ
pc_kind_at = 129

abbrev pub special_kind_at : ℕ
special_kind_at = 134

abbrev pub tlb_kind_at : ℕ
tlb_kind_at = 155

abbrev pub replacement_kind_at : ℕ
replacement_kind_at = 412

abbrev pub timer_kind_at : ℕ
timer_kind_at = 414

-- ---- the numbers

abbrev pub registers_at : ℕ
registers_at = 1

abbrev pub pc_at : ℕ
pc_at = 130

abbrev pub psw_at : ℕ
psw_at = 135

abbrev pub index_at : ℕ
index_at = 139

abbrev pub entry_high_at : ℕ
entry_high_at = 143

abbrev pub entry_low_at : ℕ
entry_low_at = 147

abbrev pub bad_address_at : ℕ
bad_address_at = 151

abbrev pub tlb_high_at : ℕ
tlb_high_at = 156

abbrev pub tlb_low_at : ℕ
tlb_low_at = 160

abbrev pub replacement_at : ℕ
replacement_at = 413

abbrev pub timer_divisor_at : ℕ
timer_divisor_at = 415

abbrev pub timer_counter_at : ℕ
timer_counter_at = 419

abbrev pub timer_control_at : ℕ
timer_control_at = 423
