-- Exception identifiers (manual, 2.7.4). 0 to 15 are the interrupt channels.
use Rattle.std.specs.Prelude.{ℕ}

abbrev pub bus_timeout : ℕ
bus_timeout = 16

abbrev pub illegal_instruction : ℕ
illegal_instruction = 17

abbrev pub privileged_instruction : ℕ
privileged_instruction = 18

abbrev pub division_by_zero : ℕ
division_by_zero = 19

abbrev pub trap : ℕ
trap = 20

abbrev pub tlb_miss : ℕ
tlb_miss = 21

abbrev pub tlb_write : ℕ
tlb_write = 22

abbrev pub tlb_invalid : ℕ
tlb_invalid = 23

abbrev pub illegal_address : ℕ
illegal_address = 24

abbrev pub privileged_address : ℕ
privileged_address = 25

-- an identifier is below 32; this stands for none
abbrev pub no_exception : ℕ
no_exception = 32
