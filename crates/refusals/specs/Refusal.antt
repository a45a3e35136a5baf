-- Every refusal: its number, its cause, and its place in the order (document 01, "What the host lends" and "Refused calls"; document 02, jobs 1 and 3).
use Rattle.std.specs.Prelude.{Bool, cond, List, [], ◌∷◌, ◌++◌, ℕ, ◌%◌, leb, eqb, length}
use Rattle.words.specs.Logic.{both}
use Rattle.memory.specs.Map.{Memory}
use Rattle.machine.specs.Machine.{Machine, fit_with}
use Rattle.charges.specs.Charges.{Charging, Uncharged, ChargedBy, charges_length}
use Rattle.refusals.specs.Request.{Request}

-- ---- a call's tests

-- a test, and the number that refuses the call where it does not pass
pub record Test : Type 0 where
  pub number : ℕ
  pub passes : Bool

abbrev pub test : ℕ → Bool → Test
test number passes = record { number = number; passes = passes }

-- the number of the first test that fails; 0, and the call is accepted, where none does
abbrev pub first_failed : List Test → ℕ
first_failed [] = 0
first_failed (t ∷ ts) = cond t.passes (first_failed ts) t.number

-- ---- the table. Every call has its tests in this order

-- 4,096 bytes up to a limit, a multiple of 4,096
unfoldable pub pages_up_to : ℕ → ℕ → Bool
pages_up_to limit n = both (leb 4096 n) (both (leb n limit) (eqb (n % 4096) 0))

-- the lengths of RAM, ROM and belt that are accepted
abbrev pub ram_accepted : ℕ → Bool
ram_accepted n = pages_up_to 536870912 n

abbrev pub rom_accepted : ℕ → Bool
rom_accepted n = pages_up_to 268435456 n

abbrev pub belt_accepted : ℕ → Bool
belt_accepted n = eqb n 1024

-- 1, 2 and 3
abbrev pub ram_test : ℕ → Test
ram_test n = test 1 (ram_accepted n)

abbrev pub rom_test : ℕ → Test
rom_test n = test 2 (rom_accepted n)

abbrev pub belt_test : ℕ → Test
belt_test n = test 3 (belt_accepted n)

-- 4: a record that is read has either length of a record, and a buffer for one the length that is written
abbrev pub length_test : Bool → Test
length_test whole = test 4 whole

-- 5: each kind byte is in its place
abbrev pub kinds_test : Bool → Test
kinds_test placed = test 5 placed

-- 6: of a record that is read, and of a machine that is handed to a call
abbrev pub fit_test : Bool → Test
fit_test fine = test 6 fine

-- 7
abbrev pub most_steps : ℕ
most_steps = 1000000

abbrev pub steps_test : ℕ → Test
steps_test wanted = test 7 (leb wanted most_steps)

-- 8: a RAM frame is behind the page
abbrev pub frame_test : Bool → Test
frame_test found = test 8 found

-- 9: a list of charges has its one length; a run without charging has no such test
abbrev pub charges_tests : Charging → List Test
charges_tests Uncharged = []
charges_tests (ChargedBy s) = test 9 (eqb (length s) charges_length) ∷ []

-- ---- what several calls begin with, and a run by value

abbrev pub lengths_tests : ℕ → ℕ → ℕ → List Test
lengths_tests ram rom belt = ram_test ram ∷ rom_test rom ∷ belt_test belt ∷ []

abbrev pub memory_tests : Memory → List Test
memory_tests m = lengths_tests (length m.ram) (length m.rom) (length m.belt)

-- what is asked of a run, after all that is asked of its machine
abbrev pub request_tests : ℕ → Charging → List Test
request_tests wanted charging = steps_test wanted ∷ charges_tests charging

abbrev pub run_tests : Machine → Request → List Test
run_tests m q = memory_tests m.memory ++ (fit_test (fit_with m.processor m.timer) ∷ request_tests q.wanted q.charging)

unfoldable pub run_refusal : Machine → Request → ℕ
run_refusal m q = first_failed (run_tests m q)
