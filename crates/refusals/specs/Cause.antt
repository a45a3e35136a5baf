-- What the number that a call answers says of the call's tests (document 01, "Refused calls": "a refusal comes only for its cause").
use Rattle.std.specs.Prelude.{◌≡◌, true, false, List, [], ◌∷◌, ◌⊎◌, ℕ, ◌*◌, ◌≤◌, length}
use Rattle.words.specs.Logic.{Exactly}
use Rattle.words.specs.Lists.{Every, Among}
use Rattle.charges.specs.Charges.{Charging, Uncharged, ChargedBy, charges_length}
use Rattle.refusals.specs.Request.{Request}
use Rattle.refusals.specs.Refusal.{Test}

abbrev pub numbers_of : List Test → List ℕ
numbers_of [] = []
numbers_of (t ∷ ts) = t.number ∷ numbers_of ts

abbrev pub AllPass : List Test → Type 0
AllPass ts = Every (λ t. t.passes ≡ true) ts

-- a test with this number fails, and all before it pass
abbrev pub FirstToFail : List Test → ℕ → Type 0
FirstToFail [] n = ⊥
FirstToFail (t ∷ ts) n = ((t.passes ≡ false) × (t.number ≡ n)) ⊎ ((t.passes ≡ true) × FirstToFail ts n)

-- the answer is 0 exactly if every test passes, and n exactly if a test with the number n is the first to fail. So it is 0 or one of their numbers
pub record OnlyForItsCause (numbers : List ℕ) (tests : List Test) (answer : ℕ) : Type 0 where
  pub accepted : Exactly (answer ≡ 0) (AllPass tests)
  pub refused : (n : ℕ) → 1 ≤ n → Exactly (answer ≡ n) (FirstToFail tests n)
  pub listed : numbers_of tests ≡ numbers
  pub among : Among answer (0 ∷ numbers)

-- ---- what the tests of lengths and steps ask, in numbers

abbrev pub Divides : ℕ → ℕ → Type 0
Divides d n = (k : ℕ) × (n ≡ k * d)

abbrev pub RamLength : ℕ → Type 0
RamLength n = (4096 ≤ n) × (n ≤ 536870912) × Divides 4096 n

abbrev pub RomLength : ℕ → Type 0
RomLength n = (4096 ≤ n) × (n ≤ 268435456) × Divides 4096 n

abbrev pub BeltLength : ℕ → Type 0
BeltLength n = n ≡ 1024

abbrev pub Steps : ℕ → Type 0
Steps wanted = wanted ≤ 1000000

-- a run without charging has no list
abbrev pub ChargesLength : Charging → Type 0
ChargesLength Uncharged = Unit {0}
ChargesLength (ChargedBy s) = length s ≡ charges_length

-- the steps and the list of charges that a run is asked with pass their tests
abbrev pub Asked : Request → Type 0
Asked q = Steps q.wanted × ChargesLength q.charging
