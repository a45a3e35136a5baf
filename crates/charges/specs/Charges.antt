-- Cycle charges (document 02, job 3): 65 numbers of 16 bits, big-endian in 130 bytes, one for each opcode and the last for an accepted exception.
use Rattle.std.specs.Prelude.{List, ℕ, zero, suc, ◌*◌, max}
use Rattle.endian.specs.BigEndian.{read_at}

-- ---- a list of charges

abbrev pub charges_length : ℕ
charges_length = 130

-- entry i
unfoldable pub charge_at : List ℕ → ℕ → ℕ
charge_at s i = read_at 2 s (i * 2)

-- the largest of the first n entries
unfoldable pub largest : ℕ → List ℕ → ℕ
largest zero s = 0
largest (suc n) s = max (largest n s) (charge_at s n)

-- ---- what a run is charged by

-- by no list, or by the bytes of one
pub data Charging : Type 0 where
  Uncharged : Charging
  ChargedBy : List ℕ → Charging

-- what a step costs, by its entry: the opcode of a completed instruction, or 64 for an accepted exception
abbrev pub charge_of : Charging → ℕ → ℕ
charge_of Uncharged i = 0
charge_of (ChargedBy s) i = charge_at s i

-- the most that a step costs
abbrev pub most_charged : Charging → ℕ
most_charged Uncharged = 0
most_charged (ChargedBy s) = largest 65 s
