-- Loads and stores (manual, 3.5), a clause for each instruction, and their opcodes 30 to 37.
use Rattle.std.specs.Prelude.{List, [], ◌∷◌, ℕ}
use Rattle.words.specs.Numbers.{zero_extend, sign_extend}
use Rattle.sums.specs.Sums.{sum}
use Rattle.instructions.specs.Operands.{Operands, Meaning, immediate_s, field_y}
use Rattle.instructions.specs.Action.{Action, Write, Exception}
use Rattle.access.specs.Reads.{read_from}
use Rattle.access.specs.Read.{Read, Value, Fault}
use Rattle.access.specs.Writes.{store_to}

-- ---- loading

-- the address of a load or a store
abbrev pub address_of : Operands → ℕ
address_of o = sum o.x (immediate_s o)

-- a value extended into a register, with the slot that served it, or the fault
abbrev pub landed : (ℕ → ℕ) → ℕ → ℕ → ℕ → Read → Action
landed extend number address next (Value v slot) = Write number (extend v) next slot
landed extend number address next (Fault eid) = Exception eid address

unfoldable pub load : ℕ → (ℕ → ℕ) → Meaning
load width extend s o = landed extend (field_y o.word) (address_of o) o.next (read_from width s (address_of o))

-- 3.5.1
abbrev pub LDW : Meaning
LDW = load 4 (λ v. v)

-- 3.5.2
abbrev pub LDH : Meaning
LDH = load 2 (sign_extend 16)

-- 3.5.3
abbrev pub LDHU : Meaning
LDHU = load 2 (zero_extend 16)

-- 3.5.4
abbrev pub LDB : Meaning
LDB = load 1 (sign_extend 8)

-- 3.5.5
abbrev pub LDBU : Meaning
LDBU = load 1 (zero_extend 8)

-- ---- storing

abbrev pub store : ℕ → Meaning
store width s o = store_to width s o.y (address_of o)

-- 3.5.6
abbrev pub STW : Meaning
STW = store 4

-- 3.5.7
abbrev pub STH : Meaning
STH = store 2

-- 3.5.8
abbrev pub STB : Meaning
STB = store 1

-- opcodes 30 to 37
unfoldable pub transfers : List Meaning
transfers = LDW ∷ LDH ∷ LDHU ∷ LDB ∷ LDBU ∷ STW ∷ STH ∷ STB ∷ []
