-- The row of a load, and that of a store, at the address that the code computed; past the eight opcodes; and a load without its slot.
use mathlib.Core.Path.{◌≡◌, refl, ap, ap₂, sym, ◌∙◌}
use mathlib.Core.Bool.{false}
use Prim.Native.Nat.{ℕ, zero, suc, ◌+◌, ◌-◌, ◌≤◌, ◌<◌}
use native.Mathlib.Omega.{arith}
use lib.ListN.{get_or, get_or-eq_default}
use Rattle.access.specs.Reads.{read_from}
use Rattle.access.specs.Read.{Read, Value, Fault}
use Rattle.access.proofs.Forgotten.{without_slot, former_read, read_forgotten, reslotted}
use Rattle.tlb.specs.Lookup.{no_slot}
use Rattle.translation.proofs.Slots.{former}
use Rattle.access.specs.Writes.{store_to}
use Rattle.instructions.specs.Operands.{Surroundings, Operands, Meaning, simple, illegal, field_y}
use Rattle.instructions.specs.Action.{Action, Write}
use Rattle.transfer.specs.Transfer.{address_of, landed, load, transfers}
use Rattle.transfer.specs.Code.{stored_bytes}

-- a value that is known, into its register
pub valued : (number next slot : ℕ) {v w : ℕ} → v ≡ w → Write number v next slot ≡ Write number w next slot
valued number next slot e = ap (λ (v : ℕ). Write number v next slot) e

pub lands : (extend : ℕ → ℕ) (number next width : ℕ) (s : Surroundings) (a b : ℕ) (r : Read) {action : Action}
    → action ≡ landed extend number a next r → r ≡ read_from width s a → a ≡ b
    → action ≡ landed extend number b next (read_from width s b)
lands extend number next width s a b r h k e =
    h ∙ ap (landed extend number a next) k ∙ ap (λ (n : ℕ). landed extend number n next (read_from width s n)) e

-- an opcode's row, for a load of this width that is extended so; then for a store
module _ (s : Surroundings) (o : Operands) {kind k a : ℕ} {action : Action} where
  pub loads : (width : ℕ) (extend : ℕ → ℕ) (r : Read)
      → kind ≡ k → load width extend s o ≡ get_or transfers k (simple illegal) s o → a ≡ address_of o → r ≡ read_from width s a
      → action ≡ landed extend (field_y o.word) a o.next r
      → action ≡ get_or transfers kind (simple illegal) s o
  unfolding load
  loads width extend r is row at brought h =
      lands extend (field_y o.word) o.next width s a (address_of o) r h brought at
      ∙ row ∙ ap (λ (n : ℕ). get_or transfers n (simple illegal) s o) (sym is)

module _ (s : Surroundings) (o : Operands) where
  row : (j : ℕ) → j < 3 → store_to (stored_bytes (5 + j)) s o.y (address_of o) ≡ get_or transfers (5 + j) (simple illegal) s o
  unfolding stored_bytes transfers
  row zero h = refl
  row (suc zero) h = refl
  row (suc (suc zero)) h = refl
  row (suc (suc (suc j))) h = absurd (omega arith)

  pub stores : (kind : ℕ) {w a : ℕ} {action : Action} → action ≡ store_to w s o.y a → w ≡ stored_bytes kind → a ≡ address_of o
      → 5 ≤ kind → kind < 8 → action ≡ get_or transfers kind (simple illegal) s o
  stores kind h e f low high =
      let place : 5 + (kind - 5) ≡ kind = omega arith in
      h ∙ ap₂ (λ (n m : ℕ). store_to n s o.y m) e f ∙ ap (λ (n : ℕ). store_to (stored_bytes n) s o.y (address_of o)) (sym place)
      ∙ row (kind - 5) (omega arith) ∙ ap (λ (n : ℕ). get_or transfers n (simple illegal) s o) place

pub none_left : (s : Surroundings) (o : Operands) (kind : ℕ) → 8 ≤ kind → illegal o ≡ get_or transfers kind (simple illegal) s o
unfolding transfers
none_left s o kind h = ap (λ (f : Meaning). f s o) (sym (get_or-eq_default transfers (simple illegal) {n = kind} h))

-- ---- but for the slot, a load does what it did before one was answered (document 02, job 2); for a store, `store_forgotten` of `access` says it

landed_forgotten : (extend : ℕ → ℕ) (number address next : ℕ) (r : Read)
    → reslotted no_slot (landed extend number address next r) ≡ landed extend number address next (without_slot r)
landed_forgotten extend number address next (Value v slot) = refl
landed_forgotten extend number address next (Fault eid) = refl

pub load_forgotten : (width : ℕ) (extend : ℕ → ℕ) (s : Surroundings) (o : Operands)
    → reslotted no_slot (load width extend s o)
    ≡ landed extend (field_y o.word) (address_of o) o.next
    (former_read width s.timer s.memory (former s.psw s.highs s.lows width false (address_of o)))
unfolding load
load_forgotten width extend s o =
    landed_forgotten extend (field_y o.word) (address_of o) o.next (read_from width s (address_of o))
    ∙ ap (landed extend (field_y o.word) (address_of o) o.next) (read_forgotten width s (address_of o))
