-- Where the PC goes: a completed instruction goes on from its fetch, but for control flow and RFX.
use mathlib.Core.Path.{◌≡◌, refl}
use Prim.Native.Nat.{ℕ}
use native.Mathlib.Omega.{arith}
use lib.ListN.{get_or}
use Rattle.sums.specs.Sums.{sum}
use Rattle.processor.specs.declared.Processor.{Processor}
use Rattle.processor.specs.Exception.{returned}
use Rattle.processor.specs.Register.{written, jumped, special_written}
use Rattle.processor.specs.Tlb.{entry_written, indexed_written, random_written, entry_read, searched}
use Rattle.instructions.specs.Operands.{Surroundings, Operands, illegal, field_y}
use Rattle.compute.specs.Compute.{computations}
use Rattle.compute.proofs.Results.{Computed, Computes, every_computes}
use Rattle.access.specs.Reads.{read_from}
use Rattle.transfer.specs.Transfer.{address_of, landed, load}
use Rattle.access.specs.Read.{Read, Value, Fault}
use Rattle.instructions.specs.Action.{Action, Write, Store, System, Exception, SystemInstruction, Rfx, Mvfs, Mvts, Tbs, Tbwr, Tbri, Tbwi}
use Rattle.words.proofs.Every.{every_at}
use Rattle.actions.specs.Actions.{system_done, processor_after}

-- ---- the PC of a completed computation is that after the fetch

-- a register write that goes on to the next instruction, or an exception
abbrev GoesOn : Operands → Action → Type 0
GoesOn o (Write n v next slot) = next ≡ o.next
GoesOn o (Store width physical v slot) = ⊥
GoesOn o (System i) = ⊥
GoesOn o (Exception eid address) = Unit {0}

computed_goes_on : (o : Operands) (a : Action) → Computed o a → GoesOn o a
computed_goes_on o (Write n v next slot) h = h.0
computed_goes_on o (Store width physical v slot) h = h
computed_goes_on o (System i) h = h
computed_goes_on o (Exception eid address) h = tt

pub computation_goes_on : (opcode : ℕ) (o : Operands) → GoesOn o (get_or computations opcode illegal o)
computation_goes_on opcode o =
    computed_goes_on o (get_or computations opcode illegal o) (every_at Computes computations opcode illegal every_computes (λ o. (omega arith, refl)) o)

-- so does a load that completes
landed_goes_on : (extend : ℕ → ℕ) (o : Operands) (r : Read) → GoesOn o (landed extend (field_y o.word) (address_of o) o.next r)
landed_goes_on extend o (Value v slot) = refl
landed_goes_on extend o (Fault eid) = tt

pub load_goes_on : (width : ℕ) (extend : ℕ → ℕ) (s : Surroundings) (o : Operands) → GoesOn o (load width extend s o)
unfolding load
load_goes_on width extend s o = landed_goes_on extend o (read_from width s (address_of o))

-- a store that completes, and a system instruction but RFX, go on from the fetched instruction's PC; RFX goes to R30
pub store_goes_on : (p : Processor) (width physical v slot : ℕ) → (processor_after p (Store width physical v slot)).pc ≡ sum p.pc 4
unfolding jumped
store_goes_on p width physical v slot = refl

pub system_goes_on : (p : Processor) (i : SystemInstruction) → (i ≡ Rfx → ⊥) → (system_done i p).pc ≡ sum p.pc 4
unfolding system_done written jumped special_written searched random_written indexed_written entry_written entry_read
system_goes_on p Rfx other = absurd (other refl)
system_goes_on p (Mvfs z n) other = refl
system_goes_on p (Mvts z v) other = refl
system_goes_on p Tbs other = refl
system_goes_on p Tbwr other = refl
system_goes_on p Tbri other = refl
system_goes_on p Tbwi other = refl

pub return_goes_back : (p : Processor) → (system_done Rfx p).pc ≡ get_or p.registers 30 0
unfolding system_done returned
return_goes_back p = refl
