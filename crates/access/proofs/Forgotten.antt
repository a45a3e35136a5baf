-- But for the slot, a read and a store come to what they came to before one was answered: by the translation of before (document 02, job 2).
use mathlib.Core.Path.{◌≡◌, refl, ap, ◌∙◌}
use mathlib.Core.Bool.{true, false}
use Prim.Native.Nat.{ℕ}
use Rattle.tlb.specs.Lookup.{no_slot}
use Rattle.timer.specs.declared.Timer.{Timer}
use Rattle.memory.specs.Map.{Memory}
use Rattle.memory.specs.Access.{load_of, store_answer}
use Rattle.memory.specs.Loaded.{Loaded}
use Rattle.memory.specs.Loaded as loaded
use Rattle.memory.specs.Stored.{Stored}
use Rattle.memory.specs.Stored as stored
use Rattle.translation.specs.Translation.{translated, Translation, Physical, TlbMiss, TlbWrite, TlbInvalid, IllegalAddress, PrivilegedAddress}
use Rattle.translation.proofs.Slots.{Former, Place, Fault, forgotten, former, slot_forgotten}
use Rattle.instructions.specs.Operands.{Surroundings}
use Rattle.instructions.specs.Action.{Action, Write, Store, System, Exception}
use Rattle.access.specs.Reads.{answered, read_through, read_from}
use Rattle.access.specs.Writes.{settled, store_through, store_to}
use Rattle.access.specs.Read.{Read}
use Rattle.access.specs.Read as read

-- ---- a read

abbrev pub without_slot : Read → Read
without_slot (read.Value v slot) = read.Value v no_slot
without_slot (read.Fault eid) = read.Fault eid

abbrev pub former_read : ℕ → Timer → Memory → Former → Read
former_read width timer m (Place address) = answered no_slot (load_of width timer m address)
former_read width timer m (Fault eid) = read.Fault eid

answer_forgotten : (slot : ℕ) (l : Loaded) → without_slot (answered slot l) ≡ answered no_slot l
answer_forgotten slot (loaded.Value v) = refl
answer_forgotten slot loaded.Timeout = refl

through_forgotten : (width : ℕ) (timer : Timer) (m : Memory) (t : Translation)
    → without_slot (read_through width timer m t) ≡ former_read width timer m (forgotten t)
through_forgotten width timer m (Physical address slot) = answer_forgotten slot (load_of width timer m address)
through_forgotten width timer m TlbMiss = refl
through_forgotten width timer m TlbWrite = refl
through_forgotten width timer m TlbInvalid = refl
through_forgotten width timer m IllegalAddress = refl
through_forgotten width timer m PrivilegedAddress = refl

pub read_forgotten : (width : ℕ) (s : Surroundings) (address : ℕ)
    → without_slot (read_from width s address)
    ≡ former_read width s.timer s.memory (former s.psw s.highs s.lows width false address)
unfolding read_from
read_forgotten width s address =
    through_forgotten width s.timer s.memory (translated s.psw s.highs s.lows width false address)
    ∙ ap (former_read width s.timer s.memory) (slot_forgotten s.psw s.highs s.lows width false address)

-- ---- a store

-- an action by another slot
abbrev pub reslotted : ℕ → Action → Action
reslotted k (Write n v next slot) = Write n v next k
reslotted k (Store width physical v slot) = Store width physical v k
reslotted k (System i) = System i
reslotted k (Exception eid address) = Exception eid address

abbrev pub former_store : ℕ → Memory → ℕ → ℕ → Former → Action
former_store width m value address (Place physical) = settled width physical value no_slot address (store_answer width m physical)
former_store width m value address (Fault eid) = Exception eid address

settled_forgotten : (width physical value slot address : ℕ) (r : Stored)
    → reslotted no_slot (settled width physical value slot address r) ≡ settled width physical value no_slot address r
settled_forgotten width physical value slot address stored.Done = refl
settled_forgotten width physical value slot address stored.Timeout = refl

stored_forgotten : (width : ℕ) (m : Memory) (value address : ℕ) (t : Translation)
    → reslotted no_slot (store_through width m value address t) ≡ former_store width m value address (forgotten t)
stored_forgotten width m value address (Physical physical slot) = settled_forgotten width physical value slot address (store_answer width m physical)
stored_forgotten width m value address TlbMiss = refl
stored_forgotten width m value address TlbWrite = refl
stored_forgotten width m value address TlbInvalid = refl
stored_forgotten width m value address IllegalAddress = refl
stored_forgotten width m value address PrivilegedAddress = refl

pub store_forgotten : (width : ℕ) (s : Surroundings) (value address : ℕ)
    → reslotted no_slot (store_to width s value address)
    ≡ former_store width s.memory value address (former s.psw s.highs s.lows width true address)
unfolding store_to
store_forgotten width s value address =
    stored_forgotten width s.memory value address (translated s.psw s.highs s.lows width true address)
    ∙ ap (former_store width s.memory value address) (slot_forgotten s.psw s.highs s.lows width true address)
