-- Actions whose numbers are words; what a read and a store come to.
use mathlib.Core.Bool.{true, false}
use Prim.Native.Nat.{ℕ, ◌^◌, ◌<◌}
use Rattle.timer.specs.Timer.{TimerWords}
use Rattle.timer.specs.declared.Timer.{Timer}
use Rattle.memory.specs.Map.{Memory}
use Rattle.memory.specs.Access.{load_of, store_answer}
use Rattle.memory.specs.Loaded.{Loaded}
use Rattle.memory.specs.Loaded as loaded
use Rattle.memory.specs.Stored.{Stored}
use Rattle.memory.specs.Stored as stored
use Rattle.memory.proofs.Bytewise.{Bytewise, Fits, load_fits}
use Rattle.translation.specs.Translation.{translated, Translation}
use Rattle.translation.proofs.Resolved.{walk}
use Rattle.instructions.specs.Operands.{Surroundings}
use Rattle.access.specs.Reads.{answered, read_through, read_from}
use Rattle.access.specs.Writes.{settled, store_through, store_to}
use Rattle.instructions.specs.Action.{Action, Write, Store, System, Exception, SystemInstruction, Rfx, Mvfs, Mvts, Tbs, Tbwr, Tbri, Tbwi}
use Rattle.access.specs.Read.{Read, Value, Fault}

-- what a step takes from an action into a register is a word; a store takes bytes of its value
abbrev pub SmallSystem : SystemInstruction → Type 0
SmallSystem Rfx = Unit {0}
SmallSystem (Mvfs z n) = Unit {0}
SmallSystem (Mvts z v) = v < 2 ^ 32
SmallSystem Tbs = Unit {0}
SmallSystem Tbwr = Unit {0}
SmallSystem Tbri = Unit {0}
SmallSystem Tbwi = Unit {0}

abbrev pub Small : Action → Type 0
Small (Write n v next slot) = (v < 2 ^ 32) × (next < 2 ^ 32)
Small (Store width physical v slot) = Unit {0}
Small (System i) = SmallSystem i
Small (Exception eid address) = address < 2 ^ 32

-- ---- reads and stores

abbrev pub FitsRead : ℕ → Read → Type 0
FitsRead width (Value v slot) = v < 256 ^ width
FitsRead width (Fault eid) = Unit {0}

answered_fits : (width slot : ℕ) (l : Loaded) → Fits width l → FitsRead width (answered slot l)
answered_fits width slot (loaded.Value v) h = h
answered_fits width slot loaded.Timeout h = tt

through_fits : (width : ℕ) (timer : Timer) (m : Memory) → TimerWords timer → Bytewise m → (t : Translation)
    → FitsRead width (read_through width timer m t)
through_fits width timer m words b t =
    walk _ Fault (FitsRead width) t (λ a slot e. answered_fits width slot (load_of width timer m a) (load_fits width timer words m b a)) (λ eid low high. tt)

-- the memory holds bytes, and the timer words
abbrev pub Holds : Surroundings → Type 0
Holds s = Bytewise s.memory × TimerWords s.timer

pub read_fits : (width : ℕ) (s : Surroundings) (address : ℕ) → Holds s → FitsRead width (read_from width s address)
unfolding read_from
read_fits width s address h =
    through_fits width s.timer s.memory h.1 h.0 (translated s.psw s.highs s.lows width false address)

settled_small : (width physical value slot address : ℕ) (r : Stored) → address < 2 ^ 32 → Small (settled width physical value slot address r)
settled_small width physical value slot address stored.Done h = tt
settled_small width physical value slot address stored.Timeout h = h

store_small : (width : ℕ) (m : Memory) (value address : ℕ) (t : Translation) → address < 2 ^ 32
    → Small (store_through width m value address t)
store_small width m value address t h =
    walk _ (λ eid. Exception eid address) Small t (λ a slot e. settled_small width a value slot address (store_answer width m a) h) (λ eid low high. h)

pub stores_small : (width : ℕ) (s : Surroundings) (value address : ℕ) → address < 2 ^ 32 → Small (store_to width s value address)
unfolding store_to
stores_small width s value address h =
    store_small width s.memory value address (translated s.psw s.highs s.lows width true address) h
