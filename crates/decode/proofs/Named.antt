-- A read or a store that faults names an exception of the manual's table, up to 25.
use mathlib.Core.Bool.{true}
use Prim.Native.Nat.{ℕ, ◌≤◌}
use native.Mathlib.Omega.{arith}
use Rattle.timer.specs.declared.Timer.{Timer}
use Rattle.memory.specs.Map.{Memory}
use Rattle.memory.specs.Access.{load_of, store_answer}
use Rattle.memory.specs.Loaded.{Loaded}
use Rattle.memory.specs.Loaded as loaded
use Rattle.memory.specs.Stored.{Stored}
use Rattle.memory.specs.Stored as stored
use Rattle.translation.specs.Translation.{translated, Translation}
use Rattle.translation.proofs.Resolved.{walk}
use Rattle.instructions.specs.Operands.{Surroundings}
use Rattle.access.specs.Reads.{answered, read_through}
use Rattle.access.specs.Writes.{settled, store_through, store_to}
use Rattle.instructions.specs.Action.{Action, Write, Store, System, Exception}
use Rattle.access.specs.Read.{Read, Value, Fault}

-- a fault that is named has a number up to 25
abbrev pub Named : Action → Type 0
Named (Write n v next slot) = Unit {0}
Named (Store width physical v slot) = Unit {0}
Named (System i) = Unit {0}
Named (Exception eid address) = eid ≤ 25

abbrev pub NamedRead : Read → Type 0
NamedRead (Value v slot) = Unit {0}
NamedRead (Fault eid) = eid ≤ 25

-- ---- reads and stores

answered_named : (slot : ℕ) (l : Loaded) → NamedRead (answered slot l)
answered_named slot (loaded.Value v) = tt
answered_named slot loaded.Timeout = omega arith

pub read_named : (width : ℕ) (timer : Timer) (m : Memory) (t : Translation) → NamedRead (read_through width timer m t)
read_named width timer m t = walk _ Fault NamedRead t (λ a slot e. answered_named slot (load_of width timer m a)) (λ eid low high. high)

settled_named : (width physical value slot address : ℕ) (r : Stored) → Named (settled width physical value slot address r)
settled_named width physical value slot address stored.Done = tt
settled_named width physical value slot address stored.Timeout = omega arith

store_named : (width : ℕ) (m : Memory) (value address : ℕ) (t : Translation) → Named (store_through width m value address t)
store_named width m value address t =
    walk _ (λ eid. Exception eid address) Named t (λ a slot e. settled_named width a value slot address (store_answer width m a)) (λ eid low high. high)

pub stores_named : (width : ℕ) (s : Surroundings) (value address : ℕ) → Named (store_to width s value address)
unfolding store_to
stores_named width s value address =
    store_named width s.memory value address (translated s.psw s.highs s.lows width true address)
