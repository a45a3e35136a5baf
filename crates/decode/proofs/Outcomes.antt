-- What each instruction comes to, by one pass over the opcode table: its numbers are words where its operands are, a fault has a number up to
-- 25, a store goes where the translation grants it, and a system instruction is done in Kernel Mode alone.
use mathlib.Core.Path.{◌≡◌, refl, ◌∙◌}
use mathlib.Core.Bool.{Bool, true, false}
use Prim.Native.Nat.{ℕ, ◌*◌, ◌^◌, ◌≤◌, ◌<◌}
use native.Mathlib.Omega.{arith}
use Rattle.words.specs.Lists.{Every}
use Rattle.words.specs.Numbers.{sign_extend, zero_extend}
use Rattle.words.proofs.Cases.{chosen, case}
use Rattle.words.proofs.Every.{◌&◌, every_so}
use Rattle.sums.proofs.Sizes.{sum_lt, zero_16_lt, zero_8_lt, sign_16_lt, sign_8_lt}
use Rattle.memory.specs.Access.{store_answer, access_width}
use Rattle.memory.specs.Stored.{Stored}
use Rattle.memory.specs.Stored as stored
use Rattle.status.specs.Psw.{user_mode}
use Rattle.translation.specs.Translation.{translated, Translation, Physical}
use Rattle.translation.proofs.Resolved.{walk}
use Rattle.instructions.specs.Operands.{Surroundings, Operands, simple, field_y}
use Rattle.instructions.specs.Action.{Action, Write, Store, System, Exception, SystemInstruction, Rfx, Mvfs, Mvts, Tbs, Tbwr, Tbri, Tbwi}
use Rattle.instructions.proofs.Words.{Words}
use Rattle.compute.specs.Compute.{computations}
use Rattle.compute.proofs.Results.{Computed, every_computes}
use Rattle.control.specs.Control.{controls}
use Rattle.control.specs.Branches.{target, branch}
use Rattle.access.specs.Read.{Read, Value, Fault}
use Rattle.access.specs.Reads.{read_from}
use Rattle.access.specs.Writes.{settled, store_through, store_to}
use Rattle.transfer.specs.Transfer.{address_of, landed, load, store, transfers}
use Rattle.system.specs.System.{privileged, traps, systems}
use Rattle.decode.specs.Table.{by_psw, executed}
use Rattle.decode.proofs.Rows.{Always, executed_always}
use Rattle.decode.proofs.Named.{Named, NamedRead, read_named, stores_named}
use Rattle.decode.proofs.Small.{SmallSystem, Small, FitsRead, Holds, read_fits, stores_small}

-- a store of 1, 2 or 4 bytes to the physical address that the translation grants, by its slot
pub record Granted (s : Surroundings) (width physical slot : ℕ) : Type 0 where
  pub blocks : ℕ
  pub divides : blocks * width ≡ 4096
  pub own : access_width width ≡ width
  pub address : ℕ
  pub granted : translated s.psw s.highs s.lows width true address ≡ Physical physical slot

abbrev pub ComesTo : Surroundings → Operands → Action → Type 0
ComesTo s o (Write n v next slot) = Holds s → Words o → (v < 2 ^ 32) × (next < 2 ^ 32)
ComesTo s o (Store width physical v slot) = Granted s width physical slot
ComesTo s o (System i) = (user_mode s.psw ≡ false) × (Words o → SmallSystem i)
ComesTo s o (Exception eid address) = (eid ≤ 25) × (Words o → address < 2 ^ 32)

none : 0 < 2 ^ 32
none = omega arith

-- ---- computations, branches and jumps

computed : (s : Surroundings) (o : Operands) (a : Action) → Computed o a → ComesTo s o a
computed s o (Write n v next slot) h = λ b w. (h.2 w, rw h.0 w.next)
computed s o (Store width physical v slot) h = absurd h
computed s o (System i) h = absurd h
computed s o (Exception eid address) h = (h.0, λ w. rw h.1 none)

target_lt : (width word next : ℕ) → target width word next < 2 ^ 32
unfolding target
target_lt width word next = sum_lt next (4 * sign_extend width word)

branches : (holds : Operands → Bool) (s : Surroundings) (o : Operands) → ComesTo s o (branch (holds o) o.word o.next)
unfolding branch
branches holds s o = λ b w. (none, chosen (λ (n : ℕ). n < 2 ^ 32) (holds o) (target_lt 16 o.word o.next) w.next)

controls_come : Every (λ f. Always ComesTo (simple f)) controls
unfolding controls
controls_come =
    branches _ & branches _ & branches _ & branches _ & branches _ & branches _ & branches _ & branches _ & branches _ & branches _
    & (λ s o b w. (none, target_lt 26 _ _)) & (λ s o b w. (none, w.x)) & (λ s o b w. (w.next, target_lt 26 _ _)) & (λ s o b w. (w.next, w.x))
    & tt

-- ---- the system instructions

guarded : (s : Surroundings) (o : Operands) (i : SystemInstruction) → (Words o → SmallSystem i) → ComesTo s o (privileged s.psw (System i))
unfolding privileged
guarded s o i h = case (ComesTo s o) (user_mode s.psw) (λ user. (omega arith, λ w. none)) (λ kernel. (kernel, h))

traps_come : Every (λ f. Always ComesTo (by_psw f)) traps
unfolding traps
traps_come = (λ s o. (omega arith, λ w. none)) & (λ s o. guarded s o Rfx (λ w. tt)) & tt

systems_come : Every (λ f. Always ComesTo (by_psw f)) systems
unfolding systems
systems_come =
    (λ s o. guarded s o (Mvfs _ _) (λ w. tt)) & (λ s o. guarded s o (Mvts _ _) (λ w. w.y)) & (λ s o. guarded s o Tbs (λ w. tt))
    & (λ s o. guarded s o Tbwr (λ w. tt)) & (λ s o. guarded s o Tbri (λ w. tt)) & (λ s o. guarded s o Tbwi (λ w. tt)) & tt

-- ---- loads and stores

module _ (s : Surroundings) (o : Operands) where
  landed_comes : (width : ℕ) (extend : ℕ → ℕ) → ((v : ℕ) → v < 256 ^ width → extend v < 2 ^ 32)
      → (r : Read) → NamedRead r → (Holds s → FitsRead width r) → ComesTo s o (landed extend (field_y o.word) (address_of o) o.next r)
  landed_comes width extend e (Value v slot) named fits = λ b w. (e v (fits b), w.next)
  landed_comes width extend e (Fault eid) named fits = (named, λ w. sum_lt _ _)

  -- what a store may be
  abbrev Stores : Action → Type 0
  Stores (Write n v next slot) = ⊥
  Stores (Store width physical v slot) = Granted s width physical slot
  Stores (System i) = ⊥
  Stores (Exception eid address) = Unit {0}

  settled_stores : (width physical value slot address : ℕ) (r : Stored) → Granted s width physical slot
      → Stores (settled width physical value slot address r)
  settled_stores width physical value slot address stored.Done g = g
  settled_stores width physical value slot address stored.Timeout g = tt

  module _ (width blocks : ℕ) (d : blocks * width ≡ 4096) (own : access_width width ≡ width) where
    through_stores : (value address : ℕ) (t : Translation) → translated s.psw s.highs s.lows width true address ≡ t
        → Stores (store_through width s.memory value address t)
    through_stores value address t e =
        walk _ (λ eid. Exception eid address) Stores t (λ a slot granted. settled_stores width a value slot address (store_answer width s.memory a)
        (record { blocks = blocks; divides = d; own = own; address = address; granted = e ∙ granted })) (λ eid low high. tt)

    stores_stores : (value address : ℕ) → Stores (store_to width s value address)
    unfolding store_to
    stores_stores value address = through_stores value address _ refl

  as_store : (a : Action) → Stores a → Named a → Small a → ComesTo s o a
  as_store (Write n v next slot) g named small = absurd g
  as_store (Store width physical v slot) g named small = g
  as_store (System i) g named small = absurd g
  as_store (Exception eid address) g named small = (named, λ w. small)

loads : (width : ℕ) (extend : ℕ → ℕ) → ((v : ℕ) → v < 256 ^ width → extend v < 2 ^ 32) → Always ComesTo (load width extend)
unfolding load read_from
loads width extend e s o =
    landed_comes s o width extend e (read_from width s (address_of o))
    (read_named width s.timer s.memory (translated s.psw s.highs s.lows width false (address_of o))) (read_fits width s (address_of o))

stores : (width blocks : ℕ) → blocks * width ≡ 4096 → access_width width ≡ width → Always ComesTo (store width)
stores width blocks d own s o =
    as_store s o (store_to width s o.y (address_of o)) (stores_stores s o width blocks d own o.y (address_of o)) (stores_named width s o.y (address_of o))
    (stores_small width s o.y (address_of o) (sum_lt _ _))

transfers_come : Every (Always ComesTo) transfers
unfolding transfers access_width
transfers_come =
    loads 4 (λ v. v) (λ v h. h) & loads 2 (sign_extend 16) (λ v h. sign_16_lt v) & loads 2 (zero_extend 16) (λ v h. zero_16_lt v)
    & loads 1 (sign_extend 8) (λ v h. sign_8_lt v) & loads 1 (zero_extend 8) (λ v h. zero_8_lt v)
    & stores 4 1024 refl refl & stores 2 2048 refl refl & stores 1 4096 refl refl & tt

-- ---- every instruction

pub executed_comes : Always ComesTo executed
executed_comes =
    executed_always ComesTo (every_so (λ f h s o. computed s o (f o) (h o)) computations every_computes) controls_come traps_come transfers_come systems_come
    (λ s o. (omega arith, λ w. none))

named : (s : Surroundings) (o : Operands) (a : Action) → ComesTo s o a → Named a
named s o (Write n v next slot) h = tt
named s o (Store width physical v slot) h = tt
named s o (System i) h = tt
named s o (Exception eid address) h = h.0

pub executed_named : (s : Surroundings) (o : Operands) → Named (executed s o)
executed_named s o = named s o (executed s o) (executed_comes s o)

small : (s : Surroundings) (o : Operands) → Holds s → Words o → (a : Action) → ComesTo s o a → Small a
small s o b w (Write n v next slot) h = h b w
small s o b w (Store width physical v slot) h = tt
small s o b w (System i) h = h.1 w
small s o b w (Exception eid address) h = h.1 w

pub executed_small : (s : Surroundings) (o : Operands) → Holds s → Words o → Small (executed s o)
executed_small s o b w = small s o b w (executed s o) (executed_comes s o)
