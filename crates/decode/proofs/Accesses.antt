-- Which instructions access data, and by which slot: a load or a store that completes has the slot by which the translation granted its address, one
-- that faults names 16 or 21 to 25, and no other instruction has a slot (document 02, job 2).
use mathlib.Core.Path.{◌≡◌, refl}
use mathlib.Core.Logic.{◌⊎◌, inl, inr}
use mathlib.Core.Bool.{Bool, true, false}
use mathlib.Core.List.{List, [], ◌∷◌}
use Prim.Native.Nat.{ℕ, zero, suc, ◌-◌, ◌≤◌, ◌<◌}
use native.Mathlib.Omega.{arith}
use lib.ListN.{length, get_or}
use Rattle.words.specs.Lists.{Every}
use Rattle.words.proofs.Cases.{chosen, below_or_not}
use Rattle.words.proofs.Every.{◌&◌, every_at, every_so}
use Rattle.memory.specs.Access.{load_of, store_answer}
use Rattle.memory.specs.Loaded.{Loaded}
use Rattle.memory.specs.Loaded as loaded
use Rattle.memory.specs.Stored.{Stored}
use Rattle.memory.specs.Stored as stored
use Rattle.status.specs.Psw.{user_mode}
use Rattle.tlb.specs.Lookup.{no_slot}
use Rattle.translation.specs.Translation.{translated, Physical}
use Rattle.translation.proofs.Resolved.{walk}
use Rattle.instructions.specs.Operands.{Surroundings, Operands, Simple, simple, illegal, opcode_of, field_y}
use Rattle.instructions.specs.Action.{Action, Write, Store, System, Exception, SystemInstruction, Rfx, Mvfs, Mvts, Tbs, Tbwr, Tbri, Tbwi}
use Rattle.compute.specs.Compute.{computations}
use Rattle.compute.proofs.Results.{Computed, every_computes}
use Rattle.control.specs.Control.{controls}
use Rattle.control.specs.Branches.{branch}
use Rattle.access.specs.Read.{Read, Value, Fault}
use Rattle.access.specs.Reads.{answered, read_from}
use Rattle.access.specs.Writes.{settled, store_to}
use Rattle.transfer.specs.Transfer.{address_of, landed, load, store, transfers}
use Rattle.system.specs.System.{SystemMeaning, privileged, traps, systems}
use Rattle.system.specs.Code.{illegal_system}
use Rattle.decode.specs.Table.{executed}
use Rattle.decode.proofs.Rows.{Always}
use Rattle.decode.proofs.Dispatch.{by_computation, by_control, by_trap, by_transfer, by_system, by_none}

-- the translation grants the instruction's data address, by this slot: `writes` says whether it is asked for a store
pub record Accessed (s : Surroundings) (o : Operands) (slot : ℕ) : Type 0 where
  pub width : ℕ
  pub writes : Bool
  pub physical : ℕ
  pub granted : translated s.psw s.highs s.lows width writes (address_of o) ≡ Physical physical slot

-- the faults of a data access
abbrev pub AccessFault : ℕ → Type 0
AccessFault eid = (eid ≡ 16) ⊎ ((21 ≤ eid) × (eid ≤ 25))

-- what a load or a store comes to
abbrev pub Accesses : Surroundings → Operands → Action → Type 0
Accesses s o (Write n v next slot) = (g : Accessed s o slot) × (g.writes ≡ false)
Accesses s o (Store width physical v slot) = (g : Accessed s o slot) × (g.writes ≡ true) × (g.width ≡ width) × (g.physical ≡ physical)
Accesses s o (System i) = ⊥
Accesses s o (Exception eid address) = AccessFault eid

-- and any other instruction
abbrev pub Quiet : Action → Type 0
Quiet (Write n v next slot) = slot ≡ no_slot
Quiet (Store width physical v slot) = ⊥
Quiet (System i) = Unit {0}
Quiet (Exception eid address) = Unit {0}

-- ---- loads and stores

module _ (s : Surroundings) (o : Operands) where
  abbrev Brings : Read → Type 0
  Brings (Value v slot) = (g : Accessed s o slot) × (g.writes ≡ false)
  Brings (Fault eid) = AccessFault eid

  brings : (slot : ℕ) (l : Loaded) → ((g : Accessed s o slot) × (g.writes ≡ false)) → Brings (answered slot l)
  brings slot (loaded.Value v) h = h
  brings slot loaded.Timeout h = inl refl

  lands : (extend : ℕ → ℕ) (r : Read) → Brings r → Accesses s o (landed extend (field_y o.word) (address_of o) o.next r)
  lands extend (Value v slot) h = h
  lands extend (Fault eid) h = h

  settles : (width physical value slot : ℕ) (r : Stored) → Accesses s o (Store width physical value slot)
      → Accesses s o (settled width physical value slot (address_of o) r)
  settles width physical value slot stored.Done h = h
  settles width physical value slot stored.Timeout h = inl refl

loads : (width : ℕ) (extend : ℕ → ℕ) → Always Accesses (load width extend)
unfolding load read_from
loads width extend s o =
    lands s o extend (read_from width s (address_of o))
    (walk _ Fault (Brings s o) (translated s.psw s.highs s.lows width false (address_of o))
    (λ a slot e. brings s o slot (load_of width s.timer s.memory a) (record { width = width; writes = false; physical = a; granted = e }, refl))
    (λ eid low high. inr (low, high)))

stores : (width : ℕ) → Always Accesses (store width)
unfolding store_to
stores width s o =
    walk _ (λ eid. Exception eid (address_of o)) (Accesses s o) (translated s.psw s.highs s.lows width true (address_of o))
    (λ a slot e. settles s o width a o.y slot (store_answer width s.memory a)
    (record { width = width; writes = true; physical = a; granted = e }, refl, refl, refl))
    (λ eid low high. inr (low, high))

transfers_access : Every (Always Accesses) transfers
unfolding transfers
transfers_access = loads 4 _ & loads 2 _ & loads 2 _ & loads 1 _ & loads 1 _ & stores 4 & stores 2 & stores 1 & tt

-- ---- the others

abbrev QuietOf : Simple → Type 0
QuietOf f = (o : Operands) → Quiet (f o)

abbrev QuietSystem : SystemMeaning → Type 0
QuietSystem f = (psw y word : ℕ) → Quiet (f psw y word)

computed_quiet : (o : Operands) (a : Action) → Computed o a → Quiet a
computed_quiet o (Write n v next slot) h = h.1
computed_quiet o (Store width physical v slot) h = absurd h
computed_quiet o (System i) h = absurd h
computed_quiet o (Exception eid address) h = tt

branches : (holds : Operands → Bool) → QuietOf (λ o. branch (holds o) o.word o.next)
unfolding branch
branches holds o = refl

controls_quiet : Every QuietOf controls
unfolding controls
controls_quiet =
    branches _ & branches _ & branches _ & branches _ & branches _ & branches _ & branches _ & branches _ & branches _ & branches _
    & (λ o. refl) & (λ o. refl) & (λ o. refl) & (λ o. refl) & tt

guarded : (psw : ℕ) (i : SystemInstruction) → Quiet (privileged psw (System i))
unfolding privileged
guarded psw i = chosen Quiet (user_mode psw) tt tt

traps_quiet : Every QuietSystem traps
unfolding traps
traps_quiet = (λ psw y word. tt) & (λ psw y word. guarded psw Rfx) & tt

systems_quiet : Every QuietSystem systems
unfolding systems
systems_quiet =
    (λ psw y word. guarded psw (Mvfs _ _)) & (λ psw y word. guarded psw (Mvts _ _)) & (λ psw y word. guarded psw Tbs)
    & (λ psw y word. guarded psw Tbwr) & (λ psw y word. guarded psw Tbri) & (λ psw y word. guarded psw Tbwi) & tt

-- ---- by the opcode

-- a place within a list
within : {A : Type 0} (P : A → Type 0) (l : List A) (n : ℕ) (d : A) → Every P l → n < length l → P (get_or l n d)
within P [] n d h k = absurd (omega arith)
within P (f ∷ fs) zero d h k = h.0
within P (f ∷ fs) (suc n) d h k = within P fs n d h.1 (omega arith)

module _ (s : Surroundings) (o : Operands) where
  abbrev op : ℕ
  op = opcode_of o.word

  -- 30 to 37
  pub executed_accesses : 48 ≤ op → op < 56 → Accesses s o (executed s o)
  unfolding executed transfers
  executed_accesses h k =
      let row : Accesses s o (get_or transfers (op - 48) (simple illegal) s o) =
      within (Always Accesses) transfers (op - 48) (simple illegal) transfers_access (omega arith) s o in
      rw (← by_transfer s o op h k) row

  quiet_below : op < 48 → Quiet (executed s o)
  unfolding executed
  quiet_below h =
      below_or_not op 32
      (λ l. rw (← by_computation s o op l)
      (every_at QuietOf computations op illegal (every_so (λ f c o. computed_quiet o (f o) (c o)) computations every_computes) (λ o. tt) o))
      (λ l. below_or_not op 46
      (λ k. rw (← by_control s o op l k) (every_at QuietOf controls (op - 32) illegal controls_quiet (λ o. tt) o))
      (λ k. rw (← by_trap s o op k h) (every_at QuietSystem traps (op - 46) illegal_system traps_quiet (λ psw y word. tt) s.psw o.y o.word)))

  quiet_above : 56 ≤ op → Quiet (executed s o)
  unfolding executed
  quiet_above h =
      below_or_not op 62
      (λ l. rw (← by_system s o op h l)
      (every_at QuietSystem systems (op - 56) illegal_system systems_quiet (λ psw y word. tt) s.psw o.y o.word))
      (λ l. rw (← by_none s o op l) tt)

  -- all but these
  pub executed_quiet : (op < 48) ⊎ (56 ≤ op) → Quiet (executed s o)
  executed_quiet (inl h) = quiet_below h
  executed_quiet (inr h) = quiet_above h
