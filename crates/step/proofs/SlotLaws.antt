-- The slot that a step tells: that of a load or a store that completes, and 33 exactly where the step makes no data access or the access faults; and
-- that nothing else goes by it (document 02, job 2).
use mathlib.Core.Path.{◌≡◌, refl, ap, sym, ◌∙◌}
use mathlib.Core.Logic.{◌⊎◌, inl, inr, ⊎_elim}
use Prim.Native.Nat.{ℕ, ◌≤◌, ◌<◌}
use native.Mathlib.Omega.{arith}
use Rattle.words.specs.Logic.{Exactly}
use Rattle.words.proofs.Cases.{below_or_not}
use Rattle.timer.specs.Timer.{lines_with}
use Rattle.tlb.specs.Lookup.{no_slot, direct_mapped}
use Rattle.translation.proofs.Slots.{Served, slot_serves, slot_direct, slot_below}
use Rattle.look.specs.Interrupt.{channel}
use Rattle.instructions.specs.Operands.{Surroundings, Operands, opcode_of}
use Rattle.instructions.specs.Action.{Action, Write, Store, System, Exception}
use Rattle.access.specs.Reads.{read_from, read_value}
use Rattle.access.proofs.Forgotten.{reslotted}
use Rattle.access.specs.Read.{Read, Value, Fault}
use Rattle.transfer.specs.Transfer.{address_of}
use Rattle.decode.specs.Table.{executed}
use Rattle.decode.proofs.Accesses.{Accessed, AccessFault, Accesses, Quiet, executed_accesses, executed_quiet}
use Rattle.look.specs.Look.{operands_of, decoded}
use Rattle.machine.specs.Machine.{Machine}
use Rattle.step.specs.Step.{surroundings_of, look, eid_of, slot_of, done, step_of}
use Rattle.step.proofs.Looks.{step_eid, step_slot}
use Rattle.step.proofs.StepLaws.{interrupt_first, nothing_before_the_fetch}

quiet_slot : (a : Action) → Quiet a → slot_of a ≡ no_slot
quiet_slot (Write n v next slot) h = h
quiet_slot (Store width physical v slot) h = absurd h
quiet_slot (System i) h = refl
quiet_slot (Exception eid address) h = refl

-- what a load or a store tells: the slot by which its address was granted, or a fault and no slot
abbrev pub Tells : Surroundings → Operands → ℕ → ℕ → Type 0
Tells s o eid slot = ((eid ≡ 32) × Accessed s o slot) ⊎ (AccessFault eid × (slot ≡ no_slot))

access_tells : (s : Surroundings) (o : Operands) (a : Action) → Accesses s o a → Tells s o (eid_of a) (slot_of a)
access_tells s o (Write n v next slot) h = inl (refl, h.0)
access_tells s o (Store width physical v slot) h = inl (refl, h.0)
access_tells s o (System i) h = absurd h
access_tells s o (Exception eid address) h = inr (h, refl)

module _ (m : Machine) (lines : ℕ) where
  abbrev ready : ℕ
  ready = channel m.processor.psw (lines_with m.timer lines)

  abbrev fetched : Read
  fetched = read_from 4 (surroundings_of m) m.processor.pc

  abbrev operands : ℕ → Operands
  operands word = operands_of m.processor.registers m.processor.pc word

  abbrev eid : ℕ
  eid = (step_of m lines).event.eid

  abbrev slot : ℕ
  slot = (step_of m lines).event.slot

  -- the step makes a data access: it accepts no interrupt, and the word that it fetches is a load or a store, opcodes 30 to 37
  pub record DataAccess : Type 0 where
    pub quiet : 32 ≤ ready
    pub word : ℕ
    pub by : ℕ
    pub fetches : fetched ≡ Value word by
    pub from : 48 ≤ opcode_of word
    pub upto : opcode_of word < 56

  fault_below : AccessFault eid → eid < 32
  fault_below f = ⊎_elim (λ e. omega arith) (λ e. omega (arith, e.1)) f

  -- the look at a fetched word
  looks : (word by : ℕ) → 32 ≤ ready → fetched ≡ Value word by → look m lines ≡ executed (surroundings_of m) (operands word)
  looks word by h e = nothing_before_the_fetch m lines h ∙ ap (decoded (surroundings_of m) m.processor.registers m.processor.pc) e

  pub access_told : (d : DataAccess) → Tells (surroundings_of m) (operands d.word) eid slot
  access_told d =
      let e = looks d.word d.by d.quiet d.fetches in
      rw (step_eid m lines _ e, step_slot m lines _ e)
      (access_tells (surroundings_of m) (operands d.word) (executed (surroundings_of m) (operands d.word))
      (executed_accesses (surroundings_of m) (operands d.word) d.from d.upto))

  -- one that completes: a slot below 32 is the lowest entry with its page, whose low word gave the frame and the rights, and 32 is told exactly
  -- for an address from C0000000 up
  module _ (d : DataAccess) (completes : eid ≡ 32) where
    granted : Accessed (surroundings_of m) (operands d.word) slot
    granted = ⊎_elim (λ t. t.1) (λ t. absurd (omega (arith, completes, fault_below t.0))) (access_told d)

    pub told_serves : slot < 32 → (g : Accessed (surroundings_of m) (operands d.word) slot)
        × Served m.processor.tlbhigh m.processor.tlblow g.writes (address_of (operands d.word)) g.physical slot
    told_serves h = let g = granted in (g, slot_serves _ _ _ g.width g.writes _ g.physical slot g.granted h)

    pub told_direct : Exactly (slot ≡ direct_mapped) (0xC0000000 ≤ address_of (operands d.word))
    told_direct = let g = granted in slot_direct _ _ _ g.width g.writes _ g.physical slot g.granted

  -- ---- no data access, no slot

  abbrev None : Type 0
  None = (DataAccess → ⊥) × (slot ≡ no_slot)

  by_interrupt : ready < 32 → None
  by_interrupt h = (λ d. omega (arith, d.quiet), step_slot m lines _ (interrupt_first m lines h))

  by_fault : (number : ℕ) → 32 ≤ ready → fetched ≡ Fault number → None
  by_fault number h e = (
    λ d. let clash : Value d.word d.by ≡ Fault number = sym d.fetches ∙ e in let z : ◌≡◌ {A = ℕ} 0 1 = cc in omega arith,
    step_slot m lines _ (nothing_before_the_fetch m lines h ∙ ap (decoded (surroundings_of m) m.processor.registers m.processor.pc) e),
  )

  by_another : (word by : ℕ) → 32 ≤ ready → fetched ≡ Value word by → (opcode_of word < 48) ⊎ (56 ≤ opcode_of word) → None
  by_another word by h e out = (
    λ d. let same : d.word ≡ word = ap read_value (sym d.fetches ∙ e) in
        ⊎_elim (λ l. omega (arith, d.from)) (λ l. omega (arith, d.upto)) out,
    step_slot m lines _ (looks word by h e)
        ∙ quiet_slot (executed (surroundings_of m) (operands word)) (executed_quiet (surroundings_of m) (operands word) out),
  )

  pub data_or_none : DataAccess ⊎ None
  data_or_none = below_or_not ready 32 (λ h. inr (by_interrupt h)) (λ h. go fetched refl h)
    where
      go : (r : Read) → fetched ≡ r → 32 ≤ ready → DataAccess ⊎ None
      go (Fault number) e h = inr (by_fault number h e)
      go (Value word by) e h =
          below_or_not (opcode_of word) 48 (λ l. inr (by_another word by h e (inl l)))
          (λ l. below_or_not (opcode_of word) 56 (λ k. inl (record { quiet = h; word = word; by = by; fetches = e; from = l; upto = k }))
          (λ k. inr (by_another word by h e (inr k))))

  -- ---- 33 exactly for these

  granted_below : (o : Operands) → Accessed (surroundings_of m) o slot → slot ≤ direct_mapped
  granted_below o g = slot_below _ _ _ g.width g.writes _ g.physical slot g.granted

  pub no_slot_lem : Exactly (slot ≡ no_slot) ((DataAccess → ⊥) ⊎ AccessFault eid)
  no_slot_lem = (
    λ e. ⊎_elim
        (λ d. ⊎_elim (λ t. absurd (omega (arith, e, granted_below _ t.1))) (λ t. inr t.0) (access_told d))
        (λ n. inl n.0) data_or_none,
    λ h. ⊎_elim
        (λ d. ⊎_elim (λ t. absurd (⊎_elim (λ no. no d) (λ f. omega (arith, t.0, fault_below f)) h)) (λ t. t.1) (access_told d))
        (λ n. n.1) data_or_none,
  )

  -- any other slot is below 33: it is the translation's
  pub slot_or_none : (slot ≡ no_slot) ⊎ (slot ≤ direct_mapped)
  slot_or_none =
      ⊎_elim (λ d. ⊎_elim (λ t. inr (granted_below _ t.1)) (λ t. inl t.1) (access_told d)) (λ n. inl n.1) data_or_none

-- ---- a slot is only told

-- by another slot in its action, the machine after a step and the exception are the same
pub only_told : (k : ℕ) (m : Machine) (a : Action) → (done m (reslotted k a) ≡ done m a) × (eid_of (reslotted k a) ≡ eid_of a)
only_told k m (Write n v next slot) = (refl, refl)
only_told k m (Store width physical v slot) = (refl, refl)
only_told k m (System i) = (refl, refl)
only_told k m (Exception eid address) = (refl, refl)
