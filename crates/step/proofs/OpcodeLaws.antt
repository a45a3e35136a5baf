-- The opcode that a step tells: that of the word at the PC where its instruction completes, one of the 61, and 64 exactly where the step accepts an
-- exception, whatever its opcode (document 02, job 3).
use mathlib.Core.Path.{◌≡◌, refl, ap, sym, ◌∙◌}
use mathlib.Core.Logic.{◌⊎◌, inl, inr, ⊎_elim}
use Prim.Native.Nat.{ℕ, ◌≤◌, ◌<◌}
use native.Mathlib.Omega.{arith}
use lib.ListN.{get_or, get_or-eq_default}
use Rattle.words.specs.Logic.{Exactly}
use Rattle.words.specs.Identifiers.{illegal_instruction}
use Rattle.words.proofs.Cases.{below_or_not}
use Rattle.timer.specs.Timer.{lines_with}
use Rattle.look.specs.Interrupt.{channel}
use Rattle.instructions.specs.Operands.{Meaning, Surroundings, Operands, simple, illegal, opcode_of}
use Rattle.instructions.specs.Action.{Action, Write, Store, System, Exception}
use Rattle.access.specs.Reads.{read_from}
use Rattle.access.specs.Read.{Read, Value, Fault}
use Rattle.compute.specs.Compute.{computations}
use Rattle.control.specs.Control.{controls}
use Rattle.transfer.specs.Transfer.{transfers}
use Rattle.system.specs.System.{traps, systems}
use Rattle.decode.specs.Table.{meanings, executed}
use Rattle.look.specs.Look.{operands_of, decoded, no_opcode}
use Rattle.look.proofs.Looks.{opcode_reads}
use Rattle.machine.specs.Machine.{Machine}
use Rattle.step.specs.Step.{surroundings_of, look, eid_of, completed_opcode, opcode_fetched, step_of}
use Rattle.step.proofs.Looks.{step_eid, step_opcode}
use Rattle.step.proofs.StepLaws.{interrupt_first, nothing_before_the_fetch}
use Rattle.step.proofs.Named.{named_below}

-- ---- the illegal opcodes: 1E, and 3E and up

abbrev Illegal : ℕ → Type 0
Illegal opcode = (opcode ≡ 0x1E) ⊎ (0x3E ≤ opcode)

illegal_row : (opcode : ℕ) → Illegal opcode → get_or meanings opcode (simple illegal) ≡ simple illegal
unfolding meanings computations controls traps transfers systems
illegal_row opcode (inl e) = rw e
illegal_row opcode (inr h) = get_or-eq_default meanings (simple illegal) {n = opcode} (omega arith)

illegal_faults : (s : Surroundings) (o : Operands) → Illegal (opcode_of o.word) → eid_of (executed s o) ≡ illegal_instruction
unfolding executed
illegal_faults s o h = ap (λ (f : Meaning). eid_of (f s o)) (illegal_row (opcode_of o.word) h)

-- ---- what a step tells

module _ (m : Machine) (lines : ℕ) where
  abbrev ready : ℕ
  ready = channel m.processor.psw (lines_with m.timer lines)

  abbrev fetched : Read
  fetched = read_from 4 (surroundings_of m) m.processor.pc

  abbrev eid : ℕ
  eid = (step_of m lines).event.eid

  abbrev opcode : ℕ
  opcode = (step_of m lines).event.opcode

  -- an instruction completes: no exception is accepted, and the opcode of the word at the PC is legal and is told
  pub record Completes : Type 0 where
    pub word : ℕ
    pub by : ℕ
    pub fetches : fetched ≡ Value word by
    pub does : look m lines ≡ executed (surroundings_of m) (operands_of m.processor.registers m.processor.pc word)
    pub none : eid ≡ 32
    pub tells : opcode ≡ opcode_of word
    pub legal : (opcode_of word < 0x3E) × (opcode_of word ≡ 0x1E → ⊥)

  -- an exception is accepted: it has a number, and no opcode is told
  abbrev pub Excepted : Type 0
  Excepted = (eid < 32) × (opcode ≡ no_opcode)

  excepted : (number address : ℕ) → look m lines ≡ Exception number address → Excepted
  excepted number address e =
      (omega (arith, step_eid m lines _ e, named_below m lines number address e), step_opcode m lines _ e)

  module _ (word by : ℕ) (quiet : 32 ≤ ready) (e : fetched ≡ Value word by) where
    does : look m lines ≡ executed (surroundings_of m) (operands_of m.processor.registers m.processor.pc word)
    does = nothing_before_the_fetch m lines quiet ∙ ap (decoded (surroundings_of m) m.processor.registers m.processor.pc) e

    completes : (a : Action) → look m lines ≡ a → eid_of a ≡ 32 → completed_opcode (opcode_fetched m lines) a ≡ opcode_fetched m lines → Completes
    completes a f none same =
        let legal : Illegal (opcode_of word) → ⊥ = λ h. let k : ◌≡◌ {A = ℕ} 32 17 = sym none ∙ ap eid_of (sym f ∙ does) ∙ illegal_faults _ _ h in omega arith in
        record {
          word = word;
          by = by;
          fetches = e;
          does = does;
          none = step_eid m lines a f ∙ none;
          tells = step_opcode m lines a f ∙ same ∙ sym (opcode_reads (surroundings_of m) m.processor.pc _ ready _ refl quiet e);
          legal = (below_or_not (opcode_of word) 0x3E (λ h. h) (λ h. absurd (legal (inr h))), λ h. legal (inl h));
        }

    by_action : (a : Action) → look m lines ≡ a → Completes ⊎ Excepted
    by_action (Write n v next slot) f = inl (completes _ f refl refl)
    by_action (Store width physical v slot) f = inl (completes _ f refl refl)
    by_action (System i) f = inl (completes _ f refl refl)
    by_action (Exception number address) f = inr (excepted number address f)

  pub completes_or_excepted : Completes ⊎ Excepted
  completes_or_excepted = below_or_not ready 32 (λ h. inr (excepted _ _ (interrupt_first m lines h))) (λ h. go fetched refl h)
    where
      go : (r : Read) → fetched ≡ r → 32 ≤ ready → Completes ⊎ Excepted
      go (Fault number) e h =
          inr (excepted number _ (nothing_before_the_fetch m lines h
          ∙ ap (decoded (surroundings_of m) m.processor.registers m.processor.pc) e))
      go (Value word by) e h = by_action word by h e (look m lines) refl

  pub no_opcode_lem : Exactly (opcode ≡ no_opcode) (eid < 32)
  no_opcode_lem = (
    λ e. ⊎_elim (λ c. omega (arith, e, c.tells, c.legal.0)) (λ x. x.0) completes_or_excepted,
    λ h. ⊎_elim (λ c. omega (arith, h, c.none)) (λ x. x.1) completes_or_excepted,
  )

  -- an entry of a list of charges
  pub opcode_within : opcode ≤ 64
  opcode_within = ⊎_elim (λ c. omega (arith, c.tells, c.legal.0)) (λ x. omega (arith, x.1)) completes_or_excepted
