-- One step of a run on its way, by the action that the look named.
use mathlib.Core.Path.{◌≡◌, refl, ap, sym, ◌∙◌}
use mathlib.Core.Bool.{cond}
use mathlib.Core.List.{List}
use Prim.Native.Nat.{ℕ, ◌+◌, ◌≤◌}
use native.Mathlib.Numerals.{add-one}
use native.Mathlib.Omega.{arith}
use lib.Dec.{leb}
use borrow.Author.Tests.{lt-leb}
use Rattle.tlb.specs.Found.{Serves}
use Rattle.tlb.specs.Lookup.{page_of, lookup, replacement_after}
use Rattle.instructions.specs.Action.{Action, System, SystemInstruction, Rfx, Mvfs, Mvts, Tbs, Tbwr, Tbri, Tbwi}
use Rattle.instructions.specs.Code.{action_of}
use Rattle.instructions.specs.declared.Coded.{Coded}
use Rattle.instructions.specs.declared.Coded.TheVariants as coded
use Rattle.processor.specs.declared.Processor.{Processor}
use Rattle.processor.specs.State.{with_replacement}
use Rattle.processor.specs.Exception.{entered}
use Rattle.processor.specs.Register.{written, jumped}
use Rattle.processor.specs.Tlb.{index_moved}
use Rattle.actions.specs.Actions.{processor_after}
use Rattle.timer.specs.Timer.{lines_with}
use Rattle.machine.specs.Machine.{Machine}
use Rattle.look.specs.Look.{look_from, opcode_from}
use Rattle.step.specs.Step.{surroundings_of, look, opcode_fetched, done, eid_of, slot_of, completed_opcode, Stepped, stepped, step_of}
use Rattle.step.proofs.IndexLaws.{action_leaves}
use Rattle.step.proofs.OpcodeLaws.{opcode_within}
use Rattle.run_loop.specs.Run.{indexed}

-- ---- the replacement index: a run on its way keeps an old one, and reckons it by the steps made

module _ (first made : ℕ) where
  -- an action done but for the index, and then the step's move
  moves_on : (q r : Processor) → indexed first made q ≡ r → indexed first (made + 1) q ≡ index_moved r
  unfolding replacement_after
  moves_on q r e = ap (λ (n : ℕ). indexed first n q) (add-one made) ∙ ap index_moved e

  -- a write, a jump and exception entry go past the index
  module _ (p q : Processor) where
    pub writes : (n v next : ℕ) → q ≡ written p n v next → indexed first (made + 1) q ≡ index_moved (written (indexed first made p) n v next)
    unfolding written
    writes n v next e = moves_on q _ (ap (indexed first made) e)

    pub jumps : (next : ℕ) → q ≡ jumped p next → indexed first (made + 1) q ≡ index_moved (jumped (indexed first made p) next)
    unfolding jumped
    jumps next e = moves_on q _ (ap (indexed first made) e)

    pub enters : (eid address : ℕ) → q ≡ entered p eid address
        → indexed first (made + 1) q ≡ index_moved (entered (indexed first made p) eid address)
    unfolding entered
    enters eid address e = moves_on q _ (ap (indexed first made) e)

    -- a system instruction sees it, and leaves it
    pub leaves : (a : Action) → p.replacement ≡ replacement_after made first → q ≡ processor_after p a
        → indexed first (made + 1) q ≡ index_moved (processor_after (indexed first made p) a)
    leaves a e f =
        let same : q ≡ processor_after (indexed first made p) a = f ∙ ap (λ (k : ℕ). processor_after (with_replacement p k) a) e in
        let index : q.replacement ≡ replacement_after made first =
        ap (λ (r : Processor). r.replacement) same ∙ action_leaves (indexed first made p) a in
        moves_on q _ (ap (with_replacement q) (sym index) ∙ same)

-- ---- an entry that was found stays where it is: a write, a jump and exception entry leave the TLB

module _ (p : Processor) (i page : ℕ) (f : i ≡ lookup p.tlbhigh page) (q : Processor) where
  pub write_found : (n v next : ℕ) → q ≡ written p n v next → i ≡ lookup q.tlbhigh page
  unfolding written
  write_found n v next e = f ∙ sym (ap (λ (r : Processor). lookup r.tlbhigh page) e)

  pub jump_found : (next : ℕ) → q ≡ jumped p next → i ≡ lookup q.tlbhigh page
  unfolding jumped
  jump_found next e = f ∙ sym (ap (λ (r : Processor). lookup r.tlbhigh page) e)

  pub enter_found : (eid address : ℕ) → q ≡ entered p eid address → i ≡ lookup q.tlbhigh page
  unfolding entered
  enter_found eid address e = f ∙ sym (ap (λ (r : Processor). lookup r.tlbhigh page) e)

-- the entry that was followed to serves the address
pub followed_serves : (highs : List ℕ) (last page i address : ℕ) → page ≡ cond (leb 0xC0000000 address) last (page_of address)
    → i ≡ lookup highs page → Serves highs i address
followed_serves highs last page i address e f = λ below. f ∙ ap (lookup highs) (e ∙ simp (lt-leb 0xC0000000 address below))

-- ---- the step, by what the look answered and what was then done

pub turned : (m n : Machine) (lines : ℕ) {seen : ℕ} → seen ≡ lines_with m.timer lines
    → {a b : Action} → b ≡ look_from (surroundings_of m) m.processor.registers m.processor.pc seen → b ≡ a
    → {opcode : ℕ} → opcode ≡ opcode_from (surroundings_of m) m.processor.pc seen
    → n ≡ done m a → stepped n (eid_of a) (slot_of a) (completed_opcode opcode a) ≡ step_of m lines
unfolding look step_of
turned m n lines s {a} e told {opcode} o after =
    let looked : a ≡ look m lines = sym told ∙ e ∙ ap (look_from (surroundings_of m) m.processor.registers m.processor.pc) s in
    let same : opcode ≡ opcode_fetched m lines = o ∙ ap (opcode_from (surroundings_of m) m.processor.pc) s in
    ap (λ (k : Machine). stepped k (eid_of a) (slot_of a) (completed_opcode opcode a)) after
    ∙ (λ i. stepped (done m (looked i)) (eid_of (looked i)) (slot_of (looked i)) (completed_opcode (same i) (looked i)))

-- so the opcode that it tells is an entry of a list of charges
pub turned_within : (m n : Machine) (lines : ℕ) {eid slot opcode : ℕ} → stepped n eid slot opcode ≡ step_of m lines → opcode ≤ 64
turned_within m n lines e = omega (arith, ap (λ (t : Stepped). t.event.opcode) e, opcode_within m lines)

-- ---- an action of no other arm is a system instruction

abbrev Not : (ℕ → ℕ → ℕ → ℕ → Coded) → Coded → Type 0
Not variant a = (x y z w : ℕ) → a ≡ variant x y z w → ⊥

pub other_is_system : (a : Coded) → Not coded.Write a → Not coded.Store a → ((eid address : ℕ) → a ≡ coded.Exception eid address → ⊥)
    → (i : SystemInstruction) × (action_of a ≡ System i)
other_is_system (coded.Write n v next slot) write store exception = absurd (write n v next slot refl)
other_is_system (coded.Store width address v slot) write store exception = absurd (store width address v slot refl)
other_is_system coded.Rfx write store exception = (Rfx, refl)
other_is_system (coded.Mvfs z n) write store exception = (Mvfs z n, refl)
other_is_system (coded.Mvts z v) write store exception = (Mvts z v, refl)
other_is_system coded.Tbs write store exception = (Tbs, refl)
other_is_system coded.Tbwr write store exception = (Tbwr, refl)
other_is_system coded.Tbri write store exception = (Tbri, refl)
other_is_system coded.Tbwi write store exception = (Tbwi, refl)
other_is_system (coded.Exception eid address) write store exception = absurd (exception eid address refl)
