-- An accepted exception has a number of the manual's table, 0 to 25, and the PSW's EID field holds it: so an answer of 32 says that there was none.
use mathlib.Core.Path.{◌≡◌, refl, ap, sym, subst, ◌∙◌}
use mathlib.Core.Bool.{Bool, true, false, cond}
use Prim.Native.Nat.{ℕ, zero, suc, ◌+◌, ◌/◌, ◌%◌, ◌≤◌, ◌<◌}
use native.Mathlib.Omega.{arith}
use lib.Bits.{bit_and}
use lib.Dec.{eqb, ltb}
use borrow.Author.Tests.{ltb-true}
use mathlib.Core.List.{List}
use Rattle.status.specs.Psw.{identifier, interrupt_current, enabled}
use Rattle.processor.specs.Exception.{entered}
use Rattle.look.specs.Interrupt.{lowest, channel}
use Rattle.translation.specs.Translation.{translated}
use Rattle.status.proofs.PswLaws.{Fields, fields_of, pushed_fields_lem}
use Rattle.instructions.specs.Operands.{Surroundings}
use Rattle.access.specs.Reads.{read_from}
use Rattle.instructions.specs.Action.{Action, Exception}
use Rattle.access.specs.Read.{Read, Value, Fault}
use Rattle.decode.proofs.Named.{Named, NamedRead, read_named}
use Rattle.decode.proofs.Outcomes.{executed_named}
use Rattle.timer.specs.Timer.{lines_with}
use Rattle.machine.specs.Machine.{Machine}
use Rattle.look.specs.Look.{operands_of, decoded, look_from}
use Rattle.step.specs.Step.{surroundings_of, look, step_of}
use Rattle.step.proofs.StepLaws.{fault_enters, fault_named}

-- ---- the look

-- a channel is below 16
lowest_range : (n i ready : ℕ) → i + n ≤ 32 → lowest n i ready < 32 → lowest n i ready < i + n
unfolding lowest
lowest_range zero i ready fits h = absurd (omega arith)
lowest_range (suc n) i ready fits h = go (eqb (ready % 2) 1) refl (lowest_range n (suc i) (ready / 2))
  where
    go : (t : Bool) → eqb (ready % 2) 1 ≡ t
        → (suc i + n ≤ 32 → lowest n (suc i) (ready / 2) < 32 → lowest n (suc i) (ready / 2) < suc i + n)
        → lowest (suc n) i ready < i + suc n
    go true e rest = simp e (omega arith)
    go false e rest =
        let there : lowest n (suc i) (ready / 2) < suc i + n = rest (omega arith) (simp e at h) in
        simp e (omega arith)

channel_range : (psw lines : ℕ) → channel psw lines < 32 → channel psw lines < 16
unfolding channel
channel_range psw lines h = go (eqb (interrupt_current psw) 1) h
  where
    go : (t : Bool) → cond t (lowest 16 0 (bit_and lines (enabled psw))) 32 < 32 → cond t (lowest 16 0 (bit_and lines (enabled psw))) 32 < 16
    go true k = lowest_range 16 0 (bit_and lines (enabled psw)) (omega arith) k
    go false k = absurd (omega arith)

decoded_named : (s : Surroundings) (registers : List ℕ) (pc : ℕ) (r : Read) → NamedRead r → Named (decoded s registers pc r)
decoded_named s registers pc (Value word slot) h = executed_named s (operands_of registers pc word)
decoded_named s registers pc (Fault eid) h = h

look_named : (m : Machine) (lines : ℕ) → Named (look m lines)
unfolding look look_from read_from
look_named m lines = go (ltb (channel m.processor.psw (lines_with m.timer lines)) 32) refl
  where
    rest : Action
    rest = decoded (surroundings_of m) m.processor.registers m.processor.pc (read_from 4 (surroundings_of m) m.processor.pc)

    rest_named : Named rest
    rest_named =
        decoded_named (surroundings_of m) m.processor.registers m.processor.pc
        (read_from 4 (surroundings_of m) m.processor.pc)
        (read_named 4 m.timer m.memory (translated m.processor.psw m.processor.tlbhigh m.processor.tlblow 4 false m.processor.pc))

    go : (t : Bool) → ltb (channel m.processor.psw (lines_with m.timer lines)) 32 ≡ t
        → Named (cond t (Exception (channel m.processor.psw (lines_with m.timer lines)) 0) rest)
    go true e = omega (arith, channel_range m.processor.psw (lines_with m.timer lines) (ltb-true _ _ e))
    go false e = rest_named

-- ---- what is accepted

module _ (m : Machine) (lines eid address : ℕ) (e : look m lines ≡ Exception eid address) where
  pub named_below : eid ≤ 25
  named_below = subst Named e (look_named m lines)

  -- and the EID field holds it
  pub eid_in_psw : identifier (step_of m lines).machine.processor.psw ≡ (step_of m lines).event.eid
  unfolding entered fields_of
  eid_in_psw =
      let small : eid % 32 ≡ eid = omega (arith, named_below) in
      ap (λ (n : Machine). identifier n.processor.psw) (fault_enters m lines eid address e)
      ∙ ap (λ (f : Fields). f.eid) (pushed_fields_lem m.processor.psw eid)
      ∙ small
      ∙ sym (fault_named m lines eid address e)
