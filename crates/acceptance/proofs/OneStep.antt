-- A run of one step to exception is the step: its machine, its exception or 32, and its slot or 33.
use mathlib.Core.Path.{◌≡◌, refl, ap, sym, ◌∙◌}
use mathlib.Core.Bool.{Bool, true, false, cond}
use Prim.Native.Nat.{ℕ, suc, ◌≤◌}
use native.Mathlib.Omega.{arith}
use borrow.Author.Tests.{ltb-false}
use Rattle.words.proofs.Cases.{chosen}
use Rattle.instructions.specs.Action.{Action, Write, Store, System, Exception}
use Rattle.machine.specs.Machine.{Machine}
use Rattle.step.specs.Step.{look, eid_of, stepped, step_of}
use Rattle.step.proofs.Named.{named_below}
use Rattle.charges.specs.Charges.{Uncharged}
use Rattle.refusals.specs.Request.{to_exception, Request, request}
use Rattle.run_loop.specs.Run.{Outcome, outcome, ends, begun, steps_from, counted_all, run_from}
use Rattle.run_loop.proofs.Loop.{no_step, onward, first_step}

module _ (m : Machine) (lines : ℕ) where
  abbrev eid : ℕ
  eid = (step_of m lines).event.eid

  -- a step that accepts no exception tells 32
  none_is_32 : 32 ≤ eid → eid ≡ 32
  unfolding step_of
  none_is_32 h = go (look m lines) refl h
    where
      go : (a : Action) → look m lines ≡ a → 32 ≤ eid_of a → eid_of a ≡ 32
      go (Write n v next slot) e k = refl
      go (Store width physical v slot) e k = refl
      go (System i) e k = refl
      go (Exception number address) e k = absurd (omega (arith, named_below m lines number address e))

  abbrev single : Request
  single = request to_exception 1 lines Uncharged

  pub one_step : (n : Machine) (r k number slot charge : ℕ) → outcome n r k number slot charge ≡ run_from single 1 (begun m 0)
      → stepped n number slot (step_of m lines).event.opcode ≡ step_of m lines
  unfolding ends
  one_step n r k number slot charge e =
      λ i. stepped (same i).machine (same i).answer.eid (same i).answer.slot (step_of m lines).event.opcode
    where
      known : (t : Bool) → ends to_exception eid ≡ t → cond t eid 32 ≡ eid
      known true h = refl
      known false h = sym (none_is_32 (ltb-false eid 32 h))

      same : outcome n r k number slot charge ≡ outcome (step_of m lines).machine 0 1 eid (step_of m lines).event.slot 0
      same =
          e ∙ first_step single 0 (begun m 0)
          ∙ chosen (λ (o : Outcome). o ≡ onward single (begun m 0)) (ends to_exception eid) refl (no_step _ _)
          ∙ ap (λ (j : ℕ). outcome (step_of m lines).machine 0 1 j (step_of m lines).event.slot 0) (known (ends to_exception eid) refl)

-- the slot of an outcome counts where no step follows
pub any_slot : (q : Request) (n : ℕ) (m : Machine) (made i j total : ℕ)
    → run_from q (suc n) (outcome m 0 made 32 i total) ≡ run_from q (suc n) (outcome m 0 made 32 j total)
unfolding run_from steps_from counted_all
any_slot q n m made i j total = refl
