-- The step by its look.
use mathlib.Core.Path.{◌≡◌, ap}
use Prim.Native.Nat.{ℕ}
use Rattle.timer.specs.declared.Timer.{Timer}
use Rattle.memory.specs.Map.{Memory}
use Rattle.processor.specs.declared.Processor.{Processor}
use Rattle.instructions.specs.Action.{Action}
use Rattle.machine.specs.Machine.{Machine}
use Rattle.step.specs.Step.{look, opcode_fetched, done, eid_of, slot_of, completed_opcode, step_of}

module _ (m : Machine) (lines : ℕ) (a : Action) (e : look m lines ≡ a) where
  pub step_done : (step_of m lines).machine ≡ done m a
  unfolding step_of
  step_done = ap (done m) e

  pub step_eid : (step_of m lines).event.eid ≡ eid_of a
  unfolding step_of
  step_eid = ap eid_of e

  pub step_slot : (step_of m lines).event.slot ≡ slot_of a
  unfolding step_of
  step_slot = ap slot_of e

  pub step_opcode : (step_of m lines).event.opcode ≡ completed_opcode (opcode_fetched m lines) a
  unfolding step_of
  step_opcode = ap (completed_opcode (opcode_fetched m lines)) e

-- the three parts of a machine
pub joined : {p q : Processor} {t u : Timer} {m n : Memory} → p ≡ q → t ≡ u → m ≡ n
    → ◌≡◌ {A = Machine} (record { processor = p; timer = t; memory = m }) (record { processor = q; timer = u; memory = n })
joined e f g = λ i. record { processor = e i; timer = f i; memory = g i }
