-- The replacement index moves once in every step and in no other way, and TBWR writes at the index as it was before the step (document 02, job 4).
use mathlib.Core.Path.{◌≡◌, refl, ap}
use Prim.Native.Nat.{ℕ, ◌%◌}
use lib.ListN.{set}
use Rattle.tlb.specs.Lookup.{next_replacement}
use Rattle.processor.specs.declared.Processor.{Processor}
use Rattle.processor.specs.Exception.{entered, returned}
use Rattle.processor.specs.Register.{written, jumped, special_written}
use Rattle.processor.specs.Tlb.{entry_written, indexed_written, random_written, entry_read, searched}
use Rattle.instructions.specs.Action.{Action, Write, Store, System, Exception, SystemInstruction, Rfx, Mvfs, Mvts, Tbs, Tbwr, Tbri, Tbwi}
use Rattle.machine.specs.Machine.{Machine}
use Rattle.actions.specs.Actions.{system_done, processor_after}
use Rattle.step.specs.Step.{look, step_of}
use Rattle.step.proofs.Looks.{step_done}

-- no action moves it, TBWR neither
system_leaves : (p : Processor) (i : SystemInstruction) → (system_done i p).replacement ≡ p.replacement
unfolding system_done written jumped returned special_written searched random_written indexed_written entry_written entry_read
system_leaves p Rfx = refl
system_leaves p (Mvfs z n) = refl
system_leaves p (Mvts z v) = refl
system_leaves p Tbs = refl
system_leaves p Tbwr = refl
system_leaves p Tbri = refl
system_leaves p Tbwi = refl

pub action_leaves : (p : Processor) (a : Action) → (processor_after p a).replacement ≡ p.replacement
unfolding written jumped entered
action_leaves p (Write n v next slot) = refl
action_leaves p (Store width physical v slot) = refl
action_leaves p (System i) = system_leaves p i
action_leaves p (Exception eid address) = refl

-- every step does, whatever its action
pub step_moves : (m : Machine) (lines : ℕ) → (step_of m lines).machine.processor.replacement ≡ next_replacement m.processor.replacement
unfolding step_of
step_moves m lines = ap next_replacement (action_leaves m.processor (look m lines))

-- TBWR writes Entry High and Entry Low at the index before it moves
module _ (m : Machine) (lines : ℕ) (e : look m lines ≡ System Tbwr) where
  pub random_high : (step_of m lines).machine.processor.tlbhigh
      ≡ set m.processor.tlbhigh (m.processor.replacement % 32) m.processor.entryhigh
  unfolding system_done jumped random_written entry_written
  random_high = ap (λ (n : Machine). n.processor.tlbhigh) (step_done m lines (System Tbwr) e)

  pub random_low : (step_of m lines).machine.processor.tlblow
      ≡ set m.processor.tlblow (m.processor.replacement % 32) m.processor.entrylow
  unfolding system_done jumped random_written entry_written
  random_low = ap (λ (n : Machine). n.processor.tlblow) (step_done m lines (System Tbwr) e)
