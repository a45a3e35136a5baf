-- A fit state and a fit timer stay fit over every step.
use Prim.Native.Nat.{ℕ, ◌≤◌}
use Rattle.sums.specs.Sums.{sum}
use Rattle.timer.specs.declared.Timer.{Timer}
use Rattle.timer.proofs.Registers.{ticked_fits}
use Rattle.memory.specs.Map.{Memory}
use Rattle.memory.specs.Access.{access_width}
use Rattle.memory.proofs.Bytewise.{store_fits}
use Rattle.processor.specs.declared.Processor.{Processor}
use Rattle.processor.specs.Register.{special}
use Rattle.processor.proofs.FitLaws.{Fit}
use Rattle.processor.proofs.FitKept.{entered_fit, returned_fit, written_fit, jumped_fit, special_fit, indexed_fit, random_fit, read_fit, searched_fit}
use Rattle.processor.proofs.FitKept.{moved_fit}
use Rattle.instructions.specs.Action.{Action, Write, Store, System, Exception, SystemInstruction, Rfx, Mvfs, Mvts, Tbs, Tbwr, Tbri, Tbwi}
use Rattle.machine.specs.Machine.{Machine}
use Rattle.actions.specs.Actions.{processor_after, onward, system_done}
use Rattle.step.specs.Step.{look, timer_done, step_of}

module _ (p : Processor) (f : Fit p) where
  system_fit : (i : SystemInstruction) → Fit (system_done i p)
  unfolding system_done
  system_fit Rfx = returned_fit p f
  system_fit (Mvfs z n) = written_fit p f n (special p z) (sum p.pc 4)
  system_fit (Mvts z v) = special_fit (onward p) (jumped_fit p f _) z v
  system_fit Tbs = searched_fit (onward p) (jumped_fit p f _)
  system_fit Tbwr = random_fit (onward p) (jumped_fit p f _)
  system_fit Tbri = read_fit (onward p) (jumped_fit p f _)
  system_fit Tbwi = indexed_fit (onward p) (jumped_fit p f _)

  after_fit : (a : Action) → Fit (processor_after p a)
  after_fit (Write n v next slot) = written_fit p f n v next
  after_fit (Store width physical v slot) = jumped_fit p f (sum p.pc 4)
  after_fit (System i) = system_fit i
  after_fit (Exception eid address) = entered_fit p f eid address

pub step_fit : (m : Machine) (lines : ℕ) → Fit m.processor → Fit (step_of m lines).machine.processor
unfolding step_of
step_fit m lines f = moved_fit _ (after_fit m.processor f (look m lines))

timer_done_fits : (t : Timer) (m : Memory) → t.control ≤ 3 → (a : Action) → (timer_done t m a).control ≤ 3
timer_done_fits t m h (Write n v next slot) = h
timer_done_fits t m h (Store width physical v slot) = store_fits (access_width width) t h m physical v
timer_done_fits t m h (System i) = h
timer_done_fits t m h (Exception eid address) = h

pub step_timer_fits : (m : Machine) (lines : ℕ) → m.timer.control ≤ 3 → (step_of m lines).machine.timer.control ≤ 3
unfolding step_of
step_timer_fits m lines h = ticked_fits _ (timer_done_fits m.timer m.memory h (look m lines))
