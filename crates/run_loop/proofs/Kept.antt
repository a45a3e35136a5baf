-- What every step keeps, every run keeps.
use Prim.Native.Nat.{ℕ, zero, suc, ◌≤◌}
use lib.Dec.{eqb}
use Rattle.words.proofs.Cases.{chosen}
use Rattle.processor.proofs.FitLaws.{Fit}
use Rattle.machine.specs.Machine.{Machine, Representable}
use Rattle.step.specs.Step.{step_of}
use Rattle.step.proofs.StepFit.{step_fit, step_timer_fits}
use Rattle.step.proofs.StepRepresentable.{step_representable}
use Rattle.refusals.specs.Refusal.{run_refusal}
use Rattle.refusals.specs.Request.{Request}
use Rattle.run_loop.specs.Run.{Outcome, ends, begun, run_from, run_of, steps_from, counted_all}
use Rattle.run_loop.proofs.Loop.{onward, first_step, run_is}

module _ (P : Machine → Type 0) (step : (m : Machine) (lines : ℕ) → P m → P (step_of m lines).machine) (q : Request) where
  abbrev Ends : Outcome → Type 0
  Ends o = P o.machine

  pub from_keeps : (n : ℕ) (o : Outcome) → Ends o → Ends (run_from q n o)
  unfolding run_from steps_from counted_all
  from_keeps zero o h = h
  from_keeps (suc n) o h =
      let next : Ends (onward q o) = step o.machine q.lines h in
      rw (first_step q n o) (chosen Ends (ends q.kind (step_of o.machine q.lines).event.eid) next (from_keeps n (onward q o) next))

  pub run_keeps : (m : Machine) → P m → Ends (run_of q m)
  run_keeps m h = rw (run_is q m) (chosen Ends (eqb (run_refusal m q) 0) (from_keeps q.wanted (begun m 0) h) h)

-- a fit processor stays fit
pub run_fit : (q : Request) (n : ℕ) (o : Outcome) → Fit o.machine.processor → Fit (run_from q n o).machine.processor
run_fit q = from_keeps (λ m. Fit m.processor) step_fit q

-- and so does a fit timer
pub run_timer_fits : (q : Request) (n : ℕ) (o : Outcome) → o.machine.timer.control ≤ 3 → (run_from q n o).machine.timer.control ≤ 3
run_timer_fits q = from_keeps (λ m. m.timer.control ≤ 3) step_timer_fits q

-- a machine of the code's types stays one
pub run_representable : (q : Request) (n : ℕ) (o : Outcome) → Representable o.machine → Representable (run_from q n o).machine
run_representable q = from_keeps Representable step_representable q

pub call_representable : (q : Request) (m : Machine) → Representable m → Representable (run_of q m).machine
call_representable q = run_keeps Representable step_representable q
