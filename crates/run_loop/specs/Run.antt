-- The two kinds of run (document 01, "Runs and views" and "Refused calls"; document 02, jobs 2 and 3): the steps that a run makes, and its answer
-- counted from them.
use Rattle.std.specs.Prelude.{Bool, cond, List, [], ◌∷◌, ℕ, zero, suc, ◌+◌, ltb, eqb}
use Rattle.words.specs.Logic.{both}
use Rattle.tlb.specs.Lookup.{no_slot, replacement_after}
use Rattle.processor.specs.declared.Processor.{Processor}
use Rattle.processor.specs.State.{with_replacement}
use Rattle.machine.specs.Machine.{Machine}
use Rattle.words.specs.Identifiers.{no_exception}
use Rattle.step.specs.Step.{Stepped, step_of}
use Rattle.charges.specs.Charges.{charge_of}
use Rattle.refusals.specs.Request.{Request}
use Rattle.refusals.specs.Refusal.{run_refusal}

-- ---- what it answers

-- the refusal or 0, the steps made, the exception that ended the run, or `no_exception`, the slot of the last step, or `no_slot` where none was made, and
-- the charge of all steps
pub record Answer : Type 0 where
  pub refusal : ℕ
  pub steps : ℕ
  pub eid : ℕ
  pub slot : ℕ
  pub charge : ℕ

abbrev pub answer : ℕ → ℕ → ℕ → ℕ → ℕ → Answer
answer refusal steps eid slot charge = record { refusal = refusal; steps = steps; eid = eid; slot = slot; charge = charge }

-- the machine after a run, and its answer
pub record Outcome : Type 0 where
  pub machine : Machine
  pub answer : Answer

abbrev pub outcome : Machine → ℕ → ℕ → ℕ → ℕ → ℕ → Outcome
outcome m refusal steps eid slot charge = record { machine = m; answer = answer refusal steps eid slot charge }

-- ---- its steps

-- whether a step with this EID, or `no_exception`, is the last of a run of this kind
unfoldable pub ends : Bool → ℕ → Bool
ends kind eid = both kind (ltb eid no_exception)

-- n steps at most from a machine on
unfoldable pub steps_from : Request → ℕ → Machine → List Stepped
steps_from q zero m = []
steps_from q (suc n) m =
    step_of m q.lines
    ∷ cond (ends q.kind (step_of m q.lines).event.eid) [] (steps_from q n (step_of m q.lines).machine)

-- a refused run makes none
unfoldable pub steps_of : Request → Machine → List Stepped
steps_of q m = cond (eqb (run_refusal m q) 0) (steps_from q q.wanted m) []

-- ---- the run

-- the outcome with one more step
abbrev pub counted : Request → Outcome → Stepped → Outcome
counted q o s =
    outcome s.machine o.answer.refusal (suc o.answer.steps) (cond (ends q.kind s.event.eid) s.event.eid no_exception)
    s.event.slot (o.answer.charge + charge_of q.charging s.event.opcode)

unfoldable pub counted_all : Request → Outcome → List Stepped → Outcome
counted_all q o [] = o
counted_all q o (s ∷ ss) = counted_all q (counted q o s) ss

-- what a run answers before any step, by its refusal or 0; for a refused one there are no others
abbrev pub begun : Machine → ℕ → Outcome
begun m refusal = outcome m refusal 0 no_exception no_slot 0

unfoldable pub run_of : Request → Machine → Outcome
run_of q m = counted_all q (begun m (run_refusal m q)) (steps_of q m)

-- ---- as the loop makes it

-- a processor with the replacement index that so many steps make of a first one; the loop's own keeps an old one
abbrev pub indexed : ℕ → ℕ → Processor → Processor
indexed first made p = with_replacement p (replacement_after made first)

-- n more steps at most, after those of an outcome
unfoldable pub run_from : Request → ℕ → Outcome → Outcome
run_from q n o = counted_all q o (steps_from q n o.machine)

-- ---- the machine after n steps, to which the laws of a run compare it

unfoldable pub state_after : ℕ → Machine → ℕ → Machine
state_after zero m lines = m
state_after (suc n) m lines = state_after n (step_of m lines).machine lines
