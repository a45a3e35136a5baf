-- The replacement index of a run follows the steps that it makes, and nothing else (document 02, job 4).
use mathlib.Core.Path.{◌≡◌, refl, ap, ◌∙◌}
use Prim.Native.Nat.{ℕ, zero, suc, ◌+◌, ◌-◌, ◌%◌}
use lib.Dec.{eqb}
use Rattle.words.proofs.Cases.{chosen}
use Rattle.tlb.specs.Lookup.{next_replacement, replacement_after}
use Rattle.tlb.proofs.Replacement.{goes_round}
use Rattle.processor.proofs.FitLaws.{Fit}
use Rattle.machine.specs.Machine.{Machine}
use Rattle.step.specs.Step.{step_of}
use Rattle.step.proofs.IndexLaws.{step_moves}
use Rattle.refusals.specs.Refusal.{run_refusal}
use Rattle.refusals.specs.Request.{Request}
use Rattle.run_loop.specs.Run.{Outcome, begun, ends, run_from, run_of, steps_from, counted_all}
use Rattle.run_loop.proofs.Loop.{onward, first_step, run_is}

module _ (q : Request) where
  -- the index of the machine that a run leaves, by the index r of the one that it began with
  abbrev Moved : ℕ → Outcome → Type 0
  Moved r o = o.machine.processor.replacement ≡ replacement_after o.answer.steps r

  from_moves : (r n : ℕ) (o : Outcome) → Moved r o → Moved r (run_from q n o)
  unfolding run_from steps_from counted_all replacement_after
  from_moves r zero o e = e
  from_moves r (suc n) o e =
      let next : Moved r (onward q o) = step_moves o.machine q.lines ∙ ap next_replacement e in
      rw (first_step q n o) (chosen (Moved r) (ends q.kind (step_of o.machine q.lines).event.eid) next (from_moves r n (onward q o) next))

  -- of every run, a refused one too, which makes no step
  pub run_moves : (m : Machine) → Moved m.processor.replacement (run_of q m)
  unfolding replacement_after
  run_moves m =
      let none : Moved m.processor.replacement (begun m (run_refusal m q)) = refl in
      rw (run_is q m)
      (chosen (Moved m.processor.replacement) (eqb (run_refusal m q) 0) (from_moves m.processor.replacement q.wanted (begun m 0) refl) none)

  -- from a fit machine it goes round in 4..31
  pub run_index : (m : Machine) → Fit m.processor
      → (run_of q m).machine.processor.replacement ≡ 4 + (m.processor.replacement - 4 + (run_of q m).answer.steps) % 28
  run_index m f = run_moves m ∙ goes_round (run_of q m).answer.steps m.processor.replacement f.from f.upto
