-- `replay::model::step` meets its contract, by the laws of StepLaws.
use mathlib.Core.Path.{ap, ◌∙◌}
use Rattle.replay.proofs.StepLaws.{step_compared, step_counted}
use Rattle.step.specs.Step.{Stepped}
use Rattle.replay.proofs.model.step.Goals as goal

pub returns : goal.returns
returns c =
    let state = ap (λ (s : Stepped). s.machine) c.step-stepped.ensures in
    let eid = ap (λ (s : Stepped). s.event.eid) c.step-stepped.ensures in
    let slot = ap (λ (s : Stepped). s.event.slot) c.step-stepped.ensures in
    record {
      state = state;
      counts = rw (c.judge.ensures, c.agrees-agrees.ensures, c.make_step.ensures, step_compared _ _ state eid _ _ slot);
      tallies = c.count_step.ensures ∙ step_counted _ _ state eid _ c.opcode_at-opcode.ensures;
    }
