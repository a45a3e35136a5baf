-- `page_view::page_view` meets its contract, by the laws of FrameLaws.
use native.Mathlib.Omega.{arith}
use mathlib.Core.Path.{refl, sym, ◌∙◌}
use Rattle.refusals.proofs.Numbers.{never_accepted}
use Rattle.page_view.proofs.Answers.{the_refusal}
use Rattle.page_view.proofs.FrameLaws.{lies_in_ram, frame_part, no_part}
use Rattle.page_view.proofs.page_view.Goals as goal

pub overflow_add-end : goal.overflow_add-end
overflow_add-end c = omega (arith, lies_in_ram c.args.ram.now c.args.p c.args.page c.in-Ok.ensures refl)

pub slice_bounds-result-end : goal.slice_bounds-result-end
slice_bounds-result-end c = omega (arith, lies_in_ram c.args.ram.now c.args.p c.args.page c.in-Ok.ensures refl)

pub returns-in-Ok-clause-refusal : goal.returns-in-Ok-clause-refusal
returns-in-Ok-clause-refusal c = the_refusal _ _ _ c.in-Ok.ensures

pub returns-in-Ok-clause-part : goal.returns-in-Ok-clause-part
returns-in-Ok-clause-part c = frame_part c.args.ram.now c.args.p c.args.page c.in-Ok.ensures refl

pub returns-in-Err-clause-refusal : goal.returns-in-Err-clause-refusal
returns-in-Err-clause-refusal c = the_refusal _ _ _ c.in-Err.ensures

pub returns-in-Err-clause-part : goal.returns-in-Err-clause-part
returns-in-Err-clause-part c =
    let args = c.args in
    sym (no_part args.ram.now args.p args.page (λ e. never_accepted c.in-Err.refusal (the_refusal args.ram.now args.p args.page c.in-Err.ensures ∙ e)))
