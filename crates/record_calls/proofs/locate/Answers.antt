-- `record_calls::locate` meets its contract, by the laws of ViewLaws.
use mathlib.Core.Path.{◌≡◌, refl, ap, sym, ◌∙◌}
use Rattle.std.proofs.Common.{rules}
use Rattle.std.specs.Prelude.{Err}
use Rattle.refusals.proofs.Numbers.{never_accepted}
use Rattle.page_view.specs.Code.{viewed_as}
use Rattle.record_calls.proofs.ViewLaws.{view_wrong_length, view_refused_record, view_answered}
use Rattle.record_calls.proofs.locate.Goals as goal

pub returns-then-not-ram_accepted : goal.returns-then-not-ram_accepted
returns-then-not-ram_accepted c =
    view_wrong_length _ c.args.machine.now c.args.page (sym c.ram_accepted.ensures ∙ c.if-not-ram_accepted.true)

pub returns-in_err-state : goal.returns-in_err-state
returns-in_err-state c =
    let cause = c.in_err-state.field-0.0 in
    let same : c.from_residual.result ≡ Err cause = search rules in
    ap viewed_as same ∙ view_refused_record _ c.args.machine.now c.args.page (sym c.ram_accepted.ensures ∙ c.if-not-ram_accepted.false)
    c.in_err-state.ensures.refusal (never_accepted cause)

pub returns : goal.returns
returns c =
    let read = c.in_ok-state.ensures in
    c.locate.ensures ∙ view_answered _ c.args.machine.now c.args.page (sym c.ram_accepted.ensures ∙ c.if-not-ram_accepted.false) read.refusal refl read.processor
