-- `page_view::locate` meets its contract, by the laws of Answers: one for each way to the answer.
use mathlib.Core.Path.{sym, ◌∙◌}
use Rattle.page_view.specs.View.{looked_up}
use Rattle.page_view.proofs.Answers.{refused_1, refused_6, refused_8, accepted, no_such_page, no_address, address, not_in_ram, in_ram_lem}
use Rattle.page_view.proofs.locate.Goals as goal

pub returns-then-not-ram_accepted : goal.returns-then-not-ram_accepted
returns-then-not-ram_accepted c = refused_1 _ _ _ (sym c.ram_accepted.ensures ∙ c.if-not-ram_accepted.true)

pub returns-then-not-is_fit : goal.returns-then-not-is_fit
returns-then-not-is_fit c =
    refused_6 _ _ _ (sym c.ram_accepted.ensures ∙ c.if-not-ram_accepted.false) (sym c.is_fit.ensures ∙ c.if-not-is_fit.true)

pub returns-then-page-gt1048575 : goal.returns-then-page-gt1048575
returns-then-page-gt1048575 c =
    refused_8 _ _ _ (sym c.ram_accepted.ensures ∙ c.if-not-ram_accepted.false)
    (sym c.is_fit.ensures ∙ c.if-not-is_fit.false) (no_such_page _ _ _ c.if-page-gt1048575.true)

pub returns-in_default : goal.returns-in_default
unfolding looked_up
returns-in_default c =
    refused_8 _ _ _ (sym c.ram_accepted.ensures ∙ c.if-not-ram_accepted.false) (sym c.is_fit.ensures ∙ c.if-not-is_fit.false)
    (no_address _ _ _ c.translate-found.result (sym c.translate-found.ensures) c.in_default.not-Ok)

pub returns-then-ram-physical : goal.returns-then-ram-physical
unfolding looked_up
returns-then-ram-physical c =
    let args = c.args in
    let found = address args.p args.page c.translate-found.result (sym c.translate-found.ensures) _ c.in-Ok.is in
    refused_8 _ _ _ (sym c.ram_accepted.ensures ∙ c.if-not-ram_accepted.false) (sym c.is_fit.ensures ∙ c.if-not-is_fit.false)
    (not_in_ram _ _ _ _ _ found c.if-ram-physical.true)

pub returns : goal.returns
unfolding looked_up
returns c =
    let args = c.args in
    let found = address args.p args.page c.translate-found.result (sym c.translate-found.ensures) _ c.in-Ok.is in
    accepted args.ram.now args.p args.page (sym c.ram_accepted.ensures ∙ c.if-not-ram_accepted.false)
    (sym c.is_fit.ensures ∙ c.if-not-is_fit.false) _ _ found
    (in_ram_lem _ _ _ _ _ c.if-page-gt1048575.false found c.if-ram-physical.false)
