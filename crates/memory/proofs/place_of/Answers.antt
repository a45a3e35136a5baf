-- `memory::place_of` meets its contract, by the laws of Places.
use mathlib.Core.Path.{sym, ◌∙◌}
use Rattle.memory.proofs.Places.{within_true, locate_ram, locate_rom, locate_belt, place_by, word_belt, narrow_belt}
use Rattle.memory.proofs.Places.{at_register, narrow_register, control_register, divisor_register, no_register}
use Rattle.memory.proofs.place_of.Goals as goal

pub returns-then-within : goal.returns-then-within
returns-then-within c = sym (place_by _ _ _ _ _ (locate_ram _ _ _ _ _ (sym c.within.ensures ∙ c.if-within.true)))

pub overflow_sub-result : goal.overflow_sub-result
overflow_sub-result c =
    let args = c.args in
    (within_true _ args.rom args.width args.address (sym c.within-2.ensures ∙ c.if-within-2.true)).0

pub returns-then-within-2 : goal.returns-then-within-2
returns-then-within-2 c =
    sym (place_by _ _ _ _ _ (locate_rom _ _ _ _ _ (sym c.within.ensures ∙ c.if-within.false) (sym c.within-2.ensures ∙ c.if-within-2.true)))

pub overflow_sub-result-then-width-eq4 : goal.overflow_sub-result-then-width-eq4
overflow_sub-result-then-width-eq4 c =
    let args = c.args in
    (within_true _ args.belt args.width args.address (sym c.within-3.ensures ∙ c.if-within-3.true)).0

pub returns-then-width-eq4 : goal.returns-then-width-eq4
returns-then-width-eq4 c =
    sym (place_by _ _ _ _ _ (locate_belt _ _ _ _ _ (sym c.within.ensures ∙ c.if-within.false)
    (sym c.within-2.ensures ∙ c.if-within-2.false) (sym c.within-3.ensures ∙ c.if-within-3.true)) ∙ word_belt _ _ c.if-width-eq4.true)

pub returns-then-within-3 : goal.returns-then-within-3
returns-then-within-3 c =
    sym (place_by _ _ _ _ _ (locate_belt _ _ _ _ _ (sym c.within.ensures ∙ c.if-within.false)
    (sym c.within-2.ensures ∙ c.if-within-2.false) (sym c.within-3.ensures ∙ c.if-within-3.true)) ∙ narrow_belt _ _ c.if-width-eq4.false)

pub returns-then-width-ne4 : goal.returns-then-width-ne4
returns-then-width-ne4 c =
    at_register _ _ _ _ _ c.within.ensures c.if-within.false c.within-2.ensures c.if-within-2.false
    c.within-3.ensures c.if-within-3.false (narrow_register _ _ c.if-width-ne4.true)

pub returns-then-address-eq-TIMER_CONTROL : goal.returns-then-address-eq-TIMER_CONTROL
returns-then-address-eq-TIMER_CONTROL c =
    at_register _ _ _ _ _ c.within.ensures c.if-within.false c.within-2.ensures c.if-within-2.false
    c.within-3.ensures c.if-within-3.false (control_register _ _ c.if-width-ne4.false c.if-address-eq-TIMER_CONTROL.true)

pub returns-then-address-eq-TIMER_DIVISOR : goal.returns-then-address-eq-TIMER_DIVISOR
returns-then-address-eq-TIMER_DIVISOR c =
    at_register _ _ _ _ _ c.within.ensures c.if-within.false c.within-2.ensures c.if-within-2.false
    c.within-3.ensures c.if-within-3.false (divisor_register _ _ c.if-width-ne4.false c.if-address-eq-TIMER_CONTROL.false c.if-address-eq-TIMER_DIVISOR.true)

pub returns : goal.returns
returns c =
    at_register _ _ _ _ _ c.within.ensures c.if-within.false c.within-2.ensures c.if-within-2.false
    c.within-3.ensures c.if-within-3.false (no_register _ _ c.if-width-ne4.false c.if-address-eq-TIMER_CONTROL.false c.if-address-eq-TIMER_DIVISOR.false)
