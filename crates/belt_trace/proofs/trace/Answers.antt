-- `belt_trace::trace` meets its contract, by the laws of Lines.
use native.Mathlib.Omega.{arith}
use mathlib.Core.Path.{◌∙◌}
use Rattle.belt_step.proofs.LineLaws.{machine_of_step}
use Rattle.belt_text.proofs.TextLaws.{no_room, room}
use Rattle.belt_trace.proofs.Lines.{started, more, four, text_length}
use Rattle.belt_trace.specs.Trace.{belt_text}
use Rattle.belt_trace.proofs.trace.Goals as goal

pub returns-then-text-lt56 : goal.returns-then-text-lt56
returns-then-text-lt56 c =
    let (count, text) = no_room 56 (belt_text c.args.rom.now) c.args.text.now (text_length _) c.if-text-lt56.true in
    record { count = count; text = text }

pub loop-line-init : goal.loop-line-init
loop-line-init c = started _ _ c.reset-state.ensures

pub loop-line-preserved : goal.loop-line-preserved
loop-line-preserved c =
    let kept = c.advance.auto in
    more c.loop-line.invariant c.if-text-lt56.false c.loop-line-test.true (machine_of_step _ c.advance.ensures.state) c.advance.ensures.text
    kept.text kept.ram kept.belt

pub returns : goal.returns
returns c =
    let (count, text) = room 56 (belt_text c.args.rom.now) c.args.text.now (text_length _) c.if-text-lt56.false in
    let end = c.loop-line-test.false in
    let most = c.loop-line.auto.line-end in
    record { count = count; text = four c.loop-line.invariant (omega arith) ∙ text }
