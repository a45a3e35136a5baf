-- `belt_text::short_input` meets its contract, by the laws of TextLaws.
use mathlib.Core.Path.{refl, ◌∙◌}
use Rattle.belt_text.specs.Text.{short_input}
use Rattle.belt_text.proofs.TextLaws.{no_room, room}
use Rattle.belt_text.proofs.short_input.Goals as goal

pub returns-then-text-lt12 : goal.returns-then-text-lt12
unfolding short_input
returns-then-text-lt12 c =
    let (count, text) = no_room 12 short_input c.args.text.now refl c.if-text-lt12.true in
    record { count = count; text = text }

pub returns : goal.returns
unfolding short_input
returns c =
    let (count, text) = room 12 short_input c.args.text.now refl c.if-text-lt12.false in
    record { count = count; text = c.put.ensures ∙ text }
