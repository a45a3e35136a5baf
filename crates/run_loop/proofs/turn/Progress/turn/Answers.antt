-- `run_loop::turn::Progress::turn` meets its contract, by the laws of Doing.
use mathlib.Core.Path.{refl, ap, ◌∙◌}
use Rattle.processor.specs.Register.{jumped}
use Rattle.timer.specs.Timer.{ticked}
use Rattle.instructions.specs.Action.{System}
use Rattle.instructions.specs.Code.{action_of}
use Rattle.actions.specs.Actions.{processor_after}
use Rattle.step.proofs.Looks.{joined}
use Rattle.run_loop.proofs.Doing.{writes, jumps, enters, leaves, write_found, jump_found, enter_found, turned, turned_within, other_is_system}
use Rattle.run_loop.proofs.turn.Progress.turn.Goals as goal

pub returns-in-Write-clause-found : goal.returns-in-Write-clause-found
returns-in-Write-clause-found c = write_found _ _ _ c.follow-self.ensures.index _ _ _ _ c.write.ensures

pub returns-in-Write-clause-event : goal.returns-in-Write-clause-event
returns-in-Write-clause-event c =
    turned _ _ _ refl c.look-looked.ensures.action (ap action_of c.in-Write.is) c.look-looked.ensures.opcode
    (joined (writes _ _ _ _ _ _ _ c.write.ensures) c.tick.ensures refl)

pub returns-in-Write-clause-opcode : goal.returns-in-Write-clause-opcode
returns-in-Write-clause-opcode c = turned_within _ _ _ (returns-in-Write-clause-event c)

pub returns-in-Store-clause-found : goal.returns-in-Store-clause-found
returns-in-Store-clause-found c = jump_found _ _ _ c.follow-self.ensures.index _ _ c.jump.ensures

pub returns-in-Store-clause-event : goal.returns-in-Store-clause-event
returns-in-Store-clause-event c =
    turned _ _ _ refl c.look-looked.ensures.action (ap action_of c.in-Store.is) c.look-looked.ensures.opcode
    (joined (jumps _ _ _ _ _ (c.jump.ensures ∙ ap (jumped _) c.add.ensures))
    (c.tick-in-Store.ensures ∙ ap ticked (c.unwrap_or-self.ensures ∙ c.store-stored.ensures.timer)) c.store-stored.ensures.contents)

pub returns-in-Store-clause-opcode : goal.returns-in-Store-clause-opcode
returns-in-Store-clause-opcode c = turned_within _ _ _ (returns-in-Store-clause-event c)

pub returns-in-Exception-clause-found : goal.returns-in-Exception-clause-found
returns-in-Exception-clause-found c = enter_found _ _ _ c.follow-self.ensures.index _ _ _ c.enter.ensures

pub returns-in-Exception-clause-event : goal.returns-in-Exception-clause-event
returns-in-Exception-clause-event c =
    turned _ _ _ refl c.look-looked.ensures.action (ap action_of c.in-Exception.is) c.look-looked.ensures.opcode
    (joined (enters _ _ _ _ _ _ c.enter.ensures) c.tick.ensures refl)

pub returns-in_default : goal.returns-in_default
returns-in_default c =
    let (i, told) = other_is_system c.look-looked.result.action c.in_default.not-Write c.in_default.not-Store c.in_default.not-Exception in
    let event =
    turned _ _ _ refl c.look-looked.ensures.action told c.look-looked.ensures.opcode
    (joined (leaves _ _ _ _ (System i) c.replacement_after-self.ensures (c.done.ensures ∙ ap (processor_after _) told))
    c.tick.ensures refl) in
    record {
      made = refl;
      found = c.first-self.ensures.1;
      event = event;
      opcode = turned_within _ _ _ event;
    }
