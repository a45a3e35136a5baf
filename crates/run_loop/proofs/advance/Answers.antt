-- `run_loop::advance` meets its contract, by the laws of Going.
use mathlib.Core.Path.{ap, sym, ◌∙◌}
use native.Mathlib.Omega.{arith}
use Rattle.machine.specs.Machine.{machine_of}
use Rattle.machine.specs.declared.State.{State}
use Rattle.run_loop.proofs.Going.{started, again, stops, ended}
use Rattle.run_loop.proofs.advance.Goals as goal
use Rattle.run_loop.proofs.advance.Goals.{else-loop-progress-test, then-loop-progress-test+then-ends}

pub loop-progress-init : goal.loop-progress-init
loop-progress-init c =
    let begin = c.begin-progress.ensures in
    (begin.found, started _ _ (ap (λ (s : State). machine_of s c.args.ram.now c.args.rom.now c.args.belt.now) begin.came) begin.made)

pub turn-event-requires : goal.turn-event-requires
turn-event-requires c = (c.loop-progress.invariant.0, omega (arith, c.loop-progress-test.true, c.requires.1))

pub added-charge-requires : goal.added-charge-requires
added-charge-requires c =
    (c.requires.0, c.turn-event.ensures.opcode, omega (arith, c.loop-progress.invariant.1.within, c.loop-progress-test.true, c.requires.1))

pub loop-progress-smaller : goal.loop-progress-smaller
loop-progress-smaller c = omega (arith, c.turn-event.ensures.made, c.loop-progress-test.true)

pub loop-progress-preserved : goal.loop-progress-preserved
loop-progress-preserved c =
    let turn = c.turn-event.ensures in (
      turn.found,
      again c.loop-progress.invariant.1 c.loop-progress-test.true turn.event c.added-charge.ensures turn.made (sym c.ends.ensures ∙ c.if-ends.false),
    )

pub returns : goal.returns
returns c =
    rw c.finish.ensures
    (elim c.loop-progress-test.branch [
      | else-loop-progress-test w ↦
          rw (w.progress-is, w.ram-is, w.belt-is, w.eid-is, w.slot-is, w.charge-is) (ended c.loop-progress.invariant.1 w.loop-progress-test.false)
      | then-loop-progress-test+then-ends w ↦
          let turn = w.turn-event.ensures in
          rw (w.progress-is, w.ram-is, w.belt-is, w.eid-is, w.slot-is, w.charge-is)
          (stops c.loop-progress.invariant.1 w.loop-progress-test.true turn.event w.added-charge.ensures turn.made (sym w.ends.ensures ∙ w.if-ends.true))
    ])
