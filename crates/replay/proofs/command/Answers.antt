-- `replay::command` meets its contract, by the laws of CommandLaws.
use native.Mathlib.Omega.{arith}
use Rattle.replay.proofs.CommandLaws.{after_end, command_clear, command_start, command_step, command_end, command_patch}
use Rattle.replay.proofs.command.Goals as goal

pub returns-then-progress : goal.returns-then-progress
returns-then-progress c = after_end _ _ _ _ _ _ _ c.if-progress.true c.judge.ensures

pub returns-in-0 : goal.returns-in-0
returns-in-0 c = command_clear _ _ _ _ _ _ _ c.if-progress.false c.in-0.is c.clear.ensures c.begin_case.ensures

pub returns-in-6 : goal.returns-in-6
returns-in-6 c = command_start _ _ _ _ _ _ _ c.if-progress.false c.in-6.is c.start.ensures.state c.start.ensures.counts

pub returns-in-7 : goal.returns-in-7
returns-in-7 c =
    command_step _ _ _ _ _ _ _ c.if-progress.false c.in-7.is c.step.ensures.state c.step.ensures.counts c.step.ensures.tallies

pub returns-in-8 : goal.returns-in-8
returns-in-8 c = command_end _ _ _ _ _ _ _ c.if-progress.false c.in-8.is (rw (c.judge-in-8.ensures, c.read_end.ensures))

pub returns-in_default : goal.returns-in_default
returns-in_default c =
    command_patch _ _ _ _ _ _ _ c.if-progress.false (λ e. omega (arith, e)) (λ e. omega (arith, e)) (λ e. omega (arith, e)) (λ e. omega (arith, e))
    c.patch-fits.ensures.bytes (rw (c.judge-in_default.ensures, c.patch-fits.ensures.fits))
