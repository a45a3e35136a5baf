-- `replay::part` meets its contract, by the laws of CommandLaws.
use Rattle.replay.specs.Replay.{replay_in}
use Rattle.replay.proofs.CommandLaws.{Going}
use Rattle.replay.proofs.part.Given as goal

abbrev pub invariant-loop-i : goal.invariant-loop-i
invariant-loop-i l =
    let began = l.initial in
    Going l.s
    (replay_in began.progress began.xrecord began.xram began.xrom began.xbelt began.ram began.rom began.belt began.opcodes began.exceptions)
    (replay_in l.progress l.xrecord l.xram l.xrom l.xbelt l.ram l.rom l.belt l.opcodes l.exceptions) l.i
