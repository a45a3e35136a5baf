-- `look::look_at` meets its contract, by the laws of Looks.
use mathlib.Core.Path.{ap, sym, ◌∙◌}
use native.Mathlib.Omega.{arith}
use Rattle.access.specs.Code.{read_of}
use Rattle.look.proofs.Looks.{opcode_reads}
use Rattle.look.proofs.look_at.Goals as goal

pub returns-in-Ok-clause-opcode : goal.returns-in-Ok-clause-opcode
returns-in-Ok-clause-opcode c =
    let due = c.accepted-channel.ensures in
    (opcode_reads _ _ _ _ _ due c.if-channel-lt-NO_EXCEPTION.false (sym c.fetch.ensures ∙ ap read_of c.in-Ok.is), omega arith)

pub returns-in-Err-clause-opcode : goal.returns-in-Err-clause-opcode
returns-in-Err-clause-opcode c =
    let due = c.accepted-channel.ensures in
    (opcode_reads _ _ _ _ _ due c.if-channel-lt-NO_EXCEPTION.false (sym c.fetch.ensures ∙ ap read_of c.in-Err.is), omega arith)
