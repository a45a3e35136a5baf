-- `record::read_machine` meets its contract, by the cases of MachineRead.
use Rattle.record.proofs.MachineRead.{machine_wrong_length, machine_read}
use Rattle.record.proofs.read_machine.Goals as goal

pub returns-then-bytes-ne-LENGTH : goal.returns-then-bytes-ne-LENGTH
returns-then-bytes-ne-LENGTH c =
    let answer = machine_wrong_length c.args.bytes.now c.if-bytes-ne-LENGTH.true in
    record { refusal = answer.0; processor = answer.1; timer = answer.2 }

pub returns : goal.returns
returns c =
    let read = c.read.ensures in
    let answer = machine_read c.args.bytes.now c.if-bytes-ne-LENGTH.false read.refusal read.processor read.timer in
    record { refusal = answer.0; processor = answer.1; timer = answer.2 }
