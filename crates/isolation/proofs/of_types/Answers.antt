-- `isolation::of_types` meets its contract: each part is a value of its type.
use Rattle.machine.proofs.Representing.{representable}
use Rattle.isolation.proofs.of_types.Goals as goal

pub returns : goal.returns
returns c =
    let (pc, psw, index, high) = c.numbers.ensures in
    let (low, bad, replacement, none) = c.numbers-2.ensures in
    let (divisor, counter, control, none) = c.numbers-3.ensures in
    representable c.words.ensures pc psw index high low bad c.words-2.ensures c.words-3.ensures replacement
    (record { divisor = divisor; counter = counter; control = control }) c.bytes.ensures c.bytes-2.ensures c.bytes-3.ensures
