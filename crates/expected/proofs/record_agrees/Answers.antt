-- `expected::record_agrees` meets its contract, by the law of RecordCompared.
use mathlib.Core.Path.{refl}
use Rattle.expected.proofs.RecordCompared.{record_compared}
use Rattle.expected.proofs.record_agrees.Goals as goal

pub returns : goal.returns
returns c =
    let write = c.write-answer in
    rw (c.same.ensures, c.is_ok.ensures.value, write.ensures.buffer) (record_compared _ _ _ _ write.result refl write.ensures.refusal)
