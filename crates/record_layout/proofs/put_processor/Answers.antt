-- `record_layout::put_processor` meets its contract, by the law of the eleven writes.
use native.Mathlib.Omega.{arith}
use Rattle.record_layout.proofs.Written.{Arrays, all_written}
use Rattle.record_layout.proofs.put_processor.Goals as goal

pub returns : goal.returns
returns c =
    let start = c.args in
    let arrays : Arrays start.p = record {
      registers = omega arith;
      highs = omega arith;
      lows = omega arith;
    } in
    all_written start.p arrays c.requires.1 start.s.now c.requires.0 c.write.ensures c.put_words.ensures
    c.write-2.ensures c.write-3.ensures c.write-4.ensures c.put_words-2.ensures
    c.write-5.ensures c.put_words-3.ensures c.put_words-4.ensures c.write-6.ensures
    c.write-7.ensures
