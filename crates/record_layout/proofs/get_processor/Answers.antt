-- `record_layout::get_processor` meets its contract, field by field.
use Rattle.record_layout.proofs.Fields.{fields_read}
use Rattle.record_layout.proofs.get_processor.Goals as goal

pub returns : goal.returns
returns c =
    let args = c.args in
    fields_read args.s.now c.get_words.ensures c.get_words-2.ensures c.get_words-3.ensures
    c.read.ensures c.read-2.ensures c.read-3.ensures c.read-4.ensures
    c.read-5.ensures c.read-6.ensures c.read-7.ensures
