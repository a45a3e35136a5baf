-- `belt_text::line` meets its contract, by what its digits are.
use Rattle.belt_text.specs.Line.{hex_word, line_of}
use Rattle.belt_text.proofs.LineLaws.{eid_parts}
use Rattle.belt_text.proofs.line.Goals as goal

pub returns : goal.returns
unfolding line_of hex_word
returns c = rw eid_parts (cc)
