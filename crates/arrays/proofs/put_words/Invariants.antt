-- `arrays::put_words` meets its contract: the words that are still to be written would make the whole list.
use mathlib.Core.Path.{◌≡◌}
use Prim.Native.Nat.{◌+◌, ◌*◌}
use lib.ListN.{drop}
use Rattle.arrays.specs.Numbers.{words_put}
use Rattle.arrays.proofs.put_words.Given as goal

abbrev pub invariant-loop-i : goal.invariant-loop-i
invariant-loop-i l =
    words_put l.initial.s l.at l.stride l.words ≡ words_put l.s (l.at + l.i * l.stride) l.stride (drop l.i l.words)
