-- `arrays::get_words` meets its contract: the words so far, and those that are still to be read, are the words there.
use mathlib.Core.Path.{◌≡◌}
use mathlib.Core.List.{◌++◌}
use Prim.Native.Nat.{◌+◌, ◌*◌, ◌-◌}
use lib.ListN.{length, take}
use Rattle.arrays.specs.Numbers.{words_at}
use Rattle.arrays.proofs.get_words.Given as goal

abbrev pub invariant-loop-i : goal.invariant-loop-i
invariant-loop-i l =
    words_at (length l.initial.words) l.s l.at l.stride
    ≡ take l.i l.words ++ words_at (length l.initial.words - l.i) l.s (l.at + l.i * l.stride) l.stride
