-- How many bytes were read, and how many are written by that.
use mathlib.Core.Path.{◌≡◌, refl, ap, sym, ◌∙◌}
use mathlib.Core.Bool.{Bool, true, false, cond}
use mathlib.Core.List.{List}
use Prim.Native.Nat.{ℕ}
use native.Mathlib.Omega.{arith}
use lib.Dec.{ltb}
use lib.ListN.{length, take}
use borrow.Author.Tests.{ltb-true, ltb-false}
use Rattle.std.specs.Prelude.{Result, Ok, Err}
use Rattle.std.specs.Result.{result_unwrap_or}
use Rattle.std.specs.Io.{ReadsAtMost}
use Rattle.belt_text.specs.Text.{short_input, count_of}
use Rattle.belt_trace.specs.Trace.{belt_text, answer_of}
use Rattle.belt_trace.proofs.Lines.{text_length, answer_short, answer_full}

-- of a read that fails, none
pub read_or_none : {E : Type 0} (r : Result ℕ E) (buf : List ℕ) (n : ℕ) → ReadsAtMost r buf → n ≡ result_unwrap_or r 0 → length (take n buf) ≡ n
read_or_none (Ok k) buf n h e = rw e (sym h.1)
read_or_none (Err x) buf n h e = rw e

count_short : (text : List ℕ) → length text ≡ 56 → count_of short_input text ≡ 12
unfolding count_of short_input
count_short text e = rw e

count_full : (rom text : List ℕ) → length text ≡ 56 → count_of (belt_text rom) text ≡ 56
unfolding count_of
count_full rom text e = rw (e, text_length rom)

pub bytes_written_lem : (input text : List ℕ) (n r : ℕ) → length text ≡ 56 → length input ≡ n → r ≡ count_of (answer_of input) text
    → r ≡ cond (ltb n 4096) 12 56
bytes_written_lem input text n r e f g = g ∙ go (ltb n 4096) refl
  where
    go : (t : Bool) → ltb n 4096 ≡ t → count_of (answer_of input) text ≡ cond t 12 56
    go true h =
        ap (λ (a : List ℕ). count_of a text) (answer_short input (omega (arith, f, ltb-true n 4096 h))) ∙ count_short text e
    go false h =
        ap (λ (a : List ℕ). count_of a text) (answer_full input (omega (arith, f, ltb-false n 4096 h))) ∙ count_full (take 4096 input) text e
