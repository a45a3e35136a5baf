-- The bytes of one read after another stand one behind the other.
use Rattle.std.proofs.Common.{◌≡◌, ℕ, ◌+◌, ◌≤◌, List, ◌++◌, length, take, sym, ap, ◌∙◌, subst, length-take-le}
use Rattle.std.specs.declared.option.Option.{Option}
use Rattle.std.specs.Io.KnownBytes.{Consumes}
use Rattle.std.proofs.KnownBytes.{Consumes-trans}
use borrow.Rule.Slice.PartMut.{put_mid, post_of}
use lib.Seq.{take-append-add, take-append-le}

-- the buffer after a read into what is behind its first `at` bytes
pub joined : (at room n : ℕ) (buf part : List ℕ) → at ≤ length buf → n ≤ length part
    → take (at + n) (put_mid at room buf part) ≡ take at buf ++ take n part
joined at room n buf part within fits =
    let behind = part ++ post_of at room buf in
    ap (λ k. take (k + n) (take at buf ++ behind)) (sym (length-take-le at buf within)) ∙ take-append-add (take at buf) behind n
    ∙ ap (λ l. take at buf ++ l) (take-append-le n part (post_of at room buf) fits)

pub read_more : (a b c : Option (List ℕ)) (at room n : ℕ) (buf part : List ℕ) → at ≤ length buf → n ≤ length part
    → Consumes a b (take at buf) → Consumes b c (take n part) → Consumes a c (take (at + n) (put_mid at room buf part))
read_more a b c at room n buf part within fits before now =
    subst (Consumes a c) (sym (joined at room n buf part within fits)) (Consumes-trans a b c _ _ before now)
