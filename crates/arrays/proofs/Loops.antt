-- The loops over words, for any number of words and any stride: a turn more, and the end.
use mathlib.Core.Path.{◌≡◌, ap, sym, ◌∙◌}
use mathlib.Core.List.{List, ◌++◌, append-nil}
use Prim.Native.Nat.{ℕ, suc, ◌+◌, ◌*◌, ◌-◌, ◌≤◌, ◌<◌}
use native.Mathlib.Nat.{suc-mul, mul-le-mul_right}
use native.Mathlib.Numerals.{add-one}
use native.Mathlib.Omega.{arith}
use lib.ListN.{length, get_or, set, take, drop, drop_of_length-le}
use lib.Seq.{take_all, drop-cons, take-suc-set, append_snoc}
use Rattle.words.proofs.Counts.{left}
use Rattle.endian.specs.BigEndian.{read_at, write_at}
use Rattle.arrays.specs.Numbers.{words_at, words_put}

-- each of n places lies in the slice, where the last does
pub in_slice : (n stride at i size : ℕ) → at + n * stride + 4 ≤ size + stride → i < n → at + i * stride + 4 ≤ size
in_slice n stride at i size h k =
    let next : suc i * stride ≡ i * stride + stride = suc-mul i stride in
    let upto : suc i * stride ≤ n * stride = mul-le-mul_right stride k in
    omega arith

-- the next place
next_place : (at stride i : ℕ) → at + i * stride + stride ≡ at + (i + 1) * stride
next_place at stride i = rw (add-one i) (let next : suc i * stride ≡ i * stride + stride = suc-mul i stride in omega arith)

module _ (s : List ℕ) (at stride n i : ℕ) (words : List ℕ) (e : length words ≡ n) where
  pub get_more : i < n
      → take i words ++ words_at (n - i) s (at + i * stride) stride
      ≡ take (i + 1) (set words i (read_at 4 s (at + i * stride))) ++ words_at (n - (i + 1)) s (at + (i + 1) * stride) stride
  unfolding words_at
  get_more h =
      let inside : i < length words = omega arith in
      rw (left n i h, next_place at stride i, add-one i, take-suc-set words i (read_at 4 s (at + i * stride)) inside)
      (sym (append_snoc (take i words) (read_at 4 s (at + i * stride)) (words_at (n - suc i) s (at + suc i * stride) stride)))

  pub get_end : n ≤ i → take i words ++ words_at (n - i) s (at + i * stride) stride ≡ words
  unfolding words_at
  get_end h =
      let none : n - i ≡ 0 = omega arith in
      let all : length words ≤ i = omega arith in
      rw (none, append-nil) (take_all i words all)

module _ (s : List ℕ) (at stride i : ℕ) (words : List ℕ) where
  pub put_more : i < length words
      → words_put s (at + i * stride) stride (drop i words)
      ≡ words_put (write_at 4 s (at + i * stride) (get_or words i 0)) (at + (i + 1) * stride) stride (drop (i + 1) words)
  unfolding words_put
  put_more h =
      let t : List ℕ = write_at 4 s (at + i * stride) (get_or words i 0) in
      ap (words_put s (at + i * stride) stride) (drop-cons words i 0 h)
      ∙ ap (λ (place : ℕ). words_put t place stride (drop (suc i) words)) (next_place at stride i)
      ∙ ap (λ (k : ℕ). words_put t (at + (i + 1) * stride) stride (drop k words)) (sym (add-one i))

  pub put_end : length words ≤ i → words_put s (at + i * stride) stride (drop i words) ≡ s
  unfolding words_put
  put_end h = rw (drop_of_length-le words h)
