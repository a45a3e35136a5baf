-- Numbers written one after the other: the bytes before a place are written, and the rest of the list is as it was.
use mathlib.Core.Path.{◌≡◌, refl, ap, ap₂, sym, ◌∙◌}
use mathlib.Core.List.{List, [], ◌∷◌, ◌++◌, append_assoc, append-nil}
use Prim.Native.Nat.{ℕ, zero, suc, ◌+◌, ◌*◌, ◌/◌, ◌%◌, ◌≤◌, ◌<◌}
use native.Mathlib.Nat.{zero-add, add-zero, add-suc, suc-add}
use native.Mathlib.Omega.{arith}
use lib.ListN.{length, set, drop, length-append, length-set}
use lib.Seq.{set_comm, drop-cons, drop-set-lt, drop-set-add, get_or-set_same, lt-length-set}
use Rattle.endian.specs.BigEndian.{write_at}
use Rattle.arrays.specs.Numbers.{bytes_of, word_bytes, pair_bytes, words_put}

-- ---- lengths

pub bytes_length : (w v : ℕ) → length (bytes_of w v) ≡ w
unfolding bytes_of
bytes_length zero v = refl
bytes_length (suc w) v = length-append (bytes_of w (v / 256)) (v % 256 ∷ []) ∙ omega (arith, bytes_length w (v / 256))

pub words_length : (l : List ℕ) → length (word_bytes l) ≡ length l * 4
unfolding word_bytes
words_length [] = refl
words_length (v ∷ l) = length-append (bytes_of 4 v) (word_bytes l) ∙ omega (arith, bytes_length 4 v, words_length l)

pub pairs_length : (highs lows : List ℕ) → length highs ≡ length lows → length (pair_bytes highs lows) ≡ length highs * 8
unfolding pair_bytes
pairs_length [] lows e = refl
pairs_length (h ∷ highs) [] e = absurd (omega arith)
pairs_length (h ∷ highs) (l ∷ lows) e =
    let rest = pairs_length highs lows (omega arith) in
    simp (length-append, bytes_length) (omega arith)

-- ---- a write before another changes places with it

set_before : (w : ℕ) (s : List ℕ) (b v j x : ℕ) → b + w ≤ j → write_at w (set s j x) b v ≡ set (write_at w s b v) j x
unfolding write_at
set_before zero s b v j x h = refl
set_before (suc w) s b v j x h =
    ap (λ (t : List ℕ). write_at w t b (v / 256)) (set_comm s j (b + w) x (v % 256) (λ e. omega arith))
    ∙ set_before w (set s (b + w) (v % 256)) b (v / 256) j x (omega arith)

write_before : (w u : ℕ) (s : List ℕ) (b v at x : ℕ) → b + w ≤ at → write_at w (write_at u s at x) b v ≡ write_at u (write_at w s b v) at x
unfolding write_at
write_before w zero s b v at x h = refl
write_before w (suc u) s b v at x h =
    write_before w u (set s (at + u) (x % 256)) b v at (x / 256) h
    ∙ ap (λ (t : List ℕ). write_at u t at (x / 256)) (set_before w s b v (at + u) (x % 256) (omega arith))

-- a number before words of any stride
put_before : (l s : List ℕ) (b v at stride : ℕ) → b + 4 ≤ at → write_at 4 (words_put s at stride l) b v ≡ words_put (write_at 4 s b v) at stride l
unfolding words_put
put_before [] s b v at stride h = refl
put_before (x ∷ l) s b v at stride h =
    put_before l (write_at 4 s at x) b v (at + stride) stride (omega arith)
    ∙ ap (λ (t : List ℕ). words_put t (at + stride) stride l) (write_before 4 4 s b v at x h)

-- ---- the next number, and the next words

-- n bytes are written, and the rest is as it was
pub record Done (n : ℕ) (a s t : List ℕ) : Type 0 where
  pub count : length a ≡ n
  pub bytes : t ≡ a ++ drop n s

set_past : (a r : List ℕ) (i x : ℕ) → set (a ++ r) (length a + i) x ≡ a ++ set r i x
set_past [] r i x = rw (zero-add i)
set_past (y ∷ a) r i x = rw (suc-add (length a) i) (ap (λ (l : List ℕ). y ∷ l) (set_past a r i x))

set_rest : (a s : List ℕ) (n i x : ℕ) → length a ≡ n → set (a ++ drop n s) (n + i) x ≡ a ++ drop n (set s (n + i) x)
set_rest a s n i x e =
    ap (λ (k : ℕ). set (a ++ drop n s) (k + i) x) (sym e)
    ∙ set_past a (drop n s) i x
    ∙ ap (λ (l : List ℕ). a ++ l) (sym (drop-set-add n s i x))

drop_set_here : (s : List ℕ) (j x : ℕ) → j < length s → drop j (set s j x) ≡ x ∷ drop (suc j) s
drop_set_here s j x h =
    drop-cons (set s j x) j 0 (lt-length-set s j x h)
    ∙ ap₂ ◌∷◌ (get_or-set_same s j x 0 h) (drop-set-lt (suc j) s j x (omega arith))

write_next : (w : ℕ) (a s : List ℕ) (n v : ℕ) → length a ≡ n → n + w ≤ length s
    → write_at w (a ++ drop n s) n v ≡ (a ++ bytes_of w v) ++ drop (n + w) s
unfolding write_at bytes_of
write_next zero a s n v e h = rw (add-zero n, append-nil)
write_next (suc w) a s n v e h =
    let x : ℕ = v % 256 in
    let t : List ℕ = set s (n + w) x in
    let room : n + w ≤ length t = omega (arith, length-set s (n + w) x) in
    ap (λ (u : List ℕ). write_at w u n (v / 256)) (set_rest a s n w x e)
    ∙ write_next w a t n (v / 256) e room
    ∙ ap (λ (u : List ℕ). (a ++ bytes_of w (v / 256)) ++ u) (drop_set_here s (n + w) x (omega arith))
    ∙ rw (add-suc n w) (simp append_assoc)

-- the next words, 4 bytes apart
words_next : (l a s : List ℕ) (n : ℕ) → length a ≡ n → n + length l * 4 ≤ length s
    → words_put (a ++ drop n s) n 4 l ≡ (a ++ word_bytes l) ++ drop (n + length l * 4) s
unfolding words_put word_bytes
words_next [] a s n e h = rw (add-zero n, append-nil)
words_next (v ∷ l) a s n e h =
    let longer : length (a ++ bytes_of 4 v) ≡ n + 4 = length-append a (bytes_of 4 v) ∙ ap₂ ◌+◌ e (bytes_length 4 v) in
    let places : n + 4 + length l * 4 ≡ n + suc (length l) * 4 = omega arith in
    ap (λ (t : List ℕ). words_put t (n + 4) 4 l) (write_next 4 a s n v e (omega arith))
    ∙ words_next l (a ++ bytes_of 4 v) s (n + 4) longer (omega arith)
    ∙ ap₂ ◌++◌ (append_assoc a (bytes_of 4 v) (word_bytes l)) (ap (λ (k : ℕ). drop k s) places)

-- the next pairs: the high words, 8 bytes apart, and then the low words between them
pairs_next : (highs lows a s : List ℕ) (n : ℕ) → length a ≡ n → length highs ≡ length lows → n + length highs * 8 ≤ length s
    → words_put (words_put (a ++ drop n s) n 8 highs) (n + 4) 8 lows ≡ (a ++ pair_bytes highs lows) ++ drop (n + length highs * 8) s
unfolding words_put pair_bytes
pairs_next [] [] a s n e f h = rw (add-zero n, append-nil)
pairs_next [] (l ∷ lows) a s n e f h = absurd (omega arith)
pairs_next (x ∷ highs) [] a s n e f h = absurd (omega arith)
pairs_next (x ∷ highs) (y ∷ lows) a s n e f h =
    let b : List ℕ = a ++ bytes_of 4 x in
    let first : length b ≡ n + 4 = length-append a (bytes_of 4 x) ∙ ap₂ ◌+◌ e (bytes_length 4 x) in
    let second : length (b ++ bytes_of 4 y) ≡ n + 8 =
    length-append b (bytes_of 4 y) ∙ omega (arith, bytes_length 4 y) in
    let joined : (b ++ bytes_of 4 y) ++ pair_bytes highs lows ≡ a ++ (bytes_of 4 x ++ bytes_of 4 y ++ pair_bytes highs lows) = simp append_assoc in
    let after : n + 4 + 4 ≡ n + 8 = omega arith in
    let low : n + 4 + 8 ≡ n + 8 + 4 = omega arith in
    let places : n + 8 + length highs * 8 ≡ n + suc (length highs) * 8 = omega arith in
    ap (λ (t : List ℕ). words_put t (n + 4 + 8) 8 lows)
    (put_before highs (write_at 4 (a ++ drop n s) n x) (n + 4) y (n + 8) 8 (omega arith)
    ∙ ap (λ (t : List ℕ). words_put (write_at 4 t (n + 4) y) (n + 8) 8 highs) (write_next 4 a s n x e (omega arith))
    ∙ ap (λ (t : List ℕ). words_put t (n + 8) 8 highs) (write_next 4 b s (n + 4) y first (omega arith)))
    ∙ ap₂ (λ (j k : ℕ). words_put (words_put ((b ++ bytes_of 4 y) ++ drop j s) (n + 8) 8 highs) k 8 lows) after low
    ∙ pairs_next highs lows (b ++ bytes_of 4 y) s (n + 8) second (omega arith) (omega arith)
    ∙ ap₂ ◌++◌ joined (ap (λ (k : ℕ). drop k s) places)

module _ (n : ℕ) (a s : List ℕ) {t u : List ℕ} (d : Done n a s t) where
  pub next_number : (w v : ℕ) → n + w ≤ length s → u ≡ write_at w t n v → Done (n + w) (a ++ bytes_of w v) s u
  next_number w v h e =
      record {
        count = length-append a (bytes_of w v) ∙ ap₂ ◌+◌ d.count (bytes_length w v);
        bytes = e ∙ ap (λ (l : List ℕ). write_at w l n v) d.bytes ∙ write_next w a s n v d.count h;
      }

  pub next_words : (l : List ℕ) (m : ℕ) → n + length l * 4 ≡ m → m ≤ length s → u ≡ words_put t n 4 l → Done m (a ++ word_bytes l) s u
  next_words l m f h e =
      record {
        count = length-append a (word_bytes l) ∙ omega (arith, d.count, words_length l);
        bytes =
            e ∙ ap (λ (k : List ℕ). words_put k n 4 l) d.bytes
            ∙ words_next l a s n d.count (omega arith)
            ∙ ap (λ (k : ℕ). (a ++ word_bytes l) ++ drop k s) f;
      }

  pub next_pairs : (highs lows : List ℕ) (m : ℕ) {v : List ℕ}
      → length highs ≡ length lows → n + length highs * 8 ≡ m → m ≤ length s → v ≡ words_put t n 8 highs → u ≡ words_put v (n + 4) 8 lows
      → Done m (a ++ pair_bytes highs lows) s u
  next_pairs highs lows m g f h e e' =
      record {
        count = length-append a (pair_bytes highs lows) ∙ omega (arith, d.count, pairs_length highs lows g);
        bytes =
            e' ∙ ap (λ (k : List ℕ). words_put k (n + 4) 8 lows) (e ∙ ap (λ (k : List ℕ). words_put k n 8 highs) d.bytes)
            ∙ pairs_next highs lows a s n d.count g (omega arith)
            ∙ ap (λ (k : ℕ). (a ++ pair_bytes highs lows) ++ drop k s) f;
      }
