-- Numbers, words and pairs read back: from their bytes to the numbers, and from the numbers to the bytes.
use mathlib.Core.Path.{◌≡◌, refl, ap, ap₂, sym, ◌∙◌}
use mathlib.Core.List.{List, [], ◌∷◌, ◌++◌, append_assoc}
use Prim.Native.Nat.{ℕ, zero, suc, ◌+◌, ◌*◌, ◌/◌, ◌%◌, ◌^◌, ◌≤◌, ◌<◌}
use native.Mathlib.Nat.{pow-suc}
use native.Mathlib.Omega.{arith}
use lib.ListN.{length, get_or, take, drop, length-drop}
use lib.Seq.{take-suc, take-add, drop-drop, drop_at, get_or-drop, get_or_at}
use Rattle.endian.specs.BigEndian.{read_at}
use Rattle.endian.proofs.Widths.{read_lt}
use Rattle.arrays.specs.Numbers.{bytes_of, word_bytes, pair_bytes, words_at}
use Rattle.arrays.proofs.WriteLaws.{bytes_length}

-- ---- what stands from a place on

module _ (s : List ℕ) where
  -- past the first bytes of a part stands the rest of it
  pub past : (x r : List ℕ) (n m : ℕ) → drop n s ≡ x ++ r → length x ≡ m → drop (n + m) s ≡ r
  past x r n m e h = sym (drop-drop m n s) ∙ ap (drop m) e ∙ drop_at x r m h

  pub number_read : (r : List ℕ) (w n v : ℕ) → v < 256 ^ w → drop n s ≡ bytes_of w v ++ r → read_at w s n ≡ v
  unfolding read_at bytes_of
  number_read r zero n v h e = omega arith
  number_read r (suc w) n v h e =
      let split : drop n s ≡ bytes_of w (v / 256) ++ (v % 256 ∷ r) = e ∙ append_assoc (bytes_of w (v / 256)) (v % 256 ∷ []) r in
      let small : v / 256 < 256 ^ w = omega (arith, pow-suc 256 w) in
      let front : read_at w s n ≡ v / 256 = number_read (v % 256 ∷ r) w n (v / 256) small split in
      let last : get_or s (n + w) 0 ≡ v % 256 =
      sym (get_or-drop n s w 0)
      ∙ ap (λ (l : List ℕ). get_or l w 0) split
      ∙ get_or_at (bytes_of w (v / 256)) (v % 256) r 0 w (bytes_length w (v / 256)) in
      omega arith

  -- a byte, whatever stands in its place
  pub byte_read : (r : List ℕ) (n v : ℕ) → drop n s ≡ v ∷ r → read_at 1 s n ≡ v
  unfolding read_at
  byte_read r n v e =
      let there : get_or s (n + 0) 0 ≡ v = sym (get_or-drop n s 0 0) ∙ ap (λ (l : List ℕ). get_or l 0 0) e in
      omega arith

  pub words_read : (r l : List ℕ) (n : ℕ) → ((i : ℕ) → get_or l i 0 < 256 ^ 4) → drop n s ≡ word_bytes l ++ r
      → words_at (length l) s n 4 ≡ l
  unfolding word_bytes words_at
  words_read r [] n h e = refl
  words_read r (v ∷ l) n h e =
      let split : drop n s ≡ bytes_of 4 v ++ (word_bytes l ++ r) = e ∙ append_assoc (bytes_of 4 v) (word_bytes l) r in
      ap₂ ◌∷◌ (number_read (word_bytes l ++ r) 4 n v (h 0) split)
      (words_read r l (n + 4) (λ i. h (suc i)) (past (bytes_of 4 v) (word_bytes l ++ r) n 4 split (bytes_length 4 v)))

  pub pairs_read : (r highs lows : List ℕ) (n : ℕ) → length highs ≡ length lows
      → ((i : ℕ) → get_or highs i 0 < 256 ^ 4) → ((i : ℕ) → get_or lows i 0 < 256 ^ 4) → drop n s ≡ pair_bytes highs lows ++ r
      → (words_at (length highs) s n 8 ≡ highs) × (words_at (length lows) s (n + 4) 8 ≡ lows)
  unfolding pair_bytes words_at
  pairs_read r [] [] n f h k e = (refl, refl)
  pairs_read r [] (y ∷ lows) n f h k e = absurd (omega arith)
  pairs_read r (x ∷ highs) [] n f h k e = absurd (omega arith)
  pairs_read r (x ∷ highs) (y ∷ lows) n f h k e =
      let pairs : List ℕ = pair_bytes highs lows ++ r in
      let split : drop n s ≡ bytes_of 4 x ++ (bytes_of 4 y ++ (pair_bytes highs lows ++ r)) = e ∙ simp append_assoc in
      let low : drop (n + 4) s ≡ bytes_of 4 y ++ pairs = past (bytes_of 4 x) (bytes_of 4 y ++ pairs) n 4 split (bytes_length 4 x) in
      let places : n + 8 ≡ n + 4 + 4 = omega arith in
      let after : drop (n + 8) s ≡ pairs = ap (λ (j : ℕ). drop j s) places ∙ past (bytes_of 4 y) pairs (n + 4) 4 low (bytes_length 4 y) in
      let rest = pairs_read r highs lows (n + 8) (omega arith) (λ i. h (suc i)) (λ i. k (suc i)) after in
      let next : n + 4 + 8 ≡ n + 8 + 4 = omega arith in (
        ap₂ ◌∷◌ (number_read (bytes_of 4 y ++ pairs) 4 n x (h 0) split) rest.0,
        ap₂ ◌∷◌ (number_read pairs 4 (n + 4) y (k 0) low) (ap (λ (j : ℕ). words_at (length lows) s j 8) next ∙ rest.1),
      )

-- ---- a list of bytes, from its start

module _ (s : List ℕ) (h : (j : ℕ) → get_or s j 0 < 256) where
  number_back : (w at : ℕ) → at + w ≤ length s → bytes_of w (read_at w s at) ≡ take w (drop at s)
  unfolding read_at bytes_of
  number_back zero at k = refl
  number_back (suc w) at k =
      let high : (read_at w s at * 256 + get_or s (at + w) 0) / 256 ≡ read_at w s at = omega (arith, h (at + w)) in
      let low : (read_at w s at * 256 + get_or s (at + w) 0) % 256 ≡ get_or s (at + w) 0 = omega (arith, h (at + w)) in
      let inside : w < length (drop at s) = omega (arith, length-drop at s) in
      rw (high, low, number_back w at (omega arith), ← get_or-drop at s w 0) (sym (take-suc (drop at s) w 0 inside))

  -- two parts, one after the other
  parts : (m n at : ℕ) → take m (drop at s) ++ take n (drop (at + m) s) ≡ take (m + n) (drop at s)
  parts m n at = ap (λ (l : List ℕ). take m (drop at s) ++ take n l) (sym (drop-drop m at s)) ∙ sym (take-add m n (drop at s))

  words_back : (n at : ℕ) → at + n * 4 ≤ length s → word_bytes (words_at n s at 4) ≡ take (n * 4) (drop at s)
  unfolding word_bytes words_at
  words_back zero at k = refl
  words_back (suc n) at k =
      let turn : 4 + n * 4 ≡ suc n * 4 = omega arith in
      ap₂ ◌++◌ (number_back 4 at (omega arith)) (words_back n (at + 4) (omega arith))
      ∙ parts 4 (n * 4) at
      ∙ ap (λ (m : ℕ). take m (drop at s)) turn

  pairs_back : (n at : ℕ) → at + n * 8 ≤ length s
      → pair_bytes (words_at n s at 8) (words_at n s (at + 4) 8) ≡ take (n * 8) (drop at s)
  unfolding pair_bytes words_at
  pairs_back zero at k = refl
  pairs_back (suc n) at k =
      let turn : 8 + n * 8 ≡ suc n * 8 = omega arith in
      let next : at + 4 + 8 ≡ at + 8 + 4 = omega arith in
      ap₂ ◌++◌ (ap₂ ◌++◌ (number_back 4 at (omega arith)) (number_back 4 (at + 4) (omega arith)) ∙ parts 4 4 at)
      (ap (λ (j : ℕ). pair_bytes (words_at n s (at + 8) 8) (words_at n s j 8)) next ∙ pairs_back n (at + 8) (omega arith))
      ∙ parts 8 (n * 8) at
      ∙ ap (λ (m : ℕ). take m (drop at s)) turn

  module _ (n : ℕ) {a : List ℕ} (e : a ≡ take n s) where
    join : {x : List ℕ} (m : ℕ) → x ≡ take m (drop n s) → a ++ x ≡ take (n + m) s
    join m f = rw (e, f) (sym (take-add n m s))

    pub number_joins : (w v : ℕ) → n + w ≤ length s → v ≡ read_at w s n → a ++ bytes_of w v ≡ take (n + w) s
    number_joins w v k f = join w (ap (bytes_of w) f ∙ number_back w n k)

    pub words_join : (k : ℕ) → n + k * 4 ≤ length s → a ++ word_bytes (words_at k s n 4) ≡ take (n + k * 4) s
    words_join k h = join (k * 4) (words_back k n h)

    pub pairs_join : (k : ℕ) → n + k * 8 ≤ length s → a ++ pair_bytes (words_at k s n 8) (words_at k s (n + 4) 8) ≡ take (n + k * 8) s
    pairs_join k h = join (k * 8) (pairs_back k n h)

-- ---- words in bytes: so many, and each of 32 bits

module _ (s : List ℕ) (h : (j : ℕ) → get_or s j 0 < 256) (stride : ℕ) where
  pub words_count : (n at : ℕ) → length (words_at n s at stride) ≡ n
  unfolding words_at
  words_count zero at = refl
  words_count (suc n) at = ap suc (words_count n (at + stride))

  pub words_lt : (n at i : ℕ) → get_or (words_at n s at stride) i 0 < 2 ^ 32
  unfolding words_at
  words_lt zero at i = omega arith
  words_lt (suc n) at zero = omega (arith, read_lt 4 s at h)
  words_lt (suc n) at (suc i) = words_lt n (at + stride) i
