-- The bytes of a record, item after item: their number, and that writing them gives the record.
use mathlib.Core.Path.{◌≡◌, refl, ap, ap₂, sym, ◌∙◌}
use mathlib.Core.List.{List, [], ◌∷◌, ◌++◌, append_assoc, append-nil}
use Prim.Native.Nat.{ℕ, ◌+◌, ◌%◌, ◌≤◌, ◌<◌}
use native.Mathlib.Omega.{arith}
use lib.ListN.{length, take, drop, length-append, take-append-drop, drop_of_length-le}
use lib.Seq.{length-take-le, drop_at}
use Rattle.endian.specs.BigEndian.{write_at}
use Rattle.timer.specs.declared.Timer.{Timer}
use Rattle.processor.specs.declared.Processor.{Processor}
use Rattle.arrays.specs.Numbers.{bytes_of, word_bytes, pair_bytes, words_put}
use Rattle.record_layout.specs.Record.{processor_items, timer_item, record_of}
use Rattle.arrays.proofs.WriteLaws.{Done, bytes_length, words_length, pairs_length, next_number, next_words, next_pairs}

-- the arrays of a processor have 32 words each
pub record Arrays (p : Processor) : Type 0 where
  pub registers : length p.registers ≡ 32
  pub highs : length p.tlbhigh ≡ 32
  pub lows : length p.tlblow ≡ 32

abbrev pub specials : Processor → List ℕ
specials p = p.psw ∷ p.index ∷ p.entryhigh ∷ p.entrylow ∷ p.badaddress ∷ []

-- the bytes, as they are written
unfoldable pub bytes_written : Processor → List ℕ
bytes_written p =
    [] ++ bytes_of 1 1 ++ word_bytes p.registers
    ++ bytes_of 1 2 ++ bytes_of 4 p.pc
    ++ bytes_of 1 3 ++ word_bytes (specials p)
    ++ bytes_of 1 4 ++ pair_bytes p.tlbhigh p.tlblow
    ++ bytes_of 1 5 ++ bytes_of 1 p.replacement

pub one_byte : (v : ℕ) → bytes_of 1 v ≡ v % 256 ∷ []
unfolding bytes_of
one_byte v = refl

-- a number that fits in its byte
byte_itself : (v : ℕ) → v < 256 → bytes_of 1 v ≡ v ∷ []
byte_itself v h = let same : v % 256 ≡ v = omega arith in one_byte v ∙ ap (λ (b : ℕ). b ∷ []) same

pub same_bytes : (p : Processor) → p.replacement < 256 → bytes_written p ≡ processor_items p
unfolding bytes_written processor_items
same_bytes p small =
    simp (append_assoc, one_byte 1, one_byte 2, one_byte 3, one_byte 4, one_byte 5, byte_itself p.replacement small)

-- ---- the processor's items

module _ (p : Processor) (h : Arrays p) where
  pub items_length : length (processor_items p) ≡ 414
  unfolding processor_items
  items_length =
      simp (length-append, bytes_length, words_length, pairs_length p.tlbhigh p.tlblow (h.highs ∙ sym h.lows), h.registers, h.highs)

  -- eleven writes into a list of 424 bytes
  pub all_written : p.replacement < 256 → (s : List ℕ) → length s ≡ 424 → {t1 t2 t3 t4 t5 t6 t7 t8 t9 t10 t11 : List ℕ}
      → t1 ≡ write_at 1 s 0 1
      → t2 ≡ words_put t1 1 4 p.registers
      → t3 ≡ write_at 1 t2 129 2
      → t4 ≡ write_at 4 t3 130 p.pc
      → t5 ≡ write_at 1 t4 134 3
      → t6 ≡ words_put t5 135 4 (specials p)
      → t7 ≡ write_at 1 t6 155 4
      → t8 ≡ words_put t7 156 8 p.tlbhigh
      → t9 ≡ words_put t8 160 8 p.tlblow
      → t10 ≡ write_at 1 t9 412 5
      → t11 ≡ write_at 1 t10 413 p.replacement
      → t11 ≡ processor_items p ++ drop 414 s
  unfolding bytes_written
  all_written small s e e1 e2 e3 e4 e5 e6 e7 e8 e9 e10 e11 =
      let d0 : Done 0 [] s s = record { count = refl; bytes = refl } in
      let d1 = next_number 0 [] s d0 1 1 (omega arith) e1 in
      let d2 = next_words 1 _ s d1 p.registers 129 (omega (arith, h.registers)) (omega arith) e2 in
      let d3 = next_number 129 _ s d2 1 2 (omega arith) e3 in
      let d4 = next_number 130 _ s d3 4 p.pc (omega arith) e4 in
      let d5 = next_number 134 _ s d4 1 3 (omega arith) e5 in
      let d6 = next_words 135 _ s d5 (specials p) 155 refl (omega arith) e6 in
      let d7 = next_number 155 _ s d6 1 4 (omega arith) e7 in
      let d8 = next_pairs 156 _ s d7 p.tlbhigh p.tlblow 412 (h.highs ∙ sym h.lows) (omega (arith, h.highs)) (omega arith) e8 e9 in
      let d9 = next_number 412 _ s d8 1 5 (omega arith) e10 in
      let d10 = next_number 413 _ s d9 1 p.replacement (omega arith) e11 in
      d10.bytes ∙ ap (λ (l : List ℕ). l ++ drop 414 s) (same_bytes p small)

-- ---- the timer's item, and the whole record

module _ (t : Timer) where
  -- the bytes, as they are written
  pub timer_bytes : t.control < 256 → (a : List ℕ)
      → (((a ++ bytes_of 1 6) ++ bytes_of 4 t.divisor) ++ bytes_of 4 t.counter) ++ bytes_of 1 t.control ≡ a ++ timer_item t
  unfolding timer_item word_bytes
  timer_bytes small a = simp (append_assoc, one_byte 6, byte_itself t.control small)

  pub timer_length : length (timer_item t) ≡ 10
  unfolding timer_item
  timer_length = simp (length-append, words_length)

  -- four writes into a list of 424 bytes
  pub timer_written : t.control < 256 → (s : List ℕ) → length s ≡ 424 → {t1 t2 t3 t4 : List ℕ}
      → t1 ≡ write_at 1 s 414 6
      → t2 ≡ write_at 4 t1 415 t.divisor
      → t3 ≡ write_at 4 t2 419 t.counter
      → t4 ≡ write_at 1 t3 423 t.control
      → t4 ≡ take 414 s ++ timer_item t
  timer_written small s e e1 e2 e3 e4 =
      let d0 : Done 414 (take 414 s) s s = record { count = length-take-le 414 s (omega arith); bytes = sym (take-append-drop 414 s) } in
      let d1 = next_number 414 _ s d0 1 6 (omega arith) e1 in
      let d2 = next_number 415 _ s d1 4 t.divisor (omega arith) e2 in
      let d3 = next_number 419 _ s d2 4 t.counter (omega arith) e3 in
      let d4 = next_number 423 _ s d3 1 t.control (omega arith) e4 in
      let all : length s ≤ 424 = omega arith in
      let rest : drop 424 s ≡ [] = drop_of_length-le s all in
      d4.bytes ∙ ap₂ ◌++◌ (timer_bytes small (take 414 s)) rest ∙ append-nil (take 414 s ++ timer_item t)

  pub record_length_lem : (p : Processor) → Arrays p → length (record_of p t) ≡ 424
  unfolding record_of
  record_length_lem p h = length-append (processor_items p) (timer_item t) ∙ ap₂ ◌+◌ (items_length p h) timer_length

  -- the timer's item, and the items of a processor before it
  pub both_written : (p : Processor) (s : List ℕ) → length s ≡ 424 → {t1 t2 : List ℕ}
      → t1 ≡ take 414 s ++ timer_item t → t2 ≡ processor_items p ++ drop 414 t1 → t2 ≡ record_of p t
  unfolding record_of
  both_written p s e e1 e2 =
      let rest = drop_at (take 414 s) (timer_item t) 414 (length-take-le 414 s (omega arith)) in
      e2 ∙ ap (λ (l : List ℕ). processor_items p ++ l) (ap (drop 414) e1 ∙ rest)
