-- A machine written and read is the same machine.
use mathlib.Core.Path.{◌≡◌, ap, ap₂, sym, ◌∙◌}
use mathlib.Core.Bool.{true}
use mathlib.Core.List.{List, [], ◌∷◌, ◌++◌, append_assoc}
use Prim.Native.Nat.{ℕ, zero, suc, ◌*◌, ◌^◌, ◌≤◌, ◌<◌}
use native.Mathlib.Omega.{arith}
use lib.ListN.{length, get_or, drop}
use lib.Seq.{drop_at}
use Rattle.endian.specs.BigEndian.{read_at}
use Rattle.timer.specs.Timer.{TimerWords}
use Rattle.timer.specs.declared.Timer.{Timer}
use Rattle.processor.specs.declared.Processor.{Processor}
use Rattle.machine.specs.Machine.{fit_with}
use Rattle.arrays.specs.Numbers.{bytes_of, word_bytes, pair_bytes, words_at}
use Rattle.record_layout.specs.Record.{processor_items, timer_item, record_of, processor_of, timer_of}
use Rattle.record.specs.Calls.{read_refusal, processor_read, timer_read, buffer_after}
use Rattle.record_layout.proofs.KindLaws.{Kinds, means_kinds}
use Rattle.arrays.proofs.WriteLaws.{bytes_length, words_length, pairs_length}
use Rattle.record_layout.proofs.Written.{Arrays, specials, one_byte, items_length, record_length_lem}
use Rattle.record_layout.proofs.Fields.{fields_read, timer_read_lem}
use Rattle.record.proofs.Answers.{readable_whole, read_accepted, write_accepted}
use Rattle.arrays.proofs.ReadLaws.{past, number_read, byte_read, words_read, pairs_read}

-- a value of the code's type: 32 words in each array, and every number below 2 ^ 32
pub record Value (p : Processor) : Type 0 where
  pub arrays : Arrays p
  pub registers : (i : ℕ) → get_or p.registers i 0 < 2 ^ 32
  pub pc : p.pc < 2 ^ 32
  pub psw : p.psw < 2 ^ 32
  pub index : p.index < 2 ^ 32
  pub entryhigh : p.entryhigh < 2 ^ 32
  pub entrylow : p.entrylow < 2 ^ 32
  pub badaddress : p.badaddress < 2 ^ 32
  pub highs : (i : ℕ) → get_or p.tlbhigh i 0 < 2 ^ 32
  pub lows : (i : ℕ) → get_or p.tlblow i 0 < 2 ^ 32
  pub replacement : p.replacement < 2 ^ 32

module _ (p : Processor) (v : Value p) where
  special_lt : (i : ℕ) → get_or (specials p) i 0 < 2 ^ 32
  special_lt zero = v.psw
  special_lt (suc zero) = v.index
  special_lt (suc (suc zero)) = v.entryhigh
  special_lt (suc (suc (suc zero))) = v.entrylow
  special_lt (suc (suc (suc (suc zero)))) = v.badaddress
  special_lt (suc (suc (suc (suc (suc i))))) = omega arith

  -- the items, and whatever stands after them
  laid_out : (r : List ℕ) → processor_items p ++ r
      ≡ bytes_of 1 1 ++ (word_bytes p.registers
      ++ (bytes_of 1 2 ++ (bytes_of 4 p.pc
      ++ (bytes_of 1 3 ++ (word_bytes (specials p)
      ++ (bytes_of 1 4 ++ (pair_bytes p.tlbhigh p.tlblow
      ++ (bytes_of 1 5 ++ (p.replacement ∷ r)))))))))
  unfolding processor_items
  laid_out r = simp (append_assoc, one_byte 1, one_byte 2, one_byte 3, one_byte 4, one_byte 5)

  -- what they hold, field by field
  items_hold : (r : List ℕ) → (424 ≤ length (processor_items p ++ r) → read_at 1 (processor_items p ++ r) 414 ≡ 6)
      → Kinds (processor_items p ++ r) × (processor_of (processor_items p ++ r) ≡ p)
  unfolding words_at
  items_hold r kind =
      let s : List ℕ = processor_items p ++ r in
      let r9 : List ℕ = p.replacement ∷ r in
      let r8 : List ℕ = bytes_of 1 5 ++ r9 in
      let r7 : List ℕ = pair_bytes p.tlbhigh p.tlblow ++ r8 in
      let r6 : List ℕ = bytes_of 1 4 ++ r7 in
      let r5 : List ℕ = word_bytes (specials p) ++ r6 in
      let r4 : List ℕ = bytes_of 1 3 ++ r5 in
      let r3 : List ℕ = bytes_of 4 p.pc ++ r4 in
      let r2 : List ℕ = bytes_of 1 2 ++ r3 in
      let r1 : List ℕ = word_bytes p.registers ++ r2 in
      let e0 : drop 0 s ≡ bytes_of 1 1 ++ r1 = laid_out r in
      let e1 : drop 1 s ≡ r1 = past s (bytes_of 1 1) r1 0 1 e0 (bytes_length 1 1) in
      let n1 : length (word_bytes p.registers) ≡ 128 = words_length p.registers ∙ ap (λ (n : ℕ). n * 4) v.arrays.registers in
      let e2 : drop 129 s ≡ r2 = past s (word_bytes p.registers) r2 1 128 e1 n1 in
      let e3 : drop 130 s ≡ r3 = past s (bytes_of 1 2) r3 129 1 e2 (bytes_length 1 2) in
      let e4 : drop 134 s ≡ r4 = past s (bytes_of 4 p.pc) r4 130 4 e3 (bytes_length 4 p.pc) in
      let e5 : drop 135 s ≡ r5 = past s (bytes_of 1 3) r5 134 1 e4 (bytes_length 1 3) in
      let e6 : drop 155 s ≡ r6 = past s (word_bytes (specials p)) r6 135 20 e5 (words_length (specials p)) in
      let e7 : drop 156 s ≡ r7 = past s (bytes_of 1 4) r7 155 1 e6 (bytes_length 1 4) in
      let same : length p.tlbhigh ≡ length p.tlblow = v.arrays.highs ∙ sym v.arrays.lows in
      let n7 : length (pair_bytes p.tlbhigh p.tlblow) ≡ 256 =
      pairs_length p.tlbhigh p.tlblow same ∙ ap (λ (n : ℕ). n * 8) v.arrays.highs in
      let e8 : drop 412 s ≡ r8 = past s (pair_bytes p.tlbhigh p.tlblow) r8 156 256 e7 n7 in
      let e9 : drop 413 s ≡ r9 = past s (bytes_of 1 5) r9 412 1 e8 (bytes_length 1 5) in
      let words = words_read s r2 p.registers 1 v.registers e1 in
      let special = words_read s r6 (specials p) 135 special_lt e5 in
      let pairs = pairs_read s r8 p.tlbhigh p.tlblow 156 same v.highs v.lows e7 in (
        record {
          first = number_read s r1 1 0 1 (omega arith) e0;
          second = number_read s r3 1 129 2 (omega arith) e2;
          third = number_read s r5 1 134 3 (omega arith) e4;
          fourth = number_read s r7 1 155 4 (omega arith) e6;
          fifth = number_read s r9 1 412 5 (omega arith) e8;
          sixth = kind;
        },
        sym
            (fields_read s
            (sym words ∙ ap (λ (n : ℕ). words_at n s 1 4) v.arrays.registers)
            (sym pairs.0 ∙ ap (λ (n : ℕ). words_at n s 156 8) v.arrays.highs)
            (sym pairs.1 ∙ ap (λ (n : ℕ). words_at n s 160 8) v.arrays.lows)
            (sym (number_read s r4 4 130 p.pc v.pc e3))
            (sym (ap (λ (l : List ℕ). get_or l 0 0) special))
            (sym (ap (λ (l : List ℕ). get_or l 1 0) special))
            (sym (ap (λ (l : List ℕ). get_or l 2 0) special))
            (sym (ap (λ (l : List ℕ). get_or l 3 0) special))
            (sym (ap (λ (l : List ℕ). get_or l 4 0) special))
            (sym (byte_read s r 413 p.replacement e9))),
      )

module _ (p : Processor) (t : Timer) (v : Value p) (w : TimerWords t) where
  -- what a record holds
  timer_laid : drop 414 (record_of p t) ≡ bytes_of 1 6 ++ (bytes_of 4 t.divisor ++ (bytes_of 4 t.counter ++ (t.control ∷ [])))
  unfolding record_of timer_item word_bytes
  timer_laid = drop_at (processor_items p) (timer_item t) 414 (items_length p v.arrays) ∙ simp (append_assoc, one_byte 6)

  pub holds : Kinds (record_of p t) × (processor_of (record_of p t) ≡ p) × (timer_of (record_of p t) ≡ t)
  unfolding record_of
  holds =
      let s : List ℕ = record_of p t in
      let r12 : List ℕ = t.control ∷ [] in
      let r11 : List ℕ = bytes_of 4 t.counter ++ r12 in
      let r10 : List ℕ = bytes_of 4 t.divisor ++ r11 in
      let e10 : drop 415 s ≡ r10 = past s (bytes_of 1 6) r10 414 1 timer_laid (bytes_length 1 6) in
      let e11 : drop 419 s ≡ r11 = past s (bytes_of 4 t.divisor) r11 415 4 e10 (bytes_length 4 t.divisor) in
      let e12 : drop 423 s ≡ r12 = past s (bytes_of 4 t.counter) r12 419 4 e11 (bytes_length 4 t.counter) in
      let items = items_hold p v (timer_item t) (λ _. number_read s r10 1 414 6 (omega arith) timer_laid) in (
        items.0,
        items.1,
        sym
            (timer_read_lem s (omega (arith, record_length_lem t p v.arrays))
            (sym (number_read s r11 4 415 t.divisor w.divisor e10))
            (sym (number_read s r12 4 419 t.counter w.counter e11))
            (sym (byte_read s [] 423 t.control e12))),
      )

  pub written_read : fit_with p t ≡ true → (read_refusal (record_of p t) ≡ 0) × (processor_read (record_of p t) ≡ p) × (timer_read (record_of p t) ≡ t)
  written_read f =
      let s : List ℕ = record_of p t in
      let held = holds in
      let whole = readable_whole s (record_length_lem t p v.arrays) in
      let answer = read_accepted s whole (means_kinds s held.0) (ap₂ fit_with held.1 held.2 ∙ f) in
      (sym answer.0, sym answer.1 ∙ held.1, sym answer.2 ∙ held.2)

  -- through any buffer of 424 bytes
  pub written_read_through : fit_with p t ≡ true → (s : List ℕ) → length s ≡ 424
      → (read_refusal (buffer_after p t s) ≡ 0) × (processor_read (buffer_after p t s) ≡ p) × (timer_read (buffer_after p t s) ≡ t)
  written_read_through f s e =
      let same : buffer_after p t s ≡ record_of p t = sym (write_accepted p t s e f).1 in
      let back = written_read f in
      (ap read_refusal same ∙ back.0, ap processor_read same ∙ back.1, ap timer_read same ∙ back.2)
