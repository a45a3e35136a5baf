-- A record of 414 bytes reads as those bytes with the item of the timer at reset.
use mathlib.Core.Path.{◌≡◌, refl, ap, ap₂, sym, ◌∙◌}
use mathlib.Core.Bool.{Bool, true, cond}
use mathlib.Core.List.{List, [], ◌∷◌, ◌++◌}
use Prim.Native.Nat.{ℕ, zero, suc, ◌+◌, ◌*◌, ◌≤◌, ◌<◌}
use native.Mathlib.Nat.{suc-mul, add_assoc}
use native.Mathlib.Omega.{arith}
use lib.Dec.{eqb}
use lib.ListN.{length, get_or, length-append, get_or-append}
use lib.Seq.{get_or-append-add}
use Rattle.words.specs.Logic.{both}
use Rattle.words.proofs.Cases.{chosen}
use Rattle.endian.specs.BigEndian.{read_at}
use Rattle.endian.proofs.Widths.{read_same}
use Rattle.arrays.specs.Numbers.{bytes_of, word_bytes, words_at}
use Rattle.timer.specs.Timer.{timer_at_reset}
use Rattle.timer.specs.declared.Timer.{Timer}
use Rattle.processor.specs.declared.Processor.{Processor}
use Rattle.processor.specs.State.{at_reset}
use Rattle.machine.specs.Machine.{fit_with}
use Rattle.refusals.specs.Refusal.{first_failed, kinds_test, fit_test}
use Rattle.record_layout.specs.Record.{timer_item, kinds_in_place, processor_of, timer_of}
use Rattle.record_layout.proofs.KindLaws.{timer_kind_absent, timer_kind_tested}
use Rattle.record_layout.proofs.Fields.{fields_read, timer_read_lem, timer_absent}
use Rattle.record_layout.proofs.Written.{timer_length}
use Rattle.record.specs.Calls.{content_tests, read_refusal, processor_read, timer_read}
use Rattle.record.proofs.Answers.{readable_length, readable_old, readable_whole}

-- ---- what is read of two lists joined

module _ (s r : List ℕ) where
  number_before : (w at : ℕ) → at + w ≤ length s → read_at w (s ++ r) at ≡ read_at w s at
  number_before w at h = read_same w (s ++ r) s at (λ i k. get_or-append s r 0 (at + i) (omega arith))

  words_before : (n at gap : ℕ) → at + n * (gap + 4) ≤ length s + gap → words_at n (s ++ r) at (gap + 4) ≡ words_at n s at (gap + 4)
  unfolding words_at
  words_before zero at gap h = refl
  words_before (suc n) at gap h =
      let turn : suc n * (gap + 4) ≡ n * (gap + 4) + (gap + 4) = suc-mul n (gap + 4) in
      ap₂ ◌∷◌ (number_before 4 at (omega arith)) (words_before n (at + (gap + 4)) gap (omega arith))

  number_behind : (w at : ℕ) → read_at w (s ++ r) (length s + at) ≡ read_at w r at
  unfolding read_at
  number_behind zero at = refl
  number_behind (suc w) at =
      ap₂ (λ (x y : ℕ). x * 256 + y) (number_behind w at)
      (ap (λ (n : ℕ). get_or (s ++ r) n 0) (add_assoc (length s) at w) ∙ get_or-append-add s r (at + w) 0)

-- ---- a record without the timer, and the same with it

abbrev pub completed : List ℕ → List ℕ
completed s = s ++ timer_item timer_at_reset

module _ (s : List ℕ) (e : length s ≡ 414) where
  pub old_timer : timer_of s ≡ timer_at_reset
  old_timer = sym (timer_absent s (omega arith))

  completed_length : length (completed s) ≡ 424
  completed_length = length-append s (timer_item timer_at_reset) ∙ omega (arith, timer_length timer_at_reset)

  in_item : (w at : ℕ) → read_at w (completed s) (414 + at) ≡ read_at w (timer_item timer_at_reset) at
  in_item w at = ap (λ (n : ℕ). read_at w (completed s) (n + at)) (sym e) ∙ number_behind s (timer_item timer_at_reset) w at

  pub same_processor_lem : processor_of (completed s) ≡ processor_of s
  unfolding processor_of
  same_processor_lem =
      let item = timer_item timer_at_reset in
      let number : (w at : ℕ) → at + w ≤ 414 → read_at w s at ≡ read_at w (completed s) at = λ w at h. sym (number_before s item w at (omega arith)) in
      sym
      (fields_read (completed s) (sym (words_before s item 32 1 0 (omega arith))) (sym (words_before s item 32 156 4 (omega arith)))
      (sym (words_before s item 32 160 4 (omega arith))) (number 4 130 (omega arith)) (number 4 135 (omega arith)) (number 4 139 (omega arith))
      (number 4 143 (omega arith)) (number 4 147 (omega arith)) (number 4 151 (omega arith)) (number 1 413 (omega arith)))

  pub same_timer_lem : timer_of (completed s) ≡ timer_of s
  unfolding timer_item timer_at_reset word_bytes bytes_of read_at
  same_timer_lem =
      sym (timer_read_lem (completed s) (omega (arith, completed_length)) (sym (in_item 4 1)) (sym (in_item 4 5)) (sym (in_item 1 9))) ∙ sym old_timer

  sixth : read_at 1 (completed s) 414 ≡ 6
  unfolding timer_item read_at
  sixth = in_item 1 0

  pub same_kinds : kinds_in_place (completed s) ≡ kinds_in_place s
  unfolding kinds_in_place
  same_kinds =
      let kind : (at v : ℕ) → at < 414 → eqb (read_at 1 (completed s) at) v ≡ eqb (read_at 1 s at) v =
      λ at v h. ap (λ (b : ℕ). eqb b v) (number_before s (timer_item timer_at_reset) 1 at (omega arith)) in
      let last = sym (timer_kind_tested (completed s) (omega (arith, completed_length)) (sym sixth)) ∙ timer_kind_absent s (omega arith) in
      ap₂ both (kind 0 1 (omega arith)) (ap₂ both (kind 129 2 (omega arith)) (ap₂ both (kind 134 3 (omega arith))
      (ap₂ both (kind 155 4 (omega arith)) (ap₂ both (kind 412 5 (omega arith)) last))))

  -- ---- what its reading answers and hands back

  content : (l : List ℕ) → readable_length l ≡ true → read_refusal l ≡ first_failed (content_tests l)
  unfolding read_refusal
  content l h = rw h

  pub same_refusal : read_refusal (completed s) ≡ read_refusal s
  same_refusal =
      content (completed s) (readable_whole (completed s) completed_length)
      ∙ ap₂ (λ (a b : Bool). first_failed (kinds_test a ∷ fit_test b ∷ [])) same_kinds (ap₂ fit_with same_processor_lem same_timer_lem)
      ∙ sym (content s (readable_old s e))

  pub same_processor_read : processor_read (completed s) ≡ processor_read s
  unfolding processor_read
  same_processor_read = ap₂ (λ (n : ℕ) (p : Processor). cond (eqb n 0) p at_reset) same_refusal same_processor_lem

  pub same_timer_read : timer_read (completed s) ≡ timer_read s
  unfolding timer_read
  same_timer_read = ap₂ (λ (n : ℕ) (t : Timer). cond (eqb n 0) t timer_at_reset) same_refusal same_timer_lem

  -- a timer at reset, of a refused one too
  pub old_timer_read : timer_read s ≡ timer_at_reset
  unfolding timer_read
  old_timer_read = chosen (λ (t : Timer). t ≡ timer_at_reset) (eqb (read_refusal s) 0) old_timer refl
