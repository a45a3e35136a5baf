-- A record read and written is the same bytes; one without the timer, those bytes and the item of the timer at reset.
use mathlib.Core.Path.{◌≡◌, refl, ap, ap₂, sym, ◌∙◌}
use mathlib.Core.List.{List, [], ◌++◌}
use Prim.Native.Nat.{ℕ, ◌≤◌, ◌<◌}
use native.Mathlib.Omega.{arith}
use lib.ListN.{length, get_or, take}
use lib.Seq.{take_all}
use Rattle.endian.specs.BigEndian.{read_at}
use Rattle.arrays.specs.Numbers.{words_at}
use Rattle.timer.specs.Timer.{timer, timer_at_reset}
use Rattle.timer.specs.declared.Timer.{Timer}
use Rattle.record_layout.specs.Record.{processor_items, timer_item, record_of, processor_of, timer_of}
use Rattle.record.specs.Calls.{read_refusal, processor_read, timer_read, machine_refusal, write_refusal, buffer_after}
use Rattle.record_layout.proofs.KindLaws.{Kinds, kinds_mean}
use Rattle.record_layout.proofs.Fields.{timer_read_lem, timer_absent}
use Rattle.record_layout.proofs.Written.{bytes_written, same_bytes, timer_bytes}
use Rattle.record.proofs.Answers.{accepted_means, read_accepted, read_fit, write_accepted}
use Rattle.record.proofs.MachineRead.{machine_accepted}
use Rattle.arrays.proofs.ReadLaws.{number_joins, words_join, pairs_join}

module _ (s : List ℕ) (h : (j : ℕ) → get_or s j 0 < 256) where
  -- ---- the items, from the numbers that are read

  same_items : 414 ≤ length s → Kinds s → processor_items (processor_of s) ≡ take 414 s
  unfolding bytes_written processor_of words_at read_at
  same_items e k =
      let j1 = number_joins s h 0 {a = []} refl 1 1 (omega arith) (sym k.first) in
      let j2 = words_join s h 1 j1 32 (omega arith) in
      let j3 = number_joins s h 129 j2 1 2 (omega arith) (sym k.second) in
      let j4 = number_joins s h 130 j3 4 (read_at 4 s 130) (omega arith) refl in
      let j5 = number_joins s h 134 j4 1 3 (omega arith) (sym k.third) in
      let j6 = words_join s h 135 j5 5 (omega arith) in
      let j7 = number_joins s h 155 j6 1 4 (omega arith) (sym k.fourth) in
      let j8 = pairs_join s h 156 j7 32 (omega arith) in
      let j9 = number_joins s h 412 j8 1 5 (omega arith) (sym k.fifth) in
      let j10 : bytes_written (processor_of s) ≡ take 414 s = number_joins s h 413 j9 1 (read_at 1 s 413) (omega arith) refl in
      let small : read_at 1 s 413 < 256 = omega (arith, h 413) in
      sym (same_bytes (processor_of s) small) ∙ j10

  same_record : length s ≡ 424 → Kinds s → record_of (processor_of s) (timer_of s) ≡ s
  unfolding record_of read_at
  same_record e k =
      let t : Timer = timer (read_at 4 s 415) (read_at 4 s 419) (read_at 1 s 423) in
      let there : t ≡ timer_of s = timer_read_lem s (omega arith) refl refl refl in
      let j1 = number_joins s h 414 (same_items (omega arith) k) 1 6 (omega arith) (sym (k.sixth (omega arith))) in
      let j2 = number_joins s h 415 j1 4 (read_at 4 s 415) (omega arith) refl in
      let j3 = number_joins s h 419 j2 4 (read_at 4 s 419) (omega arith) refl in
      let j4 = number_joins s h 423 j3 1 (read_at 1 s 423) (omega arith) refl in
      let all : length s ≤ 424 = omega arith in
      let small : read_at 1 s 423 < 256 = omega (arith, h 423) in
      ap (λ (u : Timer). processor_items (processor_of s) ++ timer_item u) (sym there)
      ∙ sym (timer_bytes t small (processor_items (processor_of s))) ∙ j4 ∙ take_all 424 s all

  old_record : length s ≡ 414 → Kinds s → record_of (processor_of s) (timer_of s) ≡ s ++ timer_item timer_at_reset
  unfolding record_of
  old_record e k =
      let all : length s ≤ 414 = omega arith in
      ap₂ (λ (l : List ℕ) (u : Timer). l ++ timer_item u) (same_items (omega arith) k ∙ take_all 414 s all) (sym (timer_absent s (omega arith)))

  -- ---- what an accepted record is, read and written

  as_held : read_refusal s ≡ 0 → Kinds s × (record_of (processor_read s) (timer_read s) ≡ record_of (processor_of s) (timer_of s))
  as_held e =
      let means = accepted_means s e in
      let held = read_accepted s means.0 means.1 means.2 in
      (kinds_mean s means.1, ap₂ record_of (sym held.1) (sym held.2))

  pub read_written : length s ≡ 424 → read_refusal s ≡ 0 → record_of (processor_read s) (timer_read s) ≡ s
  read_written k e = let held = as_held e in held.1 ∙ same_record k held.0

  pub old_written : length s ≡ 414 → read_refusal s ≡ 0 → record_of (processor_read s) (timer_read s) ≡ s ++ timer_item timer_at_reset
  old_written k e = let held = as_held e in held.1 ∙ old_record k held.0

  -- of a machine's buffer
  pub machine_written : machine_refusal s ≡ 0 → record_of (processor_of s) (timer_of s) ≡ s
  machine_written e =
      let accepted = machine_accepted s e in
      same_record accepted.0 (as_held accepted.1).0

  -- into any buffer of 424 bytes
  module _ (e : read_refusal s ≡ 0) (t : List ℕ) (k : length t ≡ 424) where
    into : (write_refusal (processor_read s) (timer_read s) t ≡ 0)
        × (buffer_after (processor_read s) (timer_read s) t ≡ record_of (processor_read s) (timer_read s))
    into = let answer = write_accepted (processor_read s) (timer_read s) t k (read_fit s) in (sym answer.0, sym answer.1)

    pub read_written_into : length s ≡ 424
        → (write_refusal (processor_read s) (timer_read s) t ≡ 0) × (buffer_after (processor_read s) (timer_read s) t ≡ s)
    read_written_into f = (into.0, into.1 ∙ read_written f e)

    pub old_written_into : length s ≡ 414
        → (write_refusal (processor_read s) (timer_read s) t ≡ 0) × (buffer_after (processor_read s) (timer_read s) t ≡ s ++ timer_item timer_at_reset)
    old_written_into f = (into.0, into.1 ∙ old_written f e)
