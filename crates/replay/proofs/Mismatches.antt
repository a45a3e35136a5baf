-- A command is counted as a mismatch exactly if it is not good. So no mismatch says that each step of the file agreed with the definition.
use mathlib.Core.Path.{◌≡◌, refl, ap, sym, ◌∙◌}
use mathlib.Core.Bool.{Bool, true, false, cond}
use mathlib.Core.List.{List}
use Prim.Native.Nat.{ℕ, zero, suc, ◌+◌, ◌/◌, ◌%◌, ◌<◌}
use native.Mathlib.Omega.{arith}
use lib.Dec.{ltb, eqb}
use lib.ListN.{length}
use borrow.Author.Tests.{eqb-true, eq-eqb, ltb-false}
use Rattle.words.specs.Logic.{both}
use Rattle.words.proofs.Cases.{chosen, case}
use Rattle.words.proofs.Conjunction.{both_true, true_both}
use Rattle.machine.specs.Machine.{Machine, fit_with}
use Rattle.record_layout.specs.Record.{record_of}
use Rattle.replay.specs.declared.Counts.{Counts}
use Rattle.byte_slices.specs.Same.{same}
use Rattle.replay.specs.Tally.{raised, case_begun, step_made, end_read, failed, judged}
use Rattle.expected.specs.Expected.{Expected, told_agrees, record_agrees, memory_agrees, agrees}
use Rattle.replay.specs.Agreement.{step_agrees}
use Rattle.replay.specs.Replay.{Replay, good, done, after_judging, commanded, good_at, commanded_at, replayed_from, all_good_from, replayed, finished}
use Rattle.byte_slices.proofs.SameLaws.{same_equal, numbers_first, lists_first, same_self}

-- ---- what agreement says

module _ (x : Expected) (wanted : ℕ) (m : Machine) (eid slot : ℕ) where
  pub agrees_says : agrees x wanted m eid slot ≡ true
      → (eid ≡ wanted % 256) × (slot ≡ wanted / 256) × (fit_with m.processor m.timer ≡ true) × (record_of m.processor m.timer ≡ x.bytes)
      × (m.memory.ram ≡ x.memory.ram) × (m.memory.rom ≡ x.memory.rom) × (m.memory.belt ≡ x.memory.belt)
  unfolding agrees told_agrees record_agrees memory_agrees
  agrees_says e =
      let (numbers, rest) = both_true (both (eqb eid (wanted % 256)) (eqb slot (wanted / 256))) _ e in
      let (number, served) = numbers_first eid (wanted % 256) _ numbers in
      let (bytes, memory) = both_true (both (fit_with m.processor m.timer) (same (record_of m.processor m.timer) x.bytes)) _ rest in
      let (isFit, written) = both_true (fit_with m.processor m.timer) _ bytes in
      let (ram, others) = lists_first m.memory.ram x.memory.ram _ memory in
      let (rom, belt) = lists_first m.memory.rom x.memory.rom _ others in
      (number, eqb-true slot (wanted / 256) served, isFit, same_equal _ _ written, ram, rom, same_equal _ _ belt)

  pub says_agrees : eid ≡ wanted % 256 → slot ≡ wanted / 256 → fit_with m.processor m.timer ≡ true → record_of m.processor m.timer ≡ x.bytes
      → m.memory.ram ≡ x.memory.ram → m.memory.rom ≡ x.memory.rom → m.memory.belt ≡ x.memory.belt
      → agrees x wanted m eid slot ≡ true
  unfolding agrees told_agrees record_agrees memory_agrees
  says_agrees e k f g h i j =
      simp (
        eq-eqb eid (wanted % 256) e,
        eq-eqb slot (wanted / 256) k,
        f,
        g,
        h,
        i,
        j,
        same_self x.bytes,
        same_self x.memory.ram,
        same_self x.memory.rom,
      ) (same_self x.memory.belt)

-- ---- one command

pub judged_mismatches : (step fine : Bool) (c : Counts) → (judged step fine c).mismatches ≡ cond fine c.mismatches (raised c.mismatches)
unfolding judged failed
judged_mismatches step true c = refl
judged_mismatches step false c = refl

module _ (r : Replay) (kind a b : ℕ) where
  Kept : Replay → Type 0
  Kept q = q.counts.mismatches ≡ r.counts.mismatches

  done_keeps : (done r kind a b).counts.mismatches ≡ r.counts.mismatches
  unfolding done case_begun step_made end_read Kept
  done_keeps =
      chosen Kept r.counts.ended refl (chosen Kept (eqb kind 0) refl (chosen Kept (eqb kind 6) refl
      (chosen Kept (eqb kind 7) refl (chosen Kept (eqb kind 8) refl refl))))

  -- one more exactly if it is not good
  pub command_mismatches : (commanded r kind a b).counts.mismatches
      ≡ cond (good r kind a b) r.counts.mismatches (raised r.counts.mismatches)
  unfolding commanded after_judging
  command_mismatches =
      judged_mismatches (eqb kind 7) (good r kind a b) (done r kind a b).counts
      ∙ ap (λ (n : ℕ). cond (good r kind a b) n (raised n)) done_keeps

-- a step before the end is good exactly if it agrees
pub step_good : (r : Replay) (a b : ℕ) → r.counts.ended ≡ false → good r 7 a b ≡ step_agrees r.expected b r.model a
unfolding good
step_good r a b e = simp e

pub step_mismatches : (r : Replay) (a b : ℕ) → r.counts.ended ≡ false
    → (commanded r 7 a b).counts.mismatches
    ≡ cond (step_agrees r.expected b r.model a) r.counts.mismatches (raised r.counts.mismatches)
step_mismatches r a b e =
    command_mismatches r 7 a b
    ∙ ap (λ (t : Bool). cond t r.counts.mismatches (raised r.counts.mismatches)) (step_good r a b e)

-- ---- no mismatch

raised_positive : (n : ℕ) → 0 < raised n
unfolding raised
raised_positive n =
    case (λ (k : ℕ). 0 < k) (ltb n 4294967295) (λ e. omega arith) (λ e. omega (arith, ltb-false n 4294967295 e))

none_left : (t : Bool) (n : ℕ) → cond t n (raised n) ≡ 0 → (t ≡ true) × (n ≡ 0)
none_left true n e = (refl, e)
none_left false n e = absurd (omega (arith, raised_positive n, e))

-- after the commands there is none: so there was none before them, and each was good
pub none_from : (n : ℕ) (s : List ℕ) (at : ℕ) (r : Replay) → (replayed_from n s at r).counts.mismatches ≡ 0
    → (all_good_from n s at r ≡ true) × (r.counts.mismatches ≡ 0)
unfolding replayed_from all_good_from good_at commanded_at
none_from zero s at r e = (refl, e)
none_from (suc n) s at r e =
    let (rest, after) = none_from n s (at + 8) (commanded_at s at r) e in
    let (here, before) = none_left (good_at s at r) r.counts.mismatches (sym (command_mismatches r _ _ _) ∙ after) in
    (true_both _ _ here rest, before)

-- where each is good, the count stays
pub good_from : (n : ℕ) (s : List ℕ) (at : ℕ) (r : Replay) → all_good_from n s at r ≡ true
    → (replayed_from n s at r).counts.mismatches ≡ r.counts.mismatches
unfolding replayed_from all_good_from good_at commanded_at
good_from zero s at r e = refl
good_from (suc n) s at r e =
    let (here, rest) = both_true (good_at s at r) _ e in
    good_from n s (at + 8) (commanded_at s at r) rest
    ∙ command_mismatches r _ _ _
    ∙ ap (λ (t : Bool). cond t r.counts.mismatches (raised r.counts.mismatches)) here

-- a part of the file
pub none_in_part : (s : List ℕ) (r : Replay) → (replayed s r).counts.mismatches ≡ 0
    → (length s % 8 ≡ 0) × (all_good_from (length s / 8) s 0 r ≡ true) × (r.counts.mismatches ≡ 0)
unfolding replayed after_judging
none_in_part s r e =
    let (whole, after) = none_left (eqb (length s % 8) 0) _ (sym (judged_mismatches false (eqb (length s % 8) 0) _) ∙ e) in
    let (all, before) = none_from (length s / 8) s 0 r after in
    (eqb-true _ _ whole, all, before)

-- the whole file: its end was read
pub none_in_file : (c : Counts) → (finished c).mismatches ≡ 0 → (c.ended ≡ true) × (c.mismatches ≡ 0)
unfolding finished
none_in_file c e = none_left c.ended c.mismatches (sym (judged_mismatches false c.ended c) ∙ e)
