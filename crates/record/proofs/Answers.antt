-- The cases of reading and of writing: each refusal with what it hands back, and success.
use mathlib.Core.Path.{◌≡◌, refl, ap, ◌∙◌}
use mathlib.Core.Bool.{Bool, true, false, not, cond, ◌&&◌}
use mathlib.Core.List.{List}
use Prim.Native.Nat.{ℕ, ◌≤◌}
use native.Mathlib.Omega.{arith}
use lib.Dec.{eqb}
use lib.ListN.{length}
use borrow.Author.Tests.{eqb-true, eq-eqb, ne_eqb, not-true, not-false}
use Rattle.words.specs.Logic.{either}
use Rattle.timer.specs.Timer.{timer_at_reset}
use Rattle.timer.specs.declared.Timer.{Timer}
use Rattle.processor.specs.declared.Processor.{Processor}
use Rattle.processor.specs.State.{at_reset}
use Rattle.machine.specs.Machine.{fit_with}
use Rattle.record_layout.specs.Record.{record_of, kinds_in_place, processor_of, timer_of}
use Rattle.record.specs.Calls.{record_tests, read_refusal, processor_unless, timer_unless, processor_read, timer_read, write_refusal, buffer_after}
use Rattle.refusals.proofs.FirstFailed.{all_pass}
use Rattle.record.proofs.Fitness.{reset_fits}

-- ---- the lengths of a record that is read

abbrev pub readable_length : List ℕ → Bool
readable_length s = either (eqb (length s) 414) (eqb (length s) 424)

-- as the code tests them
abbrev neither_length : List ℕ → Bool
neither_length s = not (eqb (length s) 414) && not (eqb (length s) 424)

neither_length_lem : (s : List ℕ) → not (readable_length s) ≡ neither_length s
neither_length_lem s = go (eqb (length s) 414)
  where
    go : (a : Bool) → not (either a (eqb (length s) 424)) ≡ (not a && not (eqb (length s) 424))
    go true = refl
    go false = refl

pub unreadable : (s : List ℕ) → neither_length s ≡ true → readable_length s ≡ false
unreadable s e = not-true (readable_length s) (neither_length_lem s ∙ e)

pub readable : (s : List ℕ) → neither_length s ≡ false → readable_length s ≡ true
readable s e = not-false (readable_length s) (neither_length_lem s ∙ e)

pub readable_old : (s : List ℕ) → length s ≡ 414 → readable_length s ≡ true
readable_old s e = rw e

pub readable_whole : (s : List ℕ) → length s ≡ 424 → readable_length s ≡ true
readable_whole s e = rw e

-- each has room for a processor
pub readable_room : (s : List ℕ) → readable_length s ≡ true → 414 ≤ length s
readable_room s e = go (eqb (length s) 414) refl e
  where
    go : (a : Bool) → eqb (length s) 414 ≡ a → either a (eqb (length s) 424) ≡ true → 414 ≤ length s
    go true f e = omega (arith, eqb-true (length s) 414 f)
    go false f e = omega (arith, eqb-true (length s) 424 e)

-- ---- reading

module _ (s : List ℕ) where
  -- what a reading with a refusal number hands back
  handed : (n : ℕ) → n ≡ read_refusal s → (n ≡ read_refusal s) × (processor_unless n s ≡ processor_read s) × (timer_unless n s ≡ timer_read s)
  unfolding processor_read timer_read
  handed n e = (e, ap (λ (k : ℕ). processor_unless k s) e, ap (λ (k : ℕ). timer_unless k s) e)

  pub read_wrong_length : readable_length s ≡ false → (4 ≡ read_refusal s) × (at_reset ≡ processor_read s) × (timer_at_reset ≡ timer_read s)
  unfolding read_refusal
  read_wrong_length h = handed 4 (rw h)

  pub read_wrong_kind : readable_length s ≡ true → kinds_in_place s ≡ false
      → (5 ≡ read_refusal s) × (at_reset ≡ processor_read s) × (timer_at_reset ≡ timer_read s)
  unfolding read_refusal
  read_wrong_kind h k = handed 5 (rw (h, k))

  pub read_unfit : readable_length s ≡ true → kinds_in_place s ≡ true → fit_with (processor_of s) (timer_of s) ≡ false
      → (6 ≡ read_refusal s) × (at_reset ≡ processor_read s) × (timer_at_reset ≡ timer_read s)
  unfolding read_refusal
  read_unfit h k f = handed 6 (rw (h, k, f))

  pub read_accepted : readable_length s ≡ true → kinds_in_place s ≡ true → fit_with (processor_of s) (timer_of s) ≡ true
      → (0 ≡ read_refusal s) × (processor_of s ≡ processor_read s) × (timer_of s ≡ timer_read s)
  unfolding read_refusal
  read_accepted h k f = handed 0 (rw (h, k, f))

  -- 0 comes only where nothing is to refuse
  pub accepted_means : read_refusal s ≡ 0
      → (readable_length s ≡ true) × (kinds_in_place s ≡ true) × (fit_with (processor_of s) (timer_of s) ≡ true)
  unfolding read_refusal
  accepted_means e = let passed = all_pass (record_tests s) refl e in (passed.0, passed.1.0, passed.1.1.0)

  -- what a reading hands back is fit, the reset machine of a refused one too
  pub read_fit : fit_with (processor_read s) (timer_read s) ≡ true
  unfolding processor_read timer_read
  read_fit = go (eqb (read_refusal s) 0) refl
    where
      go : (t : Bool) → eqb (read_refusal s) 0 ≡ t → fit_with (cond t (processor_of s) at_reset) (cond t (timer_of s) timer_at_reset) ≡ true
      go true e = (accepted_means (eqb-true _ _ e)).2
      go false e = reset_fits

-- ---- writing

module _ (p : Processor) (t : Timer) (s : List ℕ) where
  -- what a writing with a refusal number leaves
  left : (n : ℕ) → n ≡ write_refusal p t s → (n ≡ write_refusal p t s) × (cond (eqb n 0) (record_of p t) s ≡ buffer_after p t s)
  unfolding buffer_after
  left n e = (e, ap (λ (k : ℕ). cond (eqb k 0) (record_of p t) s) e)

  pub write_wrong_length : (length s ≡ 424 → ⊥) → (4 ≡ write_refusal p t s) × (s ≡ buffer_after p t s)
  unfolding write_refusal
  write_wrong_length h = left 4 (rw (ne_eqb _ _ h))

  pub write_unfit : length s ≡ 424 → fit_with p t ≡ false → (6 ≡ write_refusal p t s) × (s ≡ buffer_after p t s)
  unfolding write_refusal
  write_unfit h f = left 6 (rw (eq-eqb _ _ h, f))

  pub write_accepted : length s ≡ 424 → fit_with p t ≡ true → (0 ≡ write_refusal p t s) × (record_of p t ≡ buffer_after p t s)
  unfolding write_refusal
  write_accepted h f = left 0 (rw (eq-eqb _ _ h, f))

  -- a refused writing leaves the buffer
  pub refused_leaves : (write_refusal p t s ≡ 0 → ⊥) → buffer_after p t s ≡ s
  unfolding buffer_after
  refused_leaves h = rw (ne_eqb _ _ h)
