-- The calls on records, by the tests of the code.
use mathlib.Core.Path.{◌≡◌, refl, ap, ap₂, sym, ◌∙◌}
use mathlib.Core.Bool.{Bool, true, false, cond}
use mathlib.Core.List.{List, ◌++◌}
use Prim.Native.Nat.{ℕ, ◌<◌}
use native.Mathlib.Omega.{arith}
use lib.ListN.{length, get_or}
use borrow.Author.Tests.{eqb-true, eq-eqb, ne_eqb}
use Rattle.refusals.proofs.FirstFailed.{all_pass}
use Rattle.timer.specs.Timer.{timer_at_reset}
use Rattle.timer.specs.declared.Timer.{Timer}
use Rattle.processor.specs.declared.Processor.{Processor}
use Rattle.processor.specs.State.{at_reset}
use Rattle.record_layout.specs.Record.{timer_item, record_of}
use Rattle.record.specs.Calls.{read_refusal, processor_read, timer_read}
use Rattle.record.proofs.Fitness.{index_fits, control_fits}
use Rattle.record.proofs.Answers.{readable_length, read_fit}
use Rattle.record.proofs.ReadWritten.{read_written, old_written}
use Rattle.record_calls.specs.Records.{copy_tests, reset_refusal, reset_buffer, copy_refusal, copy_buffer}

-- ---- reset

module _ (s : List ℕ) where
  pub reset_refused : (length s ≡ 424 → ⊥) → (4 ≡ reset_refusal s) × (s ≡ reset_buffer s)
  unfolding reset_refusal reset_buffer
  reset_refused h = (simp (ne_eqb (length s) 424 h), simp (ne_eqb (length s) 424 h))

  pub reset_done : length s ≡ 424 → {p : Processor} {t : Timer} → p ≡ at_reset → t ≡ timer_at_reset
      → (0 ≡ reset_refusal s) × (record_of p t ≡ reset_buffer s)
  unfolding reset_refusal reset_buffer
  reset_done h e f = (simp (eq-eqb (length s) 424 h), simp (eq-eqb (length s) 424 h) (ap₂ record_of e f))

-- replacement index and control at reset fit in their bytes
pub reset_index : (p : Processor) → p ≡ at_reset → p.replacement < 256
unfolding at_reset
reset_index p e = omega (arith, ap (λ (q : Processor). q.replacement) e)

pub reset_control : (t : Timer) → t ≡ timer_at_reset → t.control < 256
unfolding timer_at_reset
reset_control t e = omega (arith, ap (λ (u : Timer). u.control) e)

-- ---- reading and writing

module _ (s t : List ℕ) where
  -- the source's length and the buffer's are refused by one number
  pub copy_wrong_source : readable_length s ≡ false → (4 ≡ copy_refusal s t) × (t ≡ copy_buffer s t)
  unfolding copy_refusal copy_buffer
  copy_wrong_source h = (rw h, rw h)

  either_length : (length t ≡ 424 → ⊥) → 4 ≡ copy_refusal s t
  unfolding copy_refusal
  either_length h = rw (ne_eqb _ _ h) (go (readable_length s))
    where
      go : (b : Bool) → ◌≡◌ {A = ℕ} 4 (cond b 4 4)
      go true = refl
      go false = refl

  pub copy_wrong_buffer : (length t ≡ 424 → ⊥) → (4 ≡ copy_refusal s t) × (t ≡ copy_buffer s t)
  unfolding copy_buffer
  copy_wrong_buffer h = (either_length h, rw (← either_length h))

  module _ (k : length t ≡ 424) where
    -- with the buffer's length right, what is read decides
    as_read : read_refusal s ≡ copy_refusal s t
    unfolding read_refusal copy_refusal
    as_read = rw (eq-eqb _ _ k)

    module _ (r : ℕ) (e : r ≡ read_refusal s) where
      pub copy_refused : (r ≡ 0 → ⊥) → (r ≡ copy_refusal s t) × (t ≡ copy_buffer s t)
      unfolding copy_buffer
      copy_refused refused = (e ∙ as_read, rw (← as_read, ← e) (simp (ne_eqb r 0 refused)))

      pub copy_done : r ≡ 0 → {p : Processor} {u : Timer} → p ≡ processor_read s → u ≡ timer_read s
          → (0 ≡ copy_refusal s t) × (record_of p u ≡ copy_buffer s t)
      unfolding copy_buffer
      copy_done accepted f g = (sym accepted ∙ e ∙ as_read, rw (← as_read, ← e) (simp (eq-eqb r 0 accepted) (ap₂ record_of f g)))

-- an accepted copy is of an accepted record
copy_accepted : (s t : List ℕ) → copy_refusal s t ≡ 0 → read_refusal s ≡ 0
unfolding copy_refusal
copy_accepted s t e = as_read s t (eqb-true _ _ (all_pass (copy_tests s t) refl e).1.0) ∙ e

-- a machine that was read has an index and a control that fit in their bytes
pub read_index : (s : List ℕ) {p : Processor} → p ≡ processor_read s → p.replacement < 256
read_index s e = omega (arith, index_fits _ _ (read_fit s), ap (λ (q : Processor). q.replacement) e)

pub read_control : (s : List ℕ) {t : Timer} → t ≡ timer_read s → t.control < 256
read_control s e = omega (arith, control_fits _ _ (read_fit s), ap (λ (u : Timer). u.control) e)

-- ---- what is read or written is the source's bytes, and the timer's item where they have none

module _ (s t : List ℕ) (bytes : (j : ℕ) → get_or s j 0 < 256) (e : copy_refusal s t ≡ 0) where
  pub copied_same : length s ≡ 424 → copy_buffer s t ≡ s
  unfolding copy_buffer
  copied_same k = rw e (read_written s bytes k (copy_accepted s t e))

  pub copied_completed : length s ≡ 414 → copy_buffer s t ≡ s ++ timer_item timer_at_reset
  unfolding copy_buffer
  copied_completed k = rw e (old_written s bytes k (copy_accepted s t e))
