-- The cases of reading a machine's buffer, whose length is the one that is written.
use mathlib.Core.Path.{◌≡◌, refl, ap, ◌∙◌}
use mathlib.Core.List.{List}
use Prim.Native.Nat.{ℕ}
use lib.ListN.{length}
use borrow.Author.Tests.{ne_eqb, eqb-true}
use Rattle.timer.specs.Timer.{timer_at_reset}
use Rattle.timer.specs.declared.Timer.{Timer}
use Rattle.processor.specs.declared.Processor.{Processor}
use Rattle.processor.specs.State.{at_reset}
use Rattle.refusals.proofs.FirstFailed.{all_pass}
use Rattle.record.specs.Calls.{read_refusal, processor_unless, timer_unless, processor_read, timer_read, machine_tests, machine_refusal}

module _ (s : List ℕ) where
  pub machine_wrong_length : (length s ≡ 424 → ⊥)
      → (4 ≡ machine_refusal s) × (at_reset ≡ processor_unless (machine_refusal s) s) × (timer_at_reset ≡ timer_unless (machine_refusal s) s)
  unfolding machine_refusal
  machine_wrong_length h = (rw (ne_eqb _ _ h), rw (ne_eqb _ _ h), rw (ne_eqb _ _ h))

  -- at that length, as any record
  pub machine_as_record : length s ≡ 424 → read_refusal s ≡ machine_refusal s
  unfolding read_refusal machine_refusal
  machine_as_record e = rw e

  pub machine_read : length s ≡ 424 → {r : ℕ} {p : Processor} {t : Timer} → r ≡ read_refusal s → p ≡ processor_read s → t ≡ timer_read s
      → (r ≡ machine_refusal s) × (p ≡ processor_unless (machine_refusal s) s) × (t ≡ timer_unless (machine_refusal s) s)
  unfolding processor_read timer_read
  machine_read e a b c =
      let same = machine_as_record e in
      (a ∙ same, b ∙ ap (λ (n : ℕ). processor_unless n s) same, c ∙ ap (λ (n : ℕ). timer_unless n s) same)

  -- an accepted one is an accepted record of that length
  pub machine_accepted : machine_refusal s ≡ 0 → (length s ≡ 424) × (read_refusal s ≡ 0)
  unfolding machine_refusal
  machine_accepted e =
      let size = eqb-true _ _ (all_pass (machine_tests s) refl e).0 in
      (size, machine_as_record size ∙ e)
