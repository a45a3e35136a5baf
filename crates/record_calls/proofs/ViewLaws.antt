-- The exported page view, by the tests of the code; and of a record without the timer.
use mathlib.Core.Path.{◌≡◌, refl, ap, sym, ◌∙◌}
use mathlib.Core.Bool.{true, false, cond}
use mathlib.Core.List.{List, [], ◌∷◌, ◌++◌}
use Prim.Native.Nat.{ℕ}
use lib.Dec.{eqb}
use lib.ListN.{length}
use borrow.Author.Tests.{ne_eqb}
use Rattle.processor.specs.declared.Processor.{Processor}
use Rattle.processor.specs.State.{fit}
use Rattle.record_layout.specs.Record.{processor_of}
use Rattle.refusals.specs.Refusal.{Test, first_failed, ram_accepted, ram_test, fit_test, frame_test}
use Rattle.refusals.proofs.FirstFailed.{joined, first_refuses, first_passes, goes_on}
use Rattle.record.specs.Calls.{record_tests, read_refusal, processor_read}
use Rattle.record.proofs.Fitness.{both_fit}
use Rattle.record.proofs.Answers.{accepted_means, read_accepted}
use Rattle.record.proofs.OldRecords.{completed, same_processor_lem, same_refusal}
use Rattle.page_view.specs.View.{has_frame, looked_up, view_refusal, no_view, viewed_at, view_of}
use Rattle.record_calls.specs.Views.{call_view_refusal, call_view_of}

module _ (ram s : List ℕ) (page : ℕ) where
  pub view_wrong_length : ram_accepted (length ram) ≡ false → no_view 1 ≡ call_view_of ram s page
  unfolding call_view_of call_view_refusal
  view_wrong_length h = simp h

  module _ (accepted : ram_accepted (length ram) ≡ true) {q : ℕ} (read : q ≡ read_refusal s) where
    pub view_refused_record : (q ≡ 0 → ⊥) → no_view q ≡ call_view_of ram s page
    unfolding call_view_of call_view_refusal read_refusal
    view_refused_record h =
        let number = first_refuses (record_tests s) (frame_test (has_frame (length ram) (processor_of s) page) ∷ []) refl read h in
        rw (accepted, ← number) (simp (ne_eqb q 0 h))

    module _ (held : q ≡ 0) where
      -- the machine that was read is fit: what is left is cause 8
      refusal_same : view_refusal ram (processor_of s) page ≡ call_view_refusal ram s page
      unfolding view_refusal call_view_refusal read_refusal
      refusal_same =
          let frame : List Test = frame_test (has_frame (length ram) (processor_of s) page) ∷ [] in
          let fitting : first_failed (ram_test (length ram) ∷ fit_test (fit (processor_of s)) ∷ frame) ≡ first_failed frame =
          simp (accepted, (both_fit _ _ (accepted_means s (sym read ∙ held)).2).0) in
          fitting ∙ first_passes (record_tests s) frame refl read held ∙ goes_on (ram_test (length ram)) (record_tests s ++ frame) accepted

      pub view_answered : {p : Processor} → p ≡ processor_read s → view_of ram p page ≡ call_view_of ram s page
      unfolding view_of call_view_of
      view_answered e =
          let means = accepted_means s (sym read ∙ held) in
          ap (λ (k : Processor). view_of ram k page) (e ∙ sym (read_accepted s means.0 means.1 means.2).1)
          ∙ ap (λ (n : ℕ). viewed_at n (looked_up (processor_of s) page)) refusal_same

-- a record of 414 bytes is viewed as its 424 bytes with the timer at reset
module _ (ram s : List ℕ) (page : ℕ) where
  by_reading : (l : List ℕ)
      → call_view_refusal ram l page
      ≡ cond (ram_accepted (length ram)) (cond (eqb (read_refusal l) 0) (first_failed (frame_test (has_frame (length ram) (processor_of l) page) ∷ []))
      (read_refusal l)) 1
  unfolding call_view_refusal read_refusal
  by_reading l =
      ap (λ (n : ℕ). cond (ram_accepted (length ram)) n 1) (joined (record_tests l) (frame_test (has_frame (length ram) (processor_of l) page) ∷ []) refl)

  pub old_view : length s ≡ 414 → call_view_of ram (completed s) page ≡ call_view_of ram s page
  unfolding call_view_of
  old_view e = rw (by_reading (completed s), by_reading s, same_refusal s e, same_processor_lem s e)
