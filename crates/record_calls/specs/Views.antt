-- What the exported page view answers: the machine is read from its record (document 01, "Runs and views" and "Refused calls").
use Rattle.std.specs.Prelude.{List, [], ◌∷◌, ◌++◌, ℕ, length}
use Rattle.record_layout.specs.Record.{processor_of}
use Rattle.refusals.specs.Refusal.{Test, first_failed, ram_test, frame_test}
use Rattle.record.specs.Calls.{record_tests}
use Rattle.page_view.specs.View.{has_frame, looked_up, Viewed, viewed_at}

abbrev pub call_view_tests : List ℕ → List ℕ → ℕ → List Test
call_view_tests ram s page = ram_test (length ram) ∷ (record_tests s ++ (frame_test (has_frame (length ram) (processor_of s) page) ∷ []))

unfoldable pub call_view_refusal : List ℕ → List ℕ → ℕ → ℕ
call_view_refusal ram s page = first_failed (call_view_tests ram s page)

unfoldable pub call_view_of : List ℕ → List ℕ → ℕ → Viewed
call_view_of ram s page = viewed_at (call_view_refusal ram s page) (looked_up (processor_of s) page)
