-- What the exported calls on records do: reset, read and write (document 01, "Refused calls"; document 02, job 1). The machine travels as its
-- record.
use Rattle.std.specs.Prelude.{cond, List, [], ◌∷◌, ℕ, eqb}
use Rattle.timer.specs.Timer.{timer_at_reset}
use Rattle.processor.specs.State.{at_reset}
use Rattle.record_layout.specs.Record.{record_of}
use Rattle.refusals.specs.Refusal.{Test, first_failed}
use Rattle.record.specs.Calls.{whole, readable, content_tests, processor_read, timer_read}

-- a buffer after a call that writes it: a refused one leaves it as it was
abbrev pub unless_refused : ℕ → List ℕ → List ℕ → List ℕ
unless_refused refusal written buffer = cond (eqb refusal 0) written buffer

-- ---- reset: the record of the reset machine

abbrev pub reset_tests : List ℕ → List Test
reset_tests buffer = whole buffer ∷ []

unfoldable pub reset_refusal : List ℕ → ℕ
reset_refusal buffer = first_failed (reset_tests buffer)

unfoldable pub reset_buffer : List ℕ → List ℕ
reset_buffer buffer = unless_refused (reset_refusal buffer) (record_of at_reset timer_at_reset) buffer

-- ---- reading a record into a machine's buffer, and writing a machine into a record's

-- both lengths, and then what is read
abbrev pub copy_tests : List ℕ → List ℕ → List Test
copy_tests from buffer = readable from ∷ whole buffer ∷ content_tests from

unfoldable pub copy_refusal : List ℕ → List ℕ → ℕ
copy_refusal from buffer = first_failed (copy_tests from buffer)

unfoldable pub copy_buffer : List ℕ → List ℕ → List ℕ
copy_buffer from buffer = unless_refused (copy_refusal from buffer) (record_of (processor_read from) (timer_read from)) buffer
