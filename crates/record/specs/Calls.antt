-- What reading and writing a record answer (document 01, "Refused calls"; document 02, job 1): the number, and the machine or the buffer.
use Rattle.std.specs.Prelude.{cond, List, [], ◌∷◌, ℕ, eqb, length}
use Rattle.words.specs.Logic.{either}
use Rattle.timer.specs.Timer.{timer_at_reset}
use Rattle.timer.specs.declared.Timer.{Timer}
use Rattle.processor.specs.declared.Processor.{Processor}
use Rattle.processor.specs.State.{at_reset}
use Rattle.machine.specs.Machine.{fit_with}
use Rattle.refusals.specs.Refusal.{Test, first_failed, length_test, kinds_test, fit_test}
use Rattle.record_layout.specs.Layout.{record_length, old_length}
use Rattle.record_layout.specs.Record.{record_of, kinds_in_place, processor_of, timer_of}

-- a list of bytes is as long as a record that is written
abbrev pub whole : List ℕ → Test
whole s = length_test (eqb (length s) record_length)

-- or as a record that is read: with the timer, or without it
abbrev pub readable : List ℕ → Test
readable s = length_test (either (eqb (length s) old_length) (eqb (length s) record_length))

-- of what such a list holds
abbrev pub content_tests : List ℕ → List Test
content_tests s = kinds_test (kinds_in_place s) ∷ fit_test (fit_with (processor_of s) (timer_of s)) ∷ []

-- of a record that is read
abbrev pub record_tests : List ℕ → List Test
record_tests s = readable s ∷ content_tests s

unfoldable pub read_refusal : List ℕ → ℕ
read_refusal s = first_failed (record_tests s)

-- a refused reading hands back the reset machine
abbrev pub processor_unless : ℕ → List ℕ → Processor
processor_unless refusal s = cond (eqb refusal 0) (processor_of s) at_reset

abbrev pub timer_unless : ℕ → List ℕ → Timer
timer_unless refusal s = cond (eqb refusal 0) (timer_of s) timer_at_reset

unfoldable pub processor_read : List ℕ → Processor
processor_read s = processor_unless (read_refusal s) s

unfoldable pub timer_read : List ℕ → Timer
timer_read s = timer_unless (read_refusal s) s

-- of a machine's buffer that is read and then written: it has the length that is written
abbrev pub machine_tests : List ℕ → List Test
machine_tests s = whole s ∷ content_tests s

unfoldable pub machine_refusal : List ℕ → ℕ
machine_refusal s = first_failed (machine_tests s)

-- of a processor with its timer, and the buffer for their record
abbrev pub write_tests : Processor → Timer → List ℕ → List Test
write_tests p t s = whole s ∷ fit_test (fit_with p t) ∷ []

unfoldable pub write_refusal : Processor → Timer → List ℕ → ℕ
write_refusal p t s = first_failed (write_tests p t s)

-- a refused writing leaves the buffer as it was
unfoldable pub buffer_after : Processor → Timer → List ℕ → List ℕ
buffer_after p t s = cond (eqb (write_refusal p t s) 0) (record_of p t) s
