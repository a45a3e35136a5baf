-- The record of a processor and its timer, written into a buffer of its length, compared with the expected bytes.
use mathlib.Core.Path.{◌≡◌, refl}
use mathlib.Core.Bool.{Bool, true, false, cond, ◌&&◌}
use mathlib.Core.List.{List}
use Prim.Native.Nat.{ℕ}
use lib.Dec.{eqb}
use lib.ListN.{length}
use borrow.Author.Tests.{eq-eqb}
use Rattle.std.specs.Prelude.{Result, Ok, Err}
use Rattle.std.specs.Result.{is_ok}
use Rattle.words.specs.Logic.{both}
use Rattle.refusals.specs.declared.Refusal.{Refusal}
use Rattle.refusals.specs.declared.Refusal.TheVariants.{RamLength, RomLength, BeltLength, RecordLength, KindByte, Unfit, TooManySteps, NoFrame, ChargesLength}
use Rattle.refusals.specs.Code.{answer_number}
use Rattle.timer.specs.declared.Timer.{Timer}
use Rattle.processor.specs.declared.Processor.{Processor}
use Rattle.machine.specs.Machine.{fit_with}
use Rattle.record_layout.specs.Record.{record_of}
use Rattle.record.specs.Calls.{write_refusal, buffer_after}
use Rattle.byte_slices.specs.Same.{same}
use Rattle.expected.specs.Expected.{record_agrees}

-- an answer is accepted exactly where its number is 0
pub accepted : {A : Type 0} (r : Result A Refusal) → is_ok r ≡ eqb (answer_number r) 0
accepted (Ok a) = refl
accepted (Err RamLength) = refl
accepted (Err RomLength) = refl
accepted (Err BeltLength) = refl
accepted (Err RecordLength) = refl
accepted (Err KindByte) = refl
accepted (Err Unfit) = refl
accepted (Err TooManySteps) = refl
accepted (Err NoFrame) = refl
accepted (Err ChargesLength) = refl

pub record_compared : (bytes s : List ℕ) (p : Processor) (t : Timer) (r : Result Unit Refusal) → length s ≡ 424
    → answer_number r ≡ write_refusal p t s → is_ok r && same (buffer_after p t s) bytes ≡ record_agrees bytes p t
unfolding record_agrees write_refusal buffer_after
record_compared bytes s p t r h e = rw (accepted r, e, eq-eqb _ _ h) (go (fit_with p t))
  where
    go : (b : Bool) → eqb (cond b 0 6) 0 && same (cond (eqb (cond b 0 6) 0) (record_of p t) s) bytes ≡ both b (same (record_of p t) bytes)
    go true = refl
    go false = refl
