-- Helpers of the code's contracts: its refusals and requests in the words of the definitions. No definition names them.
use Rattle.std.specs.Prelude.{Bool, ℕ, Result, Ok, Err}
use Rattle.charges.specs.Code.{charging_of}
use Rattle.refusals.specs.Request.{Request, request, plain, to_exception}
use Rattle.refusals.specs.declared.Kind.{Kind}
use Rattle.refusals.specs.declared.Kind.TheVariants.{Plain, ToException}
use Rattle.refusals.specs.declared.Refusal.{Refusal}
use Rattle.refusals.specs.declared.Refusal.TheVariants as refusals
use Rattle.refusals.specs.declared.Request as code

-- the number of each refusal in the table
abbrev pub refusal_number : Refusal → ℕ
refusal_number refusals.RamLength = 1
refusal_number refusals.RomLength = 2
refusal_number refusals.BeltLength = 3
refusal_number refusals.RecordLength = 4
refusal_number refusals.KindByte = 5
refusal_number refusals.Unfit = 6
refusal_number refusals.TooManySteps = 7
refusal_number refusals.NoFrame = 8
refusal_number refusals.ChargesLength = 9

-- what a call answers: 0 where it is accepted
abbrev pub answer_number : {A : Type 0} → Result A Refusal → ℕ
answer_number (Ok a) = 0
answer_number (Err e) = refusal_number e

abbrev pub kind_of : Kind → Bool
kind_of Plain = plain
kind_of ToException = to_exception

-- what is asked of a run
abbrev pub asked : code.Request → Request
asked q = request (kind_of q.kind) q.wanted q.lines (charging_of q.charges)
