-- `cases::states::case_with` takes the first 424 of the bytes that it made.
use native.Mathlib.Omega.{arith}
use mathlib.Core.Path.{sym}
use lib.Seq.{length-take-le}
use Rattle.cases.proofs.states.case_with.Goals as goal

pub slice_bounds-get-end : goal.slice_bounds-get-end
slice_bounds-get-end c = sym (length-take-le 424 c.record_with-bytes.result (omega (arith, c.record_with-bytes.ensures)))

pub get-requires : goal.get-requires
get-requires c =
    let e = length-take-le 424 c.record_with-bytes.result (omega (arith, c.record_with-bytes.ensures)) in omega (arith, e)
