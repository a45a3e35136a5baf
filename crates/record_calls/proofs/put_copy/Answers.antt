-- `record_calls::put_copy` meets its contract, by the laws of RecordLaws.
use mathlib.Core.Path.{◌≡◌, refl, ap, ◌∙◌}
use Rattle.std.proofs.Common.{rules}
use Rattle.std.specs.Prelude.{Err}
use Rattle.refusals.specs.Code.{answer_number}
use Rattle.refusals.proofs.Numbers.{never_accepted}
use Rattle.record_calls.proofs.RecordLaws.{copy_wrong_buffer, copy_refused, copy_done, read_index, read_control}
use Rattle.record_calls.proofs.put_copy.Goals as goal

pub returns-then-buffer-ne-LENGTH : goal.returns-then-buffer-ne-LENGTH
returns-then-buffer-ne-LENGTH c =
    let (refusal, buffer) = copy_wrong_buffer c.args.from.now c.args.buffer.now c.if-buffer-ne-LENGTH.true in
    record { refusal = refusal; buffer = buffer }

pub returns-in_err-state : goal.returns-in_err-state
returns-in_err-state c =
    let args = c.args in
    let cause = c.in_err-state.field-0.0 in
    let same : c.from_residual.result ≡ Err cause = search rules in
    let (refusal, buffer) = copy_refused args.from.now args.buffer.now c.if-buffer-ne-LENGTH.false _ c.in_err-state.ensures.refusal (never_accepted cause) in
    record { refusal = ap answer_number same ∙ refusal; buffer = buffer }

pub put-requires : goal.put-requires
put-requires c =
    let read = c.in_ok-state.ensures in
    (c.if-buffer-ne-LENGTH.false, read_index _ read.processor, read_control _ read.timer)

pub returns : goal.returns
returns c =
    let args = c.args in
    let read = c.in_ok-state.ensures in
    let done = copy_done args.from.now args.buffer.now c.if-buffer-ne-LENGTH.false 0 read.refusal refl read.processor read.timer in
    record { refusal = done.0; buffer = c.put.ensures ∙ done.1 }
