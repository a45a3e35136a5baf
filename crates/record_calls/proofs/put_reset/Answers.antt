-- `record_calls::put_reset` meets its contract, by the laws of RecordLaws.
use mathlib.Core.Path.{ap, ◌∙◌}
use Rattle.machine.specs.declared.State.{State}
use Rattle.record_calls.proofs.RecordLaws.{reset_refused, reset_done, reset_index, reset_control}
use Rattle.record_calls.proofs.put_reset.Goals as goal

pub returns-then-machine-ne-LENGTH : goal.returns-then-machine-ne-LENGTH
returns-then-machine-ne-LENGTH c =
    let (refusal, buffer) = reset_refused c.args.machine.now c.if-machine-ne-LENGTH.true in
    record { refusal = refusal; buffer = buffer }

pub put-requires : goal.put-requires
put-requires c =
    let e = c.reset.ensures in
    (c.if-machine-ne-LENGTH.false, reset_index _ (ap (λ (s : State). s.processor) e), reset_control _ (ap (λ (s : State). s.timer) e))

pub returns : goal.returns
returns c =
    let e = c.reset.ensures in
    let done = reset_done c.args.machine.now c.if-machine-ne-LENGTH.false (ap (λ (s : State). s.processor) e) (ap (λ (s : State). s.timer) e) in
    record { refusal = done.0; buffer = c.put.ensures ∙ done.1 }
