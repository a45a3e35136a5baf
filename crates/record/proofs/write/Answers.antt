-- `record::write` meets its contract, by the cases of Answers.
use mathlib.Core.Path.{sym, ◌∙◌}
use Rattle.record.proofs.Fitness.{index_fits, control_fits}
use Rattle.record.proofs.Answers.{write_wrong_length, write_unfit, write_accepted}
use Rattle.record.proofs.write.Goals as goal

pub returns-then-buffer-ne-LENGTH : goal.returns-then-buffer-ne-LENGTH
returns-then-buffer-ne-LENGTH c =
    let state = c.args.state in
    let (refusal, buffer) = write_wrong_length state.processor state.timer c.args.buffer.now c.if-buffer-ne-LENGTH.true in
    record { refusal = refusal; buffer = buffer }

pub returns-then-not-is_fit : goal.returns-then-not-is_fit
returns-then-not-is_fit c =
    let state = c.args.state in
    let unfit = sym c.is_fit.ensures ∙ c.if-not-is_fit.true in
    let (refusal, buffer) = write_unfit state.processor state.timer c.args.buffer.now c.if-buffer-ne-LENGTH.false unfit in
    record { refusal = refusal; buffer = buffer }

pub put-requires : goal.put-requires
put-requires c =
    let fitness = sym c.is_fit.ensures ∙ c.if-not-is_fit.false in
    (c.if-buffer-ne-LENGTH.false, index_fits _ _ fitness, control_fits _ _ fitness)

pub returns : goal.returns
returns c =
    let state = c.args.state in
    let fitness = sym c.is_fit.ensures ∙ c.if-not-is_fit.false in
    let answer = write_accepted state.processor state.timer c.args.buffer.now c.if-buffer-ne-LENGTH.false fitness in
    record { refusal = answer.0; buffer = c.put.ensures ∙ answer.1 }
