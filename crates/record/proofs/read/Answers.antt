-- `record::read` meets its contract, by the cases of Answers.
use mathlib.Core.Path.{ap, sym, ◌∙◌}
use Rattle.machine.specs.Machine.{fit_with}
use Rattle.machine.specs.declared.State.{State}
use Rattle.record.proofs.Answers.{unreadable, readable, readable_room, read_wrong_length, read_wrong_kind, read_unfit, read_accepted}
use Rattle.record.proofs.read.Goals as goal

pub returns-then-bytes : goal.returns-then-bytes
returns-then-bytes c =
    let s = c.args.bytes.now in
    let answer = read_wrong_length s (unreadable s c.if-bytes.true) in
    record { refusal = answer.0; processor = answer.1; timer = answer.2 }

pub kinds_in_place-requires : goal.kinds_in_place-requires
kinds_in_place-requires c = let s = c.args.bytes.now in readable_room s (readable s c.if-bytes.false)

pub returns-then-not-kinds_in_place : goal.returns-then-not-kinds_in_place
returns-then-not-kinds_in_place c =
    let s = c.args.bytes.now in
    let answer = read_wrong_kind s (readable s c.if-bytes.false) (sym c.kinds_in_place.ensures ∙ c.if-not-kinds_in_place.true) in
    record { refusal = answer.0; processor = answer.1; timer = answer.2 }

pub get-state-requires : goal.get-state-requires
get-state-requires c = let s = c.args.bytes.now in readable_room s (readable s c.if-bytes.false)

pub returns-then-is_fit : goal.returns-then-is_fit
returns-then-is_fit c =
    let s = c.args.bytes.now in
    let held = c.get-state.ensures in
    let kinds = sym c.kinds_in_place.ensures ∙ c.if-not-kinds_in_place.false in
    let fitness = ap (λ (t : State). fit_with t.processor t.timer) (sym held) ∙ sym c.is_fit.ensures ∙ c.if-is_fit.true in
    let answer = read_accepted s (readable s c.if-bytes.false) kinds fitness in
    record { refusal = answer.0; processor = ap (λ (t : State). t.processor) held ∙ answer.1; timer = ap (λ (t : State). t.timer) held ∙ answer.2 }

pub returns-else-is_fit : goal.returns-else-is_fit
returns-else-is_fit c =
    let s = c.args.bytes.now in
    let kinds = sym c.kinds_in_place.ensures ∙ c.if-not-kinds_in_place.false in
    let unfit = ap (λ (t : State). fit_with t.processor t.timer) (sym c.get-state.ensures) ∙ sym c.is_fit.ensures ∙ c.if-is_fit.false in
    let answer = read_unfit s (readable s c.if-bytes.false) kinds unfit in
    record { refusal = answer.0; processor = answer.1; timer = answer.2 }
