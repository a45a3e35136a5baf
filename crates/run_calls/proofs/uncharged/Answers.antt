-- `run_calls::uncharged` meets its contract, which is that of `run_calls::call` without charges, and without its charge.
use mathlib.Core.Path.{ap, ◌∙◌}
use Rattle.memory.specs.Map.{memory}
use Rattle.run_loop.specs.Run.{Answer}
use Rattle.run_calls.specs.Runs.{Called}
use Rattle.run_calls.proofs.CallLaws.{left_out}
use Rattle.run_calls.proofs.uncharged.Goals as goal

pub returns : goal.returns
returns c =
    let m = memory c.call.new.ram c.args.rom.now c.call.new.belt in
    let called_with : Answer → Called = λ a. record { buffer = c.call.new.machine; memory = m; answer = a } in
    left_out _ _ _ _ _ (ap called_with (c.into.ensures ∙ c.from.ensures) ∙ c.call.ensures)
