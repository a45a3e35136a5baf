-- `machine::State::is_fit` meets its contract, by its definition.
use Rattle.machine.proofs.Tests.{fit_with_lem}
use Rattle.machine.proofs.State.is_fit.Goals as goal

pub returns : goal.returns
returns c = fit_with_lem _ _ c.is_fit.ensures c.is_fit-2.ensures
