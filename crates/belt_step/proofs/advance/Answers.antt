-- `belt_step::advance` meets its contract, by what `run_loop::step` ensures.
use Rattle.belt_step.proofs.LineLaws.{line_of_step, line_length}
use Rattle.belt_step.proofs.advance.Goals as goal

pub returns-clause-text : goal.returns-clause-text
returns-clause-text c = rw (c.put.ensures, c.line-row.ensures, line_of_step _ _ c.step-stepped.ensures, line_length)
