-- `machines::alike` meets its contract: the test that the derives make is the test of the definitions.
use mathlib.Core.Path.{◌∙◌}
use Rattle.machines.proofs.Equal.{states_tested}
use Rattle.machines.proofs.alike.Goals as goal

pub returns : goal.returns
returns c = c.eq.ensures ∙ states_tested c.args.a c.args.b
