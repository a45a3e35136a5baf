-- `load_store::bytes_of` meets its contract, by the laws of Widths.
use mathlib.Core.Path.{sym}
use Rattle.load_store.proofs.Widths.{width_one, width_two, width_four}
use Rattle.load_store.proofs.bytes_of.Goals as goal

pub returns-in-1 : goal.returns-in-1
returns-in-1 c = sym (width_one _ c.in-1.is)

pub returns-in-2 : goal.returns-in-2
returns-in-2 c = sym (width_two _ c.in-2.is)

pub returns-in_default : goal.returns-in_default
returns-in_default c = sym (width_four _ c.in_default.in_default-own.rest.0.1 c.in_default.in_default-own.rest.1)
