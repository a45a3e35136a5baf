-- `refusals::whole_pages` meets its contract, by the law of Lengths.
use Rattle.refusals.proofs.Lengths.{pages}
use Rattle.refusals.proofs.whole_pages.Goals as goal

pub returns : goal.returns
returns c = pages _ _
