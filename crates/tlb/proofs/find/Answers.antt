-- `tlb::find` meets its contract: the position of the first entry with the page is the lookup's.
use Rattle.std.proofs.Common.{rules, ◌≡◌, ◌/◌, ◌∙◌}
use borrow.Author.Tests.{tests}
use Rattle.std.proofs.lemmas.Iterator.{YieldsList-from_slice, IsFirst-from_position}
use Rattle.tlb.proofs.Lowest.{position_lookup}
use Rattle.tlb.proofs.find.Goals as goal

pub returns : goal.returns
returns c =
    c.unwrap_or.ensures
    ∙ position_lookup c.args.highs.now c.args.page c.position.result c.told-highs
    (IsFirst-from_position _ _ _ (λ high. high / 4096 ≡ c.args.page) (λ high. high / 4096 ≡ c.args.page → ⊥) c.position.ensures.ran
    (YieldsList-from_slice c.args.highs.now c.iter.ensures.rest) (λ x q k. search (rules, tests)) (λ x q k. search (rules, tests)))
