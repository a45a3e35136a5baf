-- `transfer::transfer` meets its contract: each arm is its row of the table, by the laws of Loads.
use mathlib.Core.Path.{refl, ◌∙◌}
use native.Mathlib.Omega.{arith}
use Rattle.words.specs.Numbers.{zero_extend, sign_extend}
use Rattle.memory.specs.Access.{access_width}
use Rattle.transfer.specs.Transfer.{transfers}
use Rattle.transfer.proofs.Loads.{loads, stores, none_left}
use Rattle.transfer.proofs.transfer.Goals as goal

pub returns-in-0 : goal.returns-in-0
unfolding access_width transfers
returns-in-0 c =
    loads _ _ 4 (λ v. v) _ c.in-0.is refl c.address_of-address.ensures c.read.ensures
    c.land.ensures

pub returns-in-1 : goal.returns-in-1
unfolding access_width transfers
returns-in-1 c =
    loads _ _ 2 (sign_extend 16) _ c.in-1.is refl c.address_of-address.ensures c.read-in-1.ensures
    c.land-in-1.ensures

pub returns-in-2 : goal.returns-in-2
unfolding access_width transfers
returns-in-2 c =
    loads _ _ 2 (zero_extend 16) _ c.in-2.is refl c.address_of-address.ensures c.read-in-2.ensures
    c.land-in-2.ensures

pub returns-in-3 : goal.returns-in-3
unfolding access_width transfers
returns-in-3 c =
    loads _ _ 1 (sign_extend 8) _ c.in-3.is refl c.address_of-address.ensures c.read-in-3.ensures
    c.land-in-3.ensures

pub returns-in-4 : goal.returns-in-4
unfolding access_width transfers
returns-in-4 c =
    loads _ _ 1 (zero_extend 8) _ c.in-4.is refl c.address_of-address.ensures c.read-in-4.ensures
    c.land-in-4.ensures

pub returns-in-5-to-7 : goal.returns-in-5-to-7
returns-in-5-to-7 c = stores _ _ c.args.kind c.store.ensures c.stored.ensures c.address_of-address.ensures (omega arith) (omega arith)

pub returns-in_default : goal.returns-in_default
returns-in_default c = c.illegal.ensures ∙ none_left _ _ _ (omega arith)
