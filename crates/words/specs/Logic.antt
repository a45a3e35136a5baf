-- Boolean and, Boolean or, and what holds exactly if something else does, for the definitions of the crates above.
use Rattle.std.specs.Prelude.{Bool, true, false}

-- both tests pass
abbrev pub both : Bool → Bool → Bool
both true t = t
both false t = false

-- one test passes at least
abbrev pub either : Bool → Bool → Bool
either true t = true
either false t = t

-- the one holds exactly if the other does
abbrev pub Exactly : Type 0 → Type 0 → Type 0
Exactly A B = (A → B) × (B → A)
