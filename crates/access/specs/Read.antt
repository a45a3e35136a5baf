-- What a read through the translation comes to.
use Rattle.std.specs.Prelude.{ℕ}

-- a value and the slot that served it, or a fault's identifier
pub data Read : Type 0 where
  Value : ℕ → ℕ → Read
  Fault : ℕ → Read
