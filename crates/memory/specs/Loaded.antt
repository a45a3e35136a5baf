-- What a load answers.
use Rattle.std.specs.Prelude.{ℕ}

-- a number, or the bus timeout
pub data Loaded : Type 0 where
  Value : ℕ → Loaded
  Timeout : Loaded
