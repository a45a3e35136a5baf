-- Helpers of the code's contracts: what its options stand for. No definition names them.
use Rattle.std.specs.Prelude.{Option, None, Some, ℕ}
use Rattle.timer.specs.declared.Timer.{Timer}
use Rattle.memory.specs.Loaded.{Loaded}
use Rattle.memory.specs.Loaded as loaded
use Rattle.memory.specs.Stored.{Stored}
use Rattle.memory.specs.Stored as stored

-- of a load: the number, or none where it times out
abbrev pub loaded_of : Option ℕ → Loaded
loaded_of (Some v) = loaded.Value v
loaded_of None = loaded.Timeout

-- of a store: the timer after it, or none where it times out and leaves the timer
abbrev pub stored_of : Option Timer → Stored
stored_of (Some t) = stored.Done
stored_of None = stored.Timeout
