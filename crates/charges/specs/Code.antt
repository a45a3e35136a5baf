-- Helpers of the code's contracts: the code has a list of charges, or none. No definition names them.
use Rattle.std.specs.Prelude.{◌≡◌, List, ℕ, length, Option, Some, None}
use Rattle.std.specs.Borrow.{Bor}
use Rattle.charges.specs.Charges.{charges_length, Charging, Uncharged, ChargedBy}

-- what a run is charged by
abbrev pub charging_of : Option (Bor (List ℕ)) → Charging
charging_of None = Uncharged
charging_of (Some s) = ChargedBy s.now

-- the list of a charged run has been found to be whole
abbrev pub IsWhole : Option (Bor (List ℕ)) → Type 0
IsWhole None = Unit {0}
IsWhole (Some s) = length s.now ≡ charges_length
