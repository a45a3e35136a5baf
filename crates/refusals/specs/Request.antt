-- What a run is asked (document 01, "Runs and views"; document 02, job 3).
use Rattle.std.specs.Prelude.{Bool, true, false, ℕ}
use Rattle.charges.specs.Charges.{Charging, Uncharged}

-- the kinds: whether an accepted exception ends the run
abbrev pub plain : Bool
plain = false

abbrev pub to_exception : Bool
to_exception = true

-- the kind, the wanted steps, the interrupt lines, which are held for the run, and what it is charged by
pub record Request : Type 0 where
  pub kind : Bool
  pub wanted : ℕ
  pub lines : ℕ
  pub charging : Charging

abbrev pub request : Bool → ℕ → ℕ → Charging → Request
request kind wanted lines charging = record { kind = kind; wanted = wanted; lines = lines; charging = charging }

-- the same run without charging
abbrev pub without_charging : Request → Request
without_charging q = request q.kind q.wanted q.lines Uncharged
