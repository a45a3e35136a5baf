-- In User Mode no instruction is a system operation, and a store goes where a writable user page allows it.
use mathlib.Core.Path.{◌≡◌, sym, ◌∙◌}
use mathlib.Core.Bool.{true, true≢false}
use Rattle.status.specs.Psw.{user_mode}
use Rattle.instructions.specs.Operands.{Surroundings, Operands}
use Rattle.instructions.specs.Action.{Action, Write, Store, System, Exception}
use Rattle.decode.specs.Table.{executed}
use Rattle.decode.proofs.Outcomes.{Granted, ComesTo, executed_comes}

-- what an instruction in User Mode may do
abbrev pub UserAction : Surroundings → Action → Type 0
UserAction s (Write n v next slot) = Unit {0}
UserAction s (Store width physical v slot) = Granted s width physical slot
UserAction s (System i) = ⊥
UserAction s (Exception eid address) = Unit {0}

module _ (s : Surroundings) (user : user_mode s.psw ≡ true) where
  allowed : (o : Operands) (a : Action) → ComesTo s o a → UserAction s a
  allowed o (Write n v next slot) h = tt
  allowed o (Store width physical v slot) h = h
  allowed o (System i) h = absurd (true≢false (sym user ∙ h.0))
  allowed o (Exception eid address) h = tt

  pub executed_user : (o : Operands) → UserAction s (executed s o)
  executed_user o = allowed o (executed s o) (executed_comes s o)
