-- The last arm of the match on an opcode: 1E is illegal, and there is no opcode of this table from 20 on.
use mathlib.Core.Path.{◌≡◌, refl, ap, sym}
use Prim.Native.Nat.{ℕ, ◌≤◌}
use native.Mathlib.Omega.{arith}
use lib.ListN.{get_or, get_or-eq_default}
use Rattle.words.proofs.Cases.{below_or_not}
use Rattle.instructions.specs.Operands.{Operands, Simple, illegal}
use Rattle.compute.specs.Compute.{computations}
use Rattle.instructions.proofs.Arms.{arm, Nots, beyond}

pub computation_illegal : (op : ℕ) (o : Operands) → 16 ≤ op → Nots op 16 14 → (op ≡ 31 → ⊥) → illegal o ≡ get_or computations op illegal o
unfolding computations
computation_illegal op o h none other =
    let far : 30 ≤ op = beyond op 16 14 h none in
    below_or_not op 31
    (λ l. arm (λ (n : ℕ). get_or computations n illegal o) {op = op} {k = 30} (omega arith) refl)
    (λ l. ap (λ (f : Simple). f o) (sym (get_or-eq_default computations illegal {n = op} (omega arith))))
