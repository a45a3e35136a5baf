-- The arms of a match on an opcode, against a table of meanings: an arm with its number, and the arm of all the rest.
use mathlib.Core.Path.{◌≡◌, ap, sym, ◌∙◌}
use mathlib.Core.List.{List}
use Prim.Native.Nat.{ℕ, zero, suc, ◌+◌, ◌≤◌}
use native.Mathlib.Nat.{add-zero, add-suc}
use native.Mathlib.Omega.{arith}
use lib.ListN.{length, get_or, get_or-eq_default}

-- an arm for one number, or for one variant
pub arm {ℓ ℓ'} : {K : Type ℓ} {A : Type ℓ'} (table : K → A) {op k : K} {a : A} → op ≡ k → a ≡ table k → a ≡ table op
arm table e h = h ∙ ap table (sym e)

-- a number that is none of the n from b on, as the last arm of a match has it
abbrev pub Nots : ℕ → ℕ → ℕ → Type 0
Nots op b zero = Unit {0}
Nots op b (suc n) = Nots op b n × (op ≡ b + n → ⊥)

pub beyond : (op b n : ℕ) → b ≤ op → Nots op b n → b + n ≤ op
beyond op b zero h none = rw (add-zero b) h
beyond op b (suc n) h none =
    let far : b + n ≤ op = beyond op b n h none.0 in
    let other : op ≡ b + n → ⊥ = none.1 in
    rw (add-suc b n) (omega arith)

-- the last arm: past the end of a list every number has what stands for none
pub past {ℓ ℓ'} : {A : Type ℓ} {B : Type ℓ'} (at : A → B) (l : List A) (none : A) (op : ℕ) → Nots op 0 (length l) → at none ≡ at (get_or l op none)
past at l none op others =
    let far : 0 + length l ≤ op = beyond op 0 (length l) (omega arith) others in
    ap at (sym (get_or-eq_default l none {n = op} (omega arith)))
