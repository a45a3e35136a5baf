-- A processor that takes over the register and the PC of a write to it is the one that the write hands back, past the replacement index that a loop keeps.
use mathlib.Core.Path.{◌≡◌, refl, ap, ◌∙◌}
use mathlib.Core.List.{List, [], ◌∷◌}
use Prim.Native.Nat.{ℕ, zero, suc, ◌+◌, ◌%◌}
use native.Mathlib.Numerals.{add-one}
use lib.ListN.{get_or, set}
use borrow.Author.Tests.{ne_eqb}
use Rattle.tlb.specs.Lookup.{replacement_after}
use Rattle.processor.specs.declared.Processor.{Processor}
use Rattle.processor.specs.State.{with_registers, with_pc}
use Rattle.processor.specs.Register.{put, written}
use Rattle.processor.specs.Tlb.{index_moved}
use Rattle.run_loop.specs.Run.{indexed}

-- a place written, and written once more with what it then holds
set_again : (l : List ℕ) (i v : ℕ) → set l i (get_or (set l i v) i 0) ≡ set l i v
set_again [] i v = refl
set_again (x ∷ l) zero v = refl
set_again (x ∷ l) (suc i) v = ap (λ (k : List ℕ). x ∷ k) (set_again l i v)

-- the same for a register other than 0
put_again : (l : List ℕ) (n v value : ℕ) → (n % 32 ≡ 0 → ⊥) → value ≡ get_or (put l n v) (n % 32) 0 → set l (n % 32) value ≡ put l n v
unfolding put
put_again l n v value other e = rw (e, ne_eqb (n % 32) 0 other) (set_again l (n % 32) v)

module _ (first made : ℕ) where
  -- an action done but for the index, and then the step's move
  moves_on : (q r : Processor) → indexed first made q ≡ r → indexed first (made + 1) q ≡ index_moved r
  unfolding replacement_after
  moves_on q r e = ap (λ (n : ℕ). indexed first n q) (add-one made) ∙ ap index_moved e

  pub taken : (p : Processor) (n v next value pc : ℕ) → (n % 32 ≡ 0 → ⊥)
      → value ≡ get_or (written p n v next).registers (n % 32) 0 → pc ≡ (written p n v next).pc
      → indexed first (made + 1) (with_pc (with_registers p (set p.registers (n % 32) value)) pc) ≡ index_moved (written (indexed first made p) n v next)
  unfolding written
  taken p n v next value pc other e f =
      moves_on (with_pc (with_registers p (set p.registers (n % 32) value)) pc) _
      (λ i. with_pc (with_registers (indexed first made p) (put_again p.registers n v value other e i)) (f i))
