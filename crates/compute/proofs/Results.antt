-- Each computation writes a register and goes on to the next instruction, or names a fault up to 25 that leaves no address.
use mathlib.Core.Path.{◌≡◌, refl}
use Prim.Native.Nat.{ℕ, ◌^◌, ◌≤◌, ◌<◌}
use native.Mathlib.Omega.{arith}
use lib.Dec.{eqb}
use Rattle.words.specs.Lists.{Every}
use Rattle.words.proofs.Cases.{chosen}
use Rattle.words.proofs.Every.{◌&◌}
use Rattle.sums.proofs.Sizes.{sum_lt, difference_lt, signed_product_lt, unsigned_product_lt, zero_16_lt}
use Rattle.quotients.proofs.Sizes.{signed_quotient_lt, unsigned_quotient_lt, signed_remainder_lt, unsigned_remainder_lt}
use Rattle.bitwise.proofs.Sizes.{and_lt, or_lt, xor_lt, xnor_lt}
use Rattle.shifts.proofs.Sizes.{shift_left_lt, shift_right_lt, shift_arithmetic_lt, load_high_lt}
use Rattle.tlb.specs.Lookup.{no_slot}
use Rattle.instructions.specs.Operands.{Operands, Simple}
use Rattle.instructions.specs.Action.{Action, Write, Store, System, Exception}
use Rattle.instructions.proofs.Words.{Words}
use Rattle.compute.specs.Compute.{unless_zero, computations}

-- there is no data access, and of operands that are words the result is a word
abbrev pub Computed : Operands → Action → Type 0
Computed o (Write n v next slot) = (next ≡ o.next) × (slot ≡ no_slot) × (Words o → v < 2 ^ 32)
Computed o (Store width physical v slot) = ⊥
Computed o (System i) = ⊥
Computed o (Exception eid address) = (eid ≤ 25) × (address ≡ 0)

abbrev pub Computes : Simple → Type 0
Computes f = (o : Operands) → Computed o (f o)

division : (o : Operands) (divisor n v : ℕ) → (Words o → v < 2 ^ 32) → Computed o (unless_zero divisor (Write n v o.next no_slot))
unfolding unless_zero
division o divisor n v h = chosen (Computed o) (eqb divisor 0) (omega arith, refl) (refl, refl, h)

-- a line has an instruction and its form with an immediate; the last has 1E and LDHI
pub every_computes : Every Computes computations
unfolding computations
every_computes =
    (λ o. (refl, refl, λ h. sum_lt _ _)) & (λ o. (refl, refl, λ h. sum_lt _ _))
    & (λ o. (refl, refl, λ h. difference_lt _ _)) & (λ o. (refl, refl, λ h. difference_lt _ _))
    & (λ o. (refl, refl, λ h. signed_product_lt _ _)) & (λ o. (refl, refl, λ h. signed_product_lt _ _))
    & (λ o. (refl, refl, λ h. unsigned_product_lt _ _)) & (λ o. (refl, refl, λ h. unsigned_product_lt _ _))
    & (λ o. division o _ _ _ (λ h. signed_quotient_lt _ _)) & (λ o. division o _ _ _ (λ h. signed_quotient_lt _ _))
    & (λ o. division o _ _ _ (λ h. unsigned_quotient_lt _ _ h.x)) & (λ o. division o _ _ _ (λ h. unsigned_quotient_lt _ _ h.x))
    & (λ o. division o _ _ _ (λ h. signed_remainder_lt _ _)) & (λ o. division o _ _ _ (λ h. signed_remainder_lt _ _))
    & (λ o. division o _ _ _ (λ h. unsigned_remainder_lt _ _ h.x)) & (λ o. division o _ _ _ (λ h. unsigned_remainder_lt _ _ h.x))
    & (λ o. (refl, refl, λ h. and_lt _ _ h.x h.y)) & (λ o. (refl, refl, λ h. and_lt _ _ h.x (zero_16_lt o.word)))
    & (λ o. (refl, refl, λ h. or_lt _ _ h.x h.y)) & (λ o. (refl, refl, λ h. or_lt _ _ h.x (zero_16_lt o.word)))
    & (λ o. (refl, refl, λ h. xor_lt _ _ h.x h.y)) & (λ o. (refl, refl, λ h. xor_lt _ _ h.x (zero_16_lt o.word)))
    & (λ o. (refl, refl, λ h. xnor_lt _ _)) & (λ o. (refl, refl, λ h. xnor_lt _ _))
    & (λ o. (refl, refl, λ h. shift_left_lt _ _)) & (λ o. (refl, refl, λ h. shift_left_lt _ _))
    & (λ o. (refl, refl, λ h. shift_right_lt _ _ h.x)) & (λ o. (refl, refl, λ h. shift_right_lt _ _ h.x))
    & (λ o. (refl, refl, λ h. shift_arithmetic_lt _ _)) & (λ o. (refl, refl, λ h. shift_arithmetic_lt _ _))
    & (λ o. (omega arith, refl)) & (λ o. (refl, refl, λ h. load_high_lt _))
    & tt
