-- Between ROM and the belt registers the timer's two registers answer words, and nothing else answers, at every length that a run accepts (document 02,
-- job 1).
use mathlib.Core.Path.{◌≡◌, refl, ◌∙◌}
use Prim.Native.Nat.{ℕ, ◌≤◌, ◌<◌}
use native.Mathlib.Omega.{arith}
use Rattle.memory.specs.Map.{register_at, place_of, rom_base, belt_base}
use Rattle.memory.specs.declared.Place.TheVariants.{Timer, Nothing}
use Rattle.memory.proofs.Places.{within_past, within_not, locate_register, place_by, of_timer, register_place}
use Rattle.memory.proofs.Places.{narrow_register, control_register, divisor_register, no_register}

module _ (r o b : ℕ) (ram : r ≤ 0x20000000) (rom : o ≤ 0x10000000) where
  -- the timer's part of the map, and the devices behind it that are not modelled
  by_the_timer : (w a : ℕ) → 1 ≤ w → 0x30000000 ≤ a → a < belt_base → place_of w r o b a ≡ register_at w a
  by_the_timer w a one low high =
      place_by w r o b a (locate_register w r o b a (within_past 0 r w a (omega arith) (omega arith))
      (within_past rom_base o w a (omega arith) (omega arith)) (within_not belt_base b w a high))
      ∙ register_place w a (register_at w a) (of_timer w a)

  pub control_answers : place_of 4 r o b 0x30000000 ≡ Timer 0
  control_answers = by_the_timer 4 0x30000000 (omega arith) (omega arith) (omega arith) ∙ control_register 4 0x30000000 refl refl

  pub divisor_answers : place_of 4 r o b 0x30000004 ≡ Timer 4
  divisor_answers =
      by_the_timer 4 0x30000004 (omega arith) (omega arith) (omega arith) ∙ divisor_register 4 0x30000004 refl (λ e. omega arith) refl

  pub no_other_word : (a : ℕ) → 0x30000000 ≤ a → a < belt_base → (a ≡ 0x30000000 → ⊥) → (a ≡ 0x30000004 → ⊥) → place_of 4 r o b a ≡ Nothing
  no_other_word a low high n k = by_the_timer 4 a (omega arith) low high ∙ no_register 4 a refl n k

  pub no_narrower_access : (w a : ℕ) → 1 ≤ w → (w ≡ 4 → ⊥) → 0x30000000 ≤ a → a < belt_base → place_of w r o b a ≡ Nothing
  no_narrower_access w a one narrow low high = by_the_timer w a one low high ∙ narrow_register w a narrow
