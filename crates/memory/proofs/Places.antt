-- The place of an access: what it is in each case of the map, and what it tells of the address and the lengths.
use mathlib.Core.Path.{◌≡◌, refl, ap, sym, subst, ◌∙◌}
use mathlib.Core.Bool.{Bool, true, false}
use Prim.Native.Nat.{ℕ, ◌+◌, ◌-◌, ◌≤◌, ◌<◌}
use native.Mathlib.Omega.{arith}
use lib.Dec.{leb, eqb}
use borrow.Author.Tests.{leb-true, le-leb, lt-leb, eqb-true, eq-eqb, ne_eqb}
use Rattle.words.proofs.Cases.{case}
use Rattle.words.proofs.Conjunction.{both_true}
use Rattle.memory.specs.Map.{within, register_at, locate, words_only, place_of, rom_base, belt_base, timer_base}
use Rattle.memory.specs.declared.Place.{Place}
use Rattle.memory.specs.declared.Place.TheVariants.{Ram, Rom, Belt, Timer, Nothing}

-- ---- within

pub within_not : (base n w a : ℕ) → a < base → within base n w a ≡ false
unfolding within
within_not base n w a h = simp (lt-leb base a h)

pub within_by_end : (base n w a : ℕ) → base ≤ a → within base n w a ≡ leb (a - base + w) n
unfolding within
within_by_end base n w a h = simp (le-leb base a h)

pub within_true : (base n w a : ℕ) → within base n w a ≡ true → (base ≤ a) × (a - base + w ≤ n)
unfolding within
within_true base n w a e =
    let tests = both_true (leb base a) (leb (a - base + w) n) e in
    (leb-true base a tests.0, leb-true (a - base + w) n tests.1)

pub true_within : (base n w a : ℕ) → base ≤ a → a - base + w ≤ n → within base n w a ≡ true
true_within base n w a h k = within_by_end base n w a h ∙ le-leb (a - base + w) n k

pub within_past : (base n w a : ℕ) → base ≤ a → n < a - base + w → within base n w a ≡ false
within_past base n w a h k = within_by_end base n w a h ∙ lt-leb (a - base + w) n k

-- ---- the place, by the tests

module _ (w r o b a : ℕ) where
  pub locate_ram : within 0 r w a ≡ true → locate w r o b a ≡ Ram a
  unfolding locate
  locate_ram h = simp h

  pub locate_rom : within 0 r w a ≡ false → within rom_base o w a ≡ true → locate w r o b a ≡ Rom (a - rom_base)
  unfolding locate
  locate_rom h k = simp (h, k)

  pub locate_belt : within 0 r w a ≡ false → within rom_base o w a ≡ false → within belt_base b w a ≡ true
      → locate w r o b a ≡ Belt (a - belt_base)
  unfolding locate
  locate_belt h k l = simp (h, k, l)

  pub locate_register : within 0 r w a ≡ false → within rom_base o w a ≡ false → within belt_base b w a ≡ false
      → locate w r o b a ≡ register_at w a
  unfolding locate
  locate_register h k l = simp (h, k, l)

  pub place_by : {p : Place} → locate w r o b a ≡ p → place_of w r o b a ≡ words_only w p
  unfolding place_of
  place_by e = ap (words_only w) e

pub word_belt : (w at : ℕ) → w ≡ 4 → words_only w (Belt at) ≡ Belt at
word_belt w at e = simp (eq-eqb w 4 e)

pub narrow_belt : (w at : ℕ) → (w ≡ 4 → ⊥) → words_only w (Belt at) ≡ Nothing
narrow_belt w at e = simp (ne_eqb w 4 e)

-- ---- the timer's registers

-- a place that is the timer's or nothing, for words alone
abbrev pub OfTimer : ℕ → ℕ → Place → Type 0
OfTimer w a (Ram at) = ⊥
OfTimer w a (Rom at) = ⊥
OfTimer w a (Belt at) = ⊥
OfTimer w a (Timer at) = (w ≡ 4) × (at ≤ 4) × (timer_base + at ≡ a)
OfTimer w a Nothing = Unit {0}

pub of_timer : (w a : ℕ) → OfTimer w a (register_at w a)
unfolding register_at
of_timer w a =
    case (OfTimer w a) (eqb w 4)
    (λ t. case (OfTimer w a) (eqb a 0x30000000)
    (λ e. (eqb-true w 4 t, omega arith, sym (eqb-true a 0x30000000 e)))
    (λ _. case (OfTimer w a) (eqb a 0x30000004)
    (λ e. (eqb-true w 4 t, omega arith, sym (eqb-true a 0x30000004 e)))
    (λ _. tt)))
    (λ _. tt)

-- they are words already
pub register_place : (w a : ℕ) (p : Place) → OfTimer w a p → words_only w p ≡ p
register_place w a (Ram at) h = absurd h
register_place w a (Rom at) h = absurd h
register_place w a (Belt at) h = absurd h
register_place w a (Timer at) h = refl
register_place w a Nothing h = refl

-- as the code tests them
module _ (w a : ℕ) where
  pub narrow_register : (w ≡ 4 → ⊥) → register_at w a ≡ Nothing
  unfolding register_at
  narrow_register n = simp (ne_eqb w 4 n)

  pub control_register : w ≡ 4 → a ≡ 0x30000000 → register_at w a ≡ Timer 0
  unfolding register_at
  control_register e h = simp (eq-eqb w 4 e, eq-eqb a 0x30000000 h)

  pub divisor_register : w ≡ 4 → (a ≡ 0x30000000 → ⊥) → a ≡ 0x30000004 → register_at w a ≡ Timer 4
  unfolding register_at
  divisor_register e n h = simp (eq-eqb w 4 e, ne_eqb a 0x30000000 n, eq-eqb a 0x30000004 h)

  pub no_register : w ≡ 4 → (a ≡ 0x30000000 → ⊥) → (a ≡ 0x30000004 → ⊥) → register_at w a ≡ Nothing
  unfolding register_at
  no_register e n k = simp (eq-eqb w 4 e, ne_eqb a 0x30000000 n, ne_eqb a 0x30000004 k)

-- ---- the address and the lengths, by the place

-- the w bytes lie in what the place names, at its offset
abbrev pub Lies : ℕ → ℕ → ℕ → ℕ → ℕ → Place → Type 0
Lies w r o b a (Ram at) = (at ≡ a) × (at + w ≤ r)
Lies w r o b a (Rom at) = (rom_base + at ≡ a) × (at + w ≤ o)
Lies w r o b a (Belt at) = (belt_base + at ≡ a) × (at + w ≤ b)
Lies w r o b a (Timer at) = (w ≡ 4) × (at ≤ 4) × (timer_base + at ≡ a)
Lies w r o b a Nothing = Unit {0}

module _ (w r o b a : ℕ) where
  register_lies : (p : Place) → OfTimer w a p → Lies w r o b a p
  register_lies (Ram at) h = absurd h
  register_lies (Rom at) h = absurd h
  register_lies (Belt at) h = absurd h
  register_lies (Timer at) h = h
  register_lies Nothing h = tt

  pub lies : Lies w r o b a (locate w r o b a)
  unfolding locate
  lies =
      case (Lies w r o b a) (within 0 r w a)
      (λ t. let h = within_true 0 r w a t in (refl, omega arith))
      (λ _. case (Lies w r o b a) (within rom_base o w a)
      (λ t. let h = within_true rom_base o w a t in (omega arith, omega arith))
      (λ _. case (Lies w r o b a) (within belt_base b w a)
      (λ t. let h = within_true belt_base b w a t in (omega arith, omega arith))
      (λ _. register_lies (register_at w a) (of_timer w a))))

  words_only_lies : (p : Place) → Lies w r o b a p → Lies w r o b a (words_only w p)
  words_only_lies (Ram at) h = h
  words_only_lies (Rom at) h = h
  words_only_lies (Belt at) h = case (Lies w r o b a) (eqb w 4) (λ _. h) (λ _. tt)
  words_only_lies (Timer at) h = h
  words_only_lies Nothing h = h

  -- what the place of an access tells
  pub place_lies : (p : Place) → place_of w r o b a ≡ p → Lies w r o b a p
  unfolding place_of
  place_lies p e = subst (Lies w r o b a) e (words_only_lies (locate w r o b a) lies)

-- past RAM, ROM and belt, as the code tests the timer's registers
pub at_register : (w r o b a : ℕ) {x y z : Bool} {p : Place} → x ≡ within 0 r w a → x ≡ false → y ≡ within rom_base o w a → y ≡ false
    → z ≡ within belt_base b w a → z ≡ false → register_at w a ≡ p → p ≡ place_of w r o b a
at_register w r o b a e f g h k l place =
    sym (place_by w r o b a (locate_register w r o b a (sym e ∙ f) (sym g ∙ h) (sym k ∙ l))
    ∙ register_place w a (register_at w a) (of_timer w a) ∙ place)
