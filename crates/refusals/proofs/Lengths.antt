-- The lengths and steps that are accepted, in numbers; and the tests of lengths as the code has them.
use mathlib.Core.Path.{◌≡◌, refl, sym, ◌∙◌}
use mathlib.Core.Bool.{Bool, true, false, cond, ◌&&◌}
use mathlib.Core.List.{List, [], ◌++◌}
use Prim.Native.Nat.{ℕ, ◌*◌, ◌/◌, ◌%◌, ◌≤◌}
use native.Mathlib.Omega.{arith}
use lib.Dec.{leb, eqb}
use Rattle.std.specs.Prelude.{Option, Some, None}
use Rattle.std.specs.Borrow.{Bor}
use borrow.Author.Tests.{leb-true, eqb-true, le-leb, eq-eqb}
use Rattle.words.specs.Logic.{both, Exactly}
use Rattle.words.proofs.Conjunction.{both_true, true_both, three}
use lib.ListN.{length}
use Rattle.charges.specs.Charges.{Charging, Uncharged, ChargedBy}
use Rattle.charges.specs.Code.{charging_of, IsWhole}
use Rattle.refusals.specs.Refusal.{pages_up_to, ram_accepted, rom_accepted, belt_accepted, most_steps, Test, first_failed, charges_tests}
use Rattle.refusals.specs.Cause.{AllPass, Divides, RamLength, RomLength, BeltLength, Steps, ChargesLength}
use Rattle.refusals.proofs.FirstFailed.{numbered, joined}
use Rattle.words.proofs.Cases.{case}

pub pages : (limit n : ℕ) → (leb 4096 n && leb n limit) && eqb (n % 4096) 0 ≡ pages_up_to limit n
unfolding pages_up_to
pages limit n = three (leb 4096 n) (leb n limit) (eqb (n % 4096) 0)

pages_exactly : (limit n : ℕ) → Exactly (pages_up_to limit n ≡ true) ((4096 ≤ n) × (n ≤ limit) × Divides 4096 n)
unfolding pages_up_to
pages_exactly limit n = (
  (λ e.
      let first = both_true (leb 4096 n) (both (leb n limit) (eqb (n % 4096) 0)) e in
      let second = both_true (leb n limit) (eqb (n % 4096) 0) first.1 in
      let none : n % 4096 ≡ 0 = eqb-true (n % 4096) 0 second.1 in
      (leb-true 4096 n first.0, leb-true n limit second.0, (n / 4096, omega (arith, none)))),
  (λ h.
      let k : ℕ = h.2.0 in
      let times : n ≡ k * 4096 = h.2.1 in
      true_both (leb 4096 n) _ (le-leb 4096 n h.0)
      (true_both (leb n limit) _ (le-leb n limit h.1) (eq-eqb (n % 4096) 0 (omega (arith, times))))),
)

pub ram_accepted_lem : (n : ℕ) → Exactly (ram_accepted n ≡ true) (RamLength n)
ram_accepted_lem n = pages_exactly 536870912 n

pub rom_accepted_lem : (n : ℕ) → Exactly (rom_accepted n ≡ true) (RomLength n)
rom_accepted_lem n = pages_exactly 268435456 n

pub belt_accepted_lem : (n : ℕ) → Exactly (belt_accepted n ≡ true) (BeltLength n)
belt_accepted_lem n = (eqb-true n 1024, eq-eqb n 1024)

pub steps_accepted : (wanted : ℕ) → Exactly (leb wanted most_steps ≡ true) (Steps wanted)
steps_accepted wanted = (leb-true wanted 1000000, le-leb wanted 1000000)

pub charges_accepted : (c : Charging) → Exactly (AllPass (charges_tests c)) (ChargesLength c)
charges_accepted Uncharged = ((λ h. h), λ h. h)
charges_accepted (ChargedBy s) = ((λ h. eqb-true (length s) 130 h.0), λ e. (eq-eqb (length s) 130 e, tt))

-- as the code has it
pub whole : (c : Option (Bor (List ℕ))) → AllPass (charges_tests (charging_of c)) → IsWhole c
whole None h = tt
whole (Some s) h = eqb-true (length s.now) 130 h.0

pub charges_numbered : (c : Charging) → numbered (charges_tests c) ≡ true
charges_numbered Uncharged = refl
charges_numbered (ChargedBy s) = refl

-- 9 stands last: any other answer is that of the tests before it
pub charges_last : (ts : List Test) (c : Charging) → numbered ts ≡ true → (first_failed (ts ++ charges_tests c) ≡ 9 → ⊥)
    → first_failed (ts ++ charges_tests c) ≡ first_failed ts
charges_last ts Uncharged n not = joined ts [] n ∙ go (first_failed ts)
  where
    go : (r : ℕ) → cond (eqb r 0) 0 r ≡ r
    go r = case (λ (k : ℕ). k ≡ r) (eqb r 0) (λ e. sym (eqb-true r 0 e)) (λ e. refl)
charges_last ts (ChargedBy s) n not =
    let e = joined ts (charges_tests (ChargedBy s)) n in
    e ∙ go (eqb (first_failed ts) 0) refl (eqb (length s) 130) (λ f. not (e ∙ f))
  where
    go : (t : Bool) → eqb (first_failed ts) 0 ≡ t → (u : Bool) → (cond t (cond u 0 9) (first_failed ts) ≡ 9 → ⊥)
        → cond t (cond u 0 9) (first_failed ts) ≡ first_failed ts
    go true e true other = sym (eqb-true (first_failed ts) 0 e)
    go true e false other = absurd (other refl)
    go false e u other = refl
