-- The first failed test of a list: what it says of the tests, and how it goes over lists that are joined.
use mathlib.Core.Path.{◌≡◌, refl, sym, ◌∙◌}
use mathlib.Core.Bool.{Bool, true, false, cond}
use mathlib.Core.List.{List, [], ◌∷◌, ◌++◌}
use Prim.Native.Nat.{ℕ, ◌≤◌}
use native.Mathlib.Omega.{arith}
use lib.Dec.{leb, eqb}
use borrow.Author.Tests.{leb-true, eq-eqb, ne_eqb}
use Rattle.words.specs.Logic.{both}
use Rattle.words.proofs.Cases.{by_test}
use Rattle.words.proofs.Conjunction.{both_true}
use Rattle.refusals.specs.Refusal.{Test, first_failed}
use Rattle.refusals.specs.Cause.{AllPass}

-- ---- lists whose tests have numbers from 1 up

abbrev pub numbered : List Test → Bool
numbered [] = true
numbered (t ∷ ts) = both (leb 1 t.number) (numbered ts)

own_number : (t : Test) (ts : List Test) → numbered (t ∷ ts) ≡ true → (1 ≤ t.number) × (numbered ts ≡ true)
own_number t ts n = let own = both_true (leb 1 t.number) (numbered ts) n in (leb-true 1 t.number own.0, own.1)

-- an accepted call passes every test
pub all_pass : (ts : List Test) → numbered ts ≡ true → first_failed ts ≡ 0 → AllPass ts
all_pass [] n e = tt
all_pass (t ∷ ts) n e =
    let own = own_number t ts n in
    by_test t.passes e (λ f h. (f, all_pass ts own.1 h)) (λ f h. absurd (omega (arith, own.0)))

-- the tests of one list, and then those of another
pub joined : (a b : List Test) → numbered a ≡ true → first_failed (a ++ b) ≡ cond (eqb (first_failed a) 0) (first_failed b) (first_failed a)
joined [] b n = refl
joined (t ∷ ts) b n = go t.passes (own_number t ts n) (joined ts b (own_number t ts n).1)
  where
    go : (u : Bool) → (1 ≤ t.number) × (numbered ts ≡ true)
        → first_failed (ts ++ b) ≡ cond (eqb (first_failed ts) 0) (first_failed b) (first_failed ts)
        → cond u (first_failed (ts ++ b)) t.number
        ≡ cond (eqb (cond u (first_failed ts) t.number) 0) (first_failed b) (cond u (first_failed ts) t.number)
    go true own rest = rest
    go false own rest = rw (ne_eqb t.number 0 (λ e. omega (arith, own.0)))

module _ (a b : List Test) (n : numbered a ≡ true) {r : ℕ} (e : r ≡ first_failed a) where
  pub first_refuses : (r ≡ 0 → ⊥) → r ≡ first_failed (a ++ b)
  first_refuses h = sym (joined a b n ∙ rw (← e) (simp (ne_eqb r 0 h)))

  pub first_passes : r ≡ 0 → first_failed b ≡ first_failed (a ++ b)
  first_passes h = sym (joined a b n ∙ rw (← e) (simp (eq-eqb r 0 h)))

-- ---- the first test of a list

pub fails : (t : Test) (ts : List Test) → t.passes ≡ false → t.number ≡ first_failed (t ∷ ts)
fails t ts e = simp e

pub goes_on : (t : Test) (ts : List Test) → t.passes ≡ true → first_failed ts ≡ first_failed (t ∷ ts)
goes_on t ts e = simp e
