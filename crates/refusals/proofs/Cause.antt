-- A refusal comes only for its cause, for any list of tests with numbers from 1 up.
use mathlib.Core.Path.{◌≡◌, refl}
use mathlib.Core.Bool.{true}
use mathlib.Core.List.{List, [], ◌∷◌}
use mathlib.Core.Logic.{inl, inr}
use Prim.Native.Nat.{ℕ, ◌≤◌}
use native.Mathlib.Omega.{arith}
use Rattle.words.specs.Lists.{Among}
use Rattle.words.proofs.Cases.{case, by_test}
use Rattle.refusals.specs.Refusal.{Test, first_failed}
use Rattle.refusals.specs.Cause.{numbers_of, AllPass, FirstToFail, OnlyForItsCause}
use Rattle.refusals.proofs.FirstFailed.{numbered, all_pass}

pass_all : (ts : List Test) → AllPass ts → first_failed ts ≡ 0
pass_all [] h = refl
pass_all (t ∷ ts) h = rw h.0 (pass_all ts h.1)

first_to_fail : (ts : List Test) (n : ℕ) → 1 ≤ n → first_failed ts ≡ n → FirstToFail ts n
first_to_fail [] n h e = absurd (omega (arith, e))
first_to_fail (t ∷ ts) n h e = by_test t.passes e (λ f g. inr (f, first_to_fail ts n h g)) (λ f g. inl (f, g))

fail_first : (ts : List Test) (n : ℕ) → FirstToFail ts n → first_failed ts ≡ n
fail_first [] n f = absurd f
fail_first (t ∷ ts) n (inl f) = rw f.0 f.1
fail_first (t ∷ ts) n (inr f) = rw f.0 (fail_first ts n f.1)

among_numbers : (ts : List Test) → Among (first_failed ts) (0 ∷ numbers_of ts)
among_numbers [] = inl refl
among_numbers (t ∷ ts) =
    case (λ (r : ℕ). Among r (0 ∷ t.number ∷ numbers_of ts)) t.passes
    (λ e. skip (first_failed ts) t.number (numbers_of ts) (among_numbers ts)) (λ e. inr (inl refl))
  where
    skip : (r n : ℕ) (l : List ℕ) → Among r (0 ∷ l) → Among r (0 ∷ n ∷ l)
    skip r n l (inl z) = inl z
    skip r n l (inr m) = inr (inr m)

pub only_for_its_cause : (ts : List Test) → numbered ts ≡ true → OnlyForItsCause (numbers_of ts) ts (first_failed ts)
only_for_its_cause ts n =
    record {
      accepted = (all_pass ts n, pass_all ts);
      refused = λ k h. (first_to_fail ts k h, fail_first ts k);
      listed = refl;
      among = among_numbers ts;
    }
