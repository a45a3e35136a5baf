-- Tests that all pass; and those joined by `&` from the left, as code has them, and by `both` from the right, as definitions have them.
use Rattle.std.proofs.Common.{◌≡◌, ℕ, Bool, true, false, not, ◌&&◌, ◌⊎◌, List, [], ◌∷◌, sym, refl, ◌∙◌, inl, inr, true≢false, arith}
use Rattle.words.specs.Logic.{both, either}
use Rattle.words.specs.Lists.{Every}

-- ---- what they say

pub both_true : (a b : Bool) → both a b ≡ true → (a ≡ true) × (b ≡ true)
both_true true b e = (refl, e)
both_true false b e = absurd (let z : ◌≡◌ {A = ℕ} 0 1 = cc in omega arith)

pub true_both : (a b : Bool) → a ≡ true → b ≡ true → both a b ≡ true
true_both a b e f = rw (e, f)

-- several, joined from the right
abbrev pub all : List Bool → Bool
all [] = true
all (t ∷ []) = t
all (t ∷ u ∷ ts) = both t (all (u ∷ ts))

pub all_true : (ts : List Bool) → all ts ≡ true → Every (λ t. t ≡ true) ts
all_true [] e = tt
all_true (t ∷ []) e = (e, tt)
all_true (t ∷ u ∷ ts) e = let h = both_true t (all (u ∷ ts)) e in (h.0, all_true (u ∷ ts) h.1)

pub true_all : (ts : List Bool) → Every (λ t. t ≡ true) ts → all ts ≡ true
true_all [] h = refl
true_all (t ∷ []) h = h.0
true_all (t ∷ u ∷ ts) h = true_both t (all (u ∷ ts)) h.0 (true_all (u ∷ ts) h.1)

pub second_false : (t u : Bool) → u ≡ false → both t u ≡ false
second_false true u e = e
second_false false u e = refl

-- where both fail and one holds, the other fails
pub first_fails : (t u : Bool) → both t u ≡ false → u ≡ true → t ≡ false
first_fails true u e h = sym h ∙ e
first_fails false u e h = refl

pub second_fails : (t u : Bool) → both t u ≡ false → t ≡ true → u ≡ false
second_fails true u e h = e
second_fails false u e h = absurd (true≢false (sym h))

pub not_false : (t : Bool) → not t ≡ false → t ≡ true
not_false true e = refl
not_false false e = sym e

-- ---- `&` and `both`

pub two : (a b : Bool) → a && b ≡ both a b
two true b = refl
two false b = refl

-- the last test goes over to the rest
pub over : (a b rest : Bool) → both (a && b) rest ≡ both a (both b rest)
over true b rest = refl
over false b rest = refl

pub three : (a b c : Bool) → (a && b) && c ≡ both a (both b c)
three a b c = two (a && b) c ∙ over a b c

pub four : (a b c d : Bool) → ((a && b) && c) && d ≡ both a (both b (both c d))
four a b c d = two ((a && b) && c) d ∙ over (a && b) c d ∙ over a b (both c d)

pub five : (a b c d e : Bool) → (((a && b) && c) && d) && e ≡ both a (both b (both c (both d e)))
five a b c d e = two (((a && b) && c) && d) e ∙ over ((a && b) && c) d e ∙ over (a && b) c (both d e) ∙ over a b (both c (both d e))

pub six : (a b c d e f : Bool) → ((((a && b) && c) && d) && e) && f ≡ both a (both b (both c (both d (both e f))))
six a b c d e f = two ((((a && b) && c) && d) && e) f ∙ sixth
  where
    sixth : both ((((a && b) && c) && d) && e) f ≡ both a (both b (both c (both d (both e f))))
    sixth = over (((a && b) && c) && d) e f ∙ over ((a && b) && c) d (both e f) ∙ over (a && b) c (both d (both e f)) ∙ over a b (both c (both d (both e f)))

-- ---- one of two

pub either_means : (a b : Bool) → either a b ≡ true → (a ≡ true) ⊎ (b ≡ true)
either_means true b e = inl refl
either_means false b e = inr e

pub neither : (a b : Bool) → a ≡ false → b ≡ false → either a b ≡ false
neither a b e f = rw (e, f)
