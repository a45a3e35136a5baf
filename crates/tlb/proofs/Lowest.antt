-- The lookup answers the lowest index of a page's entry, or 32 where no entry has the page.
use mathlib.Core.Path.{◌≡◌, refl, ap, sym, ◌∙◌}
use mathlib.Core.Bool.{Bool, true, false}
use mathlib.Core.List.{List}
use Prim.Native.Nat.{ℕ, zero, suc, ◌+◌, ◌≤◌, ◌<◌}
use native.Mathlib.Nat.{zero-add, add-zero, add-suc, suc-add}
use native.Mathlib.Omega.{arith}
use lib.Dec.{eqb}
use lib.ListN.{get_or, length}
use borrow.Author.Tests.{eqb-true, eqb-false, eq-eqb, ne_eqb}
use Rattle.std.proofs.Common.{Option, Some, None, MatchOption, unwrap_or}
use Rattle.std.specs.List.{AllWithin, HoldsAt}
use Rattle.words.proofs.Cases.{below_or_not}
use Rattle.tlb.specs.Lookup.{page_of, find_from, lookup}

module _ (highs : List ℕ) (page : ℕ) where
  -- a match with none before it is found
  first_found : (n i k : ℕ) → k < n → page_of (get_or highs (i + k) 0) ≡ page
      → ((j : ℕ) → j < k → page_of (get_or highs (i + j) 0) ≡ page → ⊥) → find_from n highs i page ≡ i + k
  unfolding find_from
  first_found zero i k h same none = absurd (omega arith)
  first_found (suc n) i zero h same none =
      simp (eq-eqb _ _ (rw (add-zero i) at same)) (sym (add-zero i))
  first_found (suc n) i (suc k) h same none =
      simp (ne_eqb _ _ (rw (add-zero i) at (none 0 (omega arith))))
      (first_found n (suc i) k (omega arith)
      (rw (add-suc i k, ← suc-add i k) at same)
      (λ j l. rw (add-suc i j, ← suc-add i j) at (none (suc j) (omega arith)))
      ∙ suc-add i k ∙ sym (add-suc i k))

  none_found : (n i : ℕ) → ((j : ℕ) → j < n → page_of (get_or highs (i + j) 0) ≡ page → ⊥) → find_from n highs i page ≡ i + n
  unfolding find_from
  none_found zero i none = sym (add-zero i)
  none_found (suc n) i none =
      simp (ne_eqb _ _ (rw (add-zero i) at (none 0 (omega arith))))
      (none_found n (suc i) (λ j l. rw (add-suc i j, ← suc-add i j) at (none (suc j) (omega arith)))
      ∙ suc-add i n ∙ sym (add-suc i n))

  pub lookup_lowest : (k : ℕ) → k < 32 → page_of (get_or highs k 0) ≡ page
      → ((j : ℕ) → j < k → page_of (get_or highs j 0) ≡ page → ⊥) → lookup highs page ≡ k
  unfolding lookup
  lookup_lowest k h same none =
      first_found 32 0 k h (rw zero-add same) (λ j l. rw zero-add (none j l)) ∙ zero-add k

  pub lookup_none : ((j : ℕ) → j < 32 → page_of (get_or highs j 0) ≡ page → ⊥) → lookup highs page ≡ 32
  unfolding lookup
  lookup_none none = none_found 32 0 (λ j l. rw zero-add (none j l))

  -- and what is found has the page
  found_has : (n i : ℕ) → find_from n highs i page < i + n → page_of (get_or highs (find_from n highs i page) 0) ≡ page
  unfolding find_from
  found_has zero i h = absurd (omega arith)
  found_has (suc n) i h = go (eqb (page_of (get_or highs i 0)) page) refl (found_has n (suc i))
    where
      go : (t : Bool) → eqb (page_of (get_or highs i 0)) page ≡ t
          → (find_from n highs (suc i) page < suc i + n → page_of (get_or highs (find_from n highs (suc i) page) 0) ≡ page)
          → page_of (get_or highs (find_from (suc n) highs i page) 0) ≡ page
      go true e rest = simp e (eqb-true _ _ e)
      go false e rest = simp e (rest (omega (arith, simp e at h)))

  -- and none before it has
  none_before : (n i j : ℕ) → i ≤ j → j < find_from n highs i page → page_of (get_or highs j 0) ≡ page → ⊥
  unfolding find_from
  none_before zero i j h k same = omega arith
  none_before (suc n) i j h k same = go (eqb (page_of (get_or highs i 0)) page) refl (none_before n (suc i) j)
    where
      go : (t : Bool) → eqb (page_of (get_or highs i 0)) page ≡ t
          → (suc i ≤ j → j < find_from n highs (suc i) page → page_of (get_or highs j 0) ≡ page → ⊥) → ⊥
      go true e rest = omega (arith, simp e at k)
      go false e rest =
          below_or_not i j (λ l. rest (omega arith) (simp e at k) same)
          (λ l. eqb-false _ _ e (let here : i ≡ j = omega arith in ap (λ (a : ℕ). page_of (get_or highs a 0)) here ∙ same))

  pub lookup_first : (j : ℕ) → j < lookup highs page → page_of (get_or highs j 0) ≡ page → ⊥
  unfolding lookup
  lookup_first j = none_before 32 0 j (omega arith)

  pub lookup_has : lookup highs page < 32 → page_of (get_or highs (lookup highs page) 0) ≡ page
  unfolding lookup
  lookup_has h = found_has 32 0 h

  -- the first entry that has the page, as a search over all 32 finds it
  pub position_lookup : (r : Option ℕ) → length highs ≡ 32
      → MatchOption r (AllWithin (λ high. page_of high ≡ page → ⊥) highs 0 (length highs))
      (λ i. (i < length highs) × HoldsAt (λ high. page_of high ≡ page) highs i × AllWithin (λ high. page_of high ≡ page → ⊥) highs 0 i)
      → unwrap_or r 32 ≡ lookup highs page
  position_lookup None all none = sym (lookup_none (λ j h. none j 0 (omega arith) (omega (arith, all, h))))
  position_lookup (Some i) all first =
      sym (lookup_lowest i (omega (arith, all, first.0)) (first.1 0) (λ j h. first.2 j 0 (omega arith) h))

-- the lookup of entry 0's page
pub first_lookup : (highs : List ℕ) → lookup highs (page_of (get_or highs 0 0)) ≡ 0
first_lookup highs = lookup_lowest highs (page_of (get_or highs 0 0)) 0 (omega arith) refl (λ j h. absurd (omega (arith, h)))
