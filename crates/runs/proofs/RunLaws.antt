-- What a run comes to: a plain run makes the wanted steps; a run to exception ends at the first exception, or after the wanted steps; the
-- machine is the one after the steps that are reported, and the slot that of the last of them.
use mathlib.Core.Path.{◌≡◌, refl, ap, sym, subst, ◌∙◌}
use mathlib.Core.Logic.{◌⊎◌, inl, inr, ⊎_elim}
use mathlib.Core.Bool.{true, false}
use Prim.Native.Nat.{ℕ, zero, suc, ◌+◌, ◌≤◌, ◌<◌}
use native.Mathlib.Nat.{add-zero, add-suc, suc-add}
use native.Mathlib.Omega.{arith}
use lib.Dec.{eqb}
use borrow.Author.Tests.{ltb-true, ltb-false, lt-ltb, le-ltb}
use Rattle.machine.specs.Machine.{Machine}
use Rattle.step.specs.Step.{step_of}
use Rattle.words.proofs.Cases.{chosen, case}
use Rattle.tlb.specs.Lookup.{no_slot}
use Rattle.refusals.specs.Refusal.{run_refusal}
use Rattle.run_loop.proofs.Loop.{no_step, onward, first_step, run_is}
use Rattle.charges.specs.Charges.{Charging, charge_of}
use Rattle.refusals.specs.Request.{plain, to_exception, Request, request}
use Rattle.run_loop.specs.Run.{Outcome, outcome, ends, begun, run_from, run_of, state_after}

-- ---- a plain run

-- the slot of the last of n steps, or one that is known where there is none
unfoldable pub slot_after : ℕ → ℕ → Machine → ℕ → ℕ
slot_after zero slot m lines = slot
slot_after (suc n) slot m lines = slot_after n (step_of m lines).event.slot (step_of m lines).machine lines

module _ (wanted lines : ℕ) (c : Charging) where
  abbrev asked : Request
  asked = request plain wanted lines c

  -- a sum with what n steps cost
  unfoldable pub charge_after : ℕ → ℕ → Machine → ℕ
  charge_after zero total m = total
  charge_after (suc n) total m = charge_after n (total + charge_of c (step_of m lines).event.opcode) (step_of m lines).machine

  pub plain_makes_the_steps : (n made slot total : ℕ) (m : Machine) → run_from asked n (outcome m 0 made 32 slot total)
      ≡ outcome (state_after n m lines) 0 (made + n) 32 (slot_after n slot m lines) (charge_after n total m)
  unfolding state_after slot_after charge_after ends
  plain_makes_the_steps zero made slot total m = no_step asked _ ∙ ap (λ (k : ℕ). outcome m 0 k 32 slot total) (sym (add-zero made))
  plain_makes_the_steps (suc n) made slot total m =
      first_step asked n (outcome m 0 made 32 slot total) ∙ plain_makes_the_steps n (suc made) (step_of m lines).event.slot _ (step_of m lines).machine
      ∙ ap (λ (k : ℕ). outcome (state_after n (step_of m lines).machine lines) 0 k 32 (slot_after (suc n) slot m lines) (charge_after (suc n) total m))
      (suc-add made n ∙ sym (add-suc made n))

-- ---- either kind

-- by the first step: it ends the run, or the run goes on from it
by_first : (q : Request) (P : Outcome → Type 0) (n : ℕ) (o : Outcome)
    → (ends q.kind (step_of o.machine q.lines).event.eid ≡ true → P (onward q o))
    → (ends q.kind (step_of o.machine q.lines).event.eid ≡ false → P (run_from q n (onward q o))) → P (run_from q (suc n) o)
by_first q P n o f g = subst P (sym (first_step q n o)) (case P (ends q.kind (step_of o.machine q.lines).event.eid) f g)

module _ (q : Request) where
  abbrev made : Outcome → ℕ
  made o = o.answer.steps

  -- so many steps of the n were made, and the machine is the one after them
  abbrev After : ℕ → Outcome → Outcome → Type 0
  After n o p = (k : ℕ) × (k ≤ n) × (made p ≡ made o + k) × (p.machine ≡ state_after k o.machine q.lines)

  pub state_after_its_steps : (n : ℕ) (o : Outcome) → After n o (run_from q n o)
  unfolding state_after
  state_after_its_steps zero o = subst (After 0 o) (sym (no_step q o)) (0, omega arith, sym (add-zero (made o)), refl)
  state_after_its_steps (suc n) o =
      let (k, most, steps, same) = state_after_its_steps n (onward q o) in
      by_first q (After (suc n) o) n o (λ _. (1, omega arith, omega arith, refl)) (λ _. (suc k, omega arith, omega arith, same))

  -- the slot is that of the last step made; where none was made, the one before
  abbrev Told : Outcome → Outcome → Type 0
  Told o p = ((made p ≡ made o) × (p.answer.slot ≡ o.answer.slot))
      ⊎ ((k : ℕ) × (made p ≡ made o + suc k) × (p.answer.slot ≡ (step_of (state_after k o.machine q.lines) q.lines).event.slot))

  one_more : (o p : Outcome) → Told (onward q o) p → Told o p
  unfolding state_after
  one_more o p h =
      ⊎_elim (λ t. inr (0, omega (arith, t.0), t.1)) (λ t. let (k, steps, same) = t in inr (suc k, omega (arith, steps), same)) h

  pub slot_of_the_last : (n : ℕ) (o : Outcome) → Told o (run_from q n o)
  slot_of_the_last zero o = subst (Told o) (sym (no_step q o)) (inl (refl, refl))
  slot_of_the_last (suc n) o =
      by_first q (Told o) n o (λ _. one_more o (onward q o) (inl (refl, refl))) (λ _. one_more o (run_from q n (onward q o)) (slot_of_the_last n (onward q o)))

  -- of every run: the slot is the last step's, and 33 where no step was made, for a refused run too
  abbrev LastSlot : Machine → Outcome → Type 0
  LastSlot m o = ((made o ≡ 0) × (o.answer.slot ≡ no_slot))
      ⊎ ((k : ℕ) × (made o ≡ suc k) × (o.answer.slot ≡ (step_of (state_after k m q.lines) q.lines).event.slot))

  pub run_slot : (m : Machine) → LastSlot m (run_of q m)
  run_slot m =
      subst (LastSlot m) (sym (run_is q m))
      (chosen (LastSlot m) (eqb (run_refusal m q) 0)
      (⊎_elim (λ t. inl t) (λ t. let (k, steps, same) = t in inr (k, omega (arith, steps), same)) (slot_of_the_last q.wanted (begun m 0)))
      (inl (refl, refl)))

-- ---- a run to exception

module _ (wanted lines : ℕ) (c : Charging) where
  abbrev sought : Request
  sought = request to_exception wanted lines c

  abbrev told : Machine → ℕ
  told m = (step_of m lines).event.eid

  abbrev next : Outcome → Outcome
  next o = onward sought o

  goes_on : (o : Outcome) → ends to_exception (told o.machine) ≡ false → 32 ≤ told o.machine
  unfolding ends
  goes_on o e = ltb-false (told o.machine) 32 e

  stops : (o : Outcome) → ends to_exception (told o.machine) ≡ true → told o.machine < 32
  unfolding ends
  stops o e = ltb-true (told o.machine) 32 e

  -- the EID of a run that ends with its first step is that step's
  names : (o : Outcome) → told o.machine < 32 → (next o).answer.eid ≡ told o.machine
  unfolding ends
  names o h = simp (lt-ltb (told o.machine) 32 h)

  -- and it has none where that step accepted no exception
  quiet : (o : Outcome) → 32 ≤ told o.machine → 32 ≤ (next o).answer.eid
  unfolding ends
  quiet o h = simp (le-ltb (told o.machine) 32 h) (omega arith)

  by_exception : (P : Outcome → Type 0) (n : ℕ) (o : Outcome) → (told o.machine < 32 → P (next o))
      → (32 ≤ told o.machine → P (run_from sought n (next o))) → P (run_from sought (suc n) o)
  by_exception P n o f g = by_first sought P n o (λ last. f (stops o last)) (λ on. g (goes_on o on))

  abbrev steps : Outcome → ℕ
  steps o = o.answer.steps

  -- no step before the last accepts an exception
  pub none_before_the_last : (n : ℕ) (o : Outcome) (i : ℕ) → steps o + suc i < steps (run_from sought n o) → 32 ≤ told (state_after i o.machine lines)
  unfolding state_after
  none_before_the_last zero o i h = absurd (omega (arith, rw (no_step sought o) at h))
  none_before_the_last (suc n) o zero h =
      by_exception (λ (p : Outcome). steps o + 1 < steps p → 32 ≤ told o.machine) n o (λ _ k. absurd (omega arith)) (λ on k. on) h
  none_before_the_last (suc n) o (suc i) h =
      let rest = none_before_the_last n (next o) i in
      by_exception (λ (p : Outcome). steps o + suc (suc i) < steps p → 32 ≤ told (state_after i (next o).machine lines)) n o
      (λ _ k. absurd (omega arith)) (λ on k. rest (omega arith)) h

  -- an EID that is reported is the last step's
  pub eid_of_the_last : (n : ℕ) (o : Outcome) → 32 ≤ o.answer.eid → (run_from sought n o).answer.eid < 32
      → (j : ℕ) × (steps (run_from sought n o) ≡ steps o + suc j) × ((run_from sought n o).answer.eid ≡ told (state_after j o.machine lines))
  unfolding state_after
  eid_of_the_last zero o none h = absurd (omega (arith, none, rw (no_step sought o) at h))
  eid_of_the_last (suc n) o none h =
      by_exception (λ (p : Outcome). p.answer.eid < 32 → (j : ℕ) × (steps p ≡ steps o + suc j) × (p.answer.eid ≡ told (state_after j o.machine lines)))
      n o (λ last k. (0, omega arith, names o last))
      (λ on k. let (j, made, same) = eid_of_the_last n (next o) (quiet o on) k in (suc j, omega arith, same)) h

  -- and where none is reported, the wanted steps were made
  pub wanted_without_exception : (n : ℕ) (o : Outcome) → 32 ≤ (run_from sought n o).answer.eid → steps (run_from sought n o) ≡ steps o + n
  wanted_without_exception zero o h = rw (no_step sought o) (sym (add-zero (steps o)))
  wanted_without_exception (suc n) o h =
      by_exception (λ (p : Outcome). 32 ≤ p.answer.eid → steps p ≡ steps o + suc n) n o
      (λ last k. absurd (omega (arith, last, names o last, k))) (λ on k. omega (arith, wanted_without_exception n (next o) k)) h

  -- none of them accepted an exception
  pub quiet_without_exception : (n : ℕ) (o : Outcome) → 32 ≤ (run_from sought n o).answer.eid
      → (i : ℕ) → i < n → 32 ≤ told (state_after i o.machine lines)
  unfolding state_after
  quiet_without_exception zero o h i k = absurd (omega arith)
  quiet_without_exception (suc n) o h zero k =
      by_exception (λ (p : Outcome). 32 ≤ p.answer.eid → 32 ≤ told o.machine) n o (λ last l. absurd (omega (arith, last, names o last, l))) (λ on _. on) h
  quiet_without_exception (suc n) o h (suc i) k =
      let rest = quiet_without_exception n (next o) in
      by_exception (λ (p : Outcome). 32 ≤ p.answer.eid → 32 ≤ told (state_after i (next o).machine lines)) n o
      (λ last l. absurd (omega (arith, last, names o last, l))) (λ on l. rest l i (omega arith)) h
