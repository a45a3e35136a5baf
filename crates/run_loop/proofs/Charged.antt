-- The charge of a run: the sum of its steps' entries, at most the steps made times the largest charge, and 0 where none was made; and that charging
-- changes nothing else (document 02, job 3).
use mathlib.Core.Path.{◌≡◌, refl, ap, sym, ◌∙◌}
use mathlib.Core.Bool.{Bool, true, false, cond}
use mathlib.Core.List.{List, [], ◌∷◌, ◌++◌}
use Prim.Native.Nat.{ℕ, zero, suc, ◌+◌, ◌*◌, ◌≤◌}
use native.Mathlib.Nat.{add-zero, zero-add, add_assoc}
use native.Mathlib.Omega.{arith}
use lib.Dec.{eqb}
use borrow.Author.Tests.{ne_eqb}
use Rattle.words.proofs.Cases.{chosen}
use Rattle.charges.specs.Charges.{Charging, Uncharged, charge_of, most_charged}
use Rattle.charges.proofs.Largest.{costs_at_most}
use Rattle.machine.specs.Machine.{Machine, fit_with}
use Rattle.step.specs.Step.{Stepped, step_of}
use Rattle.step.proofs.OpcodeLaws.{opcode_within}
use Rattle.refusals.specs.Request.{Request, without_charging}
use Rattle.refusals.specs.Refusal.{memory_tests, fit_test, steps_test, run_refusal}
use Rattle.refusals.proofs.Lengths.{charges_last}
use Rattle.run_loop.specs.Run.{Outcome, outcome, ends, steps_from, steps_of, counted, counted_all, begun, run_of, run_from}
use Rattle.run_loop.proofs.Loop.{onward, first_step, run_is}

-- ---- the sum

-- what steps cost, one by one
unfoldable pub sum_of : Charging → List Stepped → ℕ
sum_of c [] = 0
sum_of c (s ∷ ss) = charge_of c s.event.opcode + sum_of c ss

all_costs : (q : Request) (o : Outcome) (ss : List Stepped) → (counted_all q o ss).answer.charge ≡ o.answer.charge + sum_of q.charging ss
unfolding counted_all sum_of
all_costs q o [] = sym (add-zero o.answer.charge)
all_costs q o (s ∷ ss) = all_costs q (counted q o s) ss ∙ add_assoc o.answer.charge (charge_of q.charging s.event.opcode) (sum_of q.charging ss)

pub from_charge : (q : Request) (n : ℕ) (o : Outcome) → (run_from q n o).answer.charge ≡ o.answer.charge + sum_of q.charging (steps_from q n o.machine)
unfolding run_from
from_charge q n o = all_costs q o (steps_from q n o.machine)

-- of every run: a refused one makes no step
pub run_charge : (q : Request) (m : Machine) → (run_of q m).answer.charge ≡ sum_of q.charging (steps_of q m)
unfolding run_of
run_charge q m = all_costs q (begun m (run_refusal m q)) (steps_of q m) ∙ zero-add (sum_of q.charging (steps_of q m))

-- ---- the bound

module _ (q : Request) where
  abbrev pub Bounded : Outcome → Type 0
  Bounded o = o.answer.charge ≤ o.answer.steps * most_charged q.charging

  pub from_bounded : (n : ℕ) (o : Outcome) → Bounded o → Bounded (run_from q n o)
  unfolding run_from steps_from counted_all
  from_bounded zero o h = h
  from_bounded (suc n) o h =
      let cost = costs_at_most q.charging _ (opcode_within o.machine q.lines) in
      let next : Bounded (onward q o) = omega (arith, h, cost) in
      rw (first_step q n o) (chosen Bounded (ends q.kind (step_of o.machine q.lines).event.eid) next (from_bounded n (onward q o) next))

  pub run_bounded : (m : Machine) → Bounded (run_of q m)
  run_bounded m =
      rw (run_is q m) (chosen Bounded (eqb (run_refusal m q) 0) (from_bounded q.wanted (begun m 0) (omega arith)) (omega arith))

-- ---- a refused run costs nothing, by whatever number

pub refused_free : (q : Request) (m : Machine) → (run_refusal m q ≡ 0 → ⊥) → (run_of q m).answer.charge ≡ 0
refused_free q m h = rw (run_is q m) (simp (ne_eqb (run_refusal m q) 0 h))

-- ---- all but the charge is as without charging

-- an outcome with its charge taken away
abbrev pub without_charge : Outcome → Outcome
without_charge o = outcome o.machine o.answer.refusal o.answer.steps o.answer.eid o.answer.slot 0

module _ (q : Request) where
  pub same_steps : (n : ℕ) (m : Machine) → steps_from (without_charging q) n m ≡ steps_from q n m
  unfolding steps_from
  same_steps zero m = refl
  same_steps (suc n) m =
      ap (λ (ss : List Stepped). step_of m q.lines ∷ cond (ends q.kind (step_of m q.lines).event.eid) [] ss)
      (same_steps n (step_of m q.lines).machine)

  same_counted : (o : Outcome) (ss : List Stepped) → counted_all (without_charging q) (without_charge o) ss ≡ without_charge (counted_all q o ss)
  unfolding counted_all
  same_counted o [] = refl
  same_counted o (s ∷ ss) = same_counted (counted q o s) ss

  pub from_uncharged : (n : ℕ) (o : Outcome) → run_from (without_charging q) n (without_charge o) ≡ without_charge (run_from q n o)
  unfolding run_from
  from_uncharged n o =
      ap (counted_all (without_charging q) (without_charge o)) (same_steps n o.machine) ∙ same_counted o (steps_from q n o.machine)

  module _ (m : Machine) (not : run_refusal m q ≡ 9 → ⊥) where
    same_refusal : run_refusal m (without_charging q) ≡ run_refusal m q
    unfolding run_refusal
    same_refusal =
        sym (charges_last (memory_tests m.memory ++ (fit_test (fit_with m.processor m.timer) ∷ steps_test q.wanted ∷ [])) q.charging refl not)

    -- one law for both kinds of run: machine, memory and every other answer
    pub as_uncharged : run_of (without_charging q) m ≡ without_charge (run_of q m)
    as_uncharged = rw (run_is (without_charging q) m, run_is q m, same_refusal) (go (eqb (run_refusal m q) 0))
      where
        go : (t : Bool) → cond t (run_from (without_charging q) q.wanted (begun m 0)) (begun m (run_refusal m q))
            ≡ without_charge (cond t (run_from q q.wanted (begun m 0)) (begun m (run_refusal m q)))
        go true = from_uncharged q.wanted (begun m 0)
        go false = refl

  -- and a run without charging costs nothing
  pub uncharged_free : (m : Machine) → (run_of (without_charging q) m).answer.charge ≡ 0
  unfolding sum_of
  uncharged_free m = run_charge (without_charging q) m ∙ go (steps_of (without_charging q) m)
    where
      go : (ss : List Stepped) → sum_of Uncharged ss ≡ 0
      go [] = refl
      go (s ∷ ss) = zero-add (sum_of Uncharged ss) ∙ go ss
