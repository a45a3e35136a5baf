-- A run by its steps; and the loop: a turn more, a turn that ends the run, and the end at the wanted count.
use mathlib.Core.Path.{◌≡◌, refl, ap, ◌∙◌}
use mathlib.Core.Bool.{Bool, true, false, cond}
use mathlib.Core.List.{[]}
use Prim.Native.Nat.{ℕ, suc, ◌+◌, ◌-◌, ◌≤◌, ◌<◌}
use native.Mathlib.Numerals.{add-one}
use native.Mathlib.Omega.{arith}
use lib.Dec.{eqb}
use borrow.Author.Tests.{lt-ltb, le-ltb, eqb-true}
use Rattle.words.proofs.Counts.{left, over}
use Rattle.machine.specs.Machine.{Machine}
use Rattle.step.specs.Step.{step_of}
use Rattle.refusals.specs.Refusal.{run_refusal}
use Rattle.charges.specs.Charges.{charge_of}
use Rattle.refusals.specs.Request.{Request}
use Rattle.run_loop.specs.Run.{Outcome, outcome, ends, steps_from, steps_of, counted, counted_all, begun, run_of, run_from}

-- ---- whether a step is the last

pub plain_goes_on : (kind : Bool) (eid : ℕ) → kind ≡ false → ends kind eid ≡ false
unfolding ends
plain_goes_on kind eid e = rw e

pub none_goes_on : (kind : Bool) → ends kind 32 ≡ false
unfolding ends
none_goes_on true = le-ltb 32 32 (omega arith)
none_goes_on false = refl

pub exception_ends : (kind : Bool) (eid : ℕ) → kind ≡ true → eid < 32 → ends kind eid ≡ true
unfolding ends
exception_ends kind eid e h = rw e (lt-ltb eid 32 h)

-- ---- a run by its first step, and by its refusal

pub no_step : (q : Request) (o : Outcome) → run_from q 0 o ≡ o
unfolding run_from steps_from counted_all
no_step q o = refl

-- by the test of the step's event
by_step : (q : Request) (t : Bool) (n : ℕ) (o : Outcome) → counted_all q o (cond t [] (steps_from q n o.machine)) ≡ cond t o (run_from q n o)
unfolding counted_all run_from
by_step q true n o = refl
by_step q false n o = refl

-- an outcome with the next step counted
abbrev pub onward : Request → Outcome → Outcome
onward q o = counted q o (step_of o.machine q.lines)

pub first_step : (q : Request) (n : ℕ) (o : Outcome)
    → run_from q (suc n) o ≡ cond (ends q.kind (step_of o.machine q.lines).event.eid) (onward q o) (run_from q n (onward q o))
unfolding run_from steps_from counted_all
first_step q n o = by_step q (ends q.kind (step_of o.machine q.lines).event.eid) n (onward q o)

pub run_is : (q : Request) (m : Machine)
    → run_of q m ≡ cond (eqb (run_refusal m q) 0) (run_from q q.wanted (begun m 0)) (begun m (run_refusal m q))
unfolding run_of steps_of run_from counted_all
run_is q m = go (eqb r 0) refl
  where
    r : ℕ
    r = run_refusal m q

    go : (t : Bool) → eqb r 0 ≡ t
        → counted_all q (begun m r) (cond t (steps_from q q.wanted m) []) ≡ cond t (counted_all q (begun m 0) (steps_from q q.wanted m)) (begun m r)
    go true e = ap (λ (k : ℕ). counted_all q (begun m k) (steps_from q q.wanted m)) (eqb-true r 0 e)
    go false e = refl

-- ---- the turns

pub one_less : (n i : ℕ) → i < n → n - (i + 1) < n - i
one_less n i h = omega arith

module _ (q : Request) (made : ℕ) (m : Machine) where
  module _ (slot total : ℕ) (n : Machine) (eid told cost : ℕ) (e : n ≡ (step_of m q.lines).machine) (f : eid ≡ (step_of m q.lines).event.eid)
      (g : told ≡ (step_of m q.lines).event.slot) (h : cost ≡ total + charge_of q.charging (step_of m q.lines).event.opcode)
      (more : made < q.wanted) where
    turn : run_from q (q.wanted - made) (outcome m 0 made 32 slot total)
        ≡ cond (ends q.kind eid) (outcome n 0 (made + 1) (cond (ends q.kind eid) eid 32) told cost)
        (run_from q (q.wanted - (made + 1)) (outcome n 0 (made + 1) (cond (ends q.kind eid) eid 32) told cost))
    turn = rw (left q.wanted made more, add-one made, e, f, g, h) (first_step q (q.wanted - suc made) (outcome m 0 made 32 slot total))

    pub run_more : ends q.kind eid ≡ false → run_from q (q.wanted - made) (outcome m 0 made 32 slot total)
        ≡ run_from q (q.wanted - (made + 1)) (outcome n 0 (made + 1) 32 told cost)
    run_more on = turn ∙ simp on

    pub run_stop : ends q.kind eid ≡ true → run_from q (q.wanted - made) (outcome m 0 made 32 slot total) ≡ outcome n 0 (made + 1) eid told cost
    run_stop last = turn ∙ simp last

  pub run_end : (eid slot total : ℕ) → eid ≡ 32 → q.wanted ≤ made
      → run_from q (q.wanted - made) (outcome m 0 made 32 slot total) ≡ outcome m 0 made eid slot total
  unfolding run_from steps_from counted_all
  run_end eid slot total none h = rw (over q.wanted made h, none)

  pub run_start : run_from q q.wanted (begun m 0) ≡ run_from q (q.wanted - 0) (begun m 0)
  run_start = ap (λ (n : ℕ). run_from q n (begun m 0)) (omega arith)
