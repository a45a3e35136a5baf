-- The trace of a run is the run's: each machine is the step of the one before, the last is handed back, and there are as many as the steps answered.
-- So it is over a list of runs.
use mathlib.Core.Path.{◌≡◌, refl, ap, sym, subst, ◌∙◌}
use mathlib.Core.List.{List, [], ◌∷◌, ◌++◌}
use Prim.Native.Nat.{ℕ, zero, suc, ◌+◌}
use native.Mathlib.Nat.{add-zero}
use native.Mathlib.Omega.{arith}
use lib.Dec.{eqb}
use lib.ListN.{length}
use Rattle.words.specs.Lists.{Every}
use Rattle.words.proofs.Cases.{chosen}
use Rattle.machine.specs.Machine.{Machine, Representable}
use Rattle.step.specs.Step.{Stepped, step_of}
use Rattle.refusals.specs.Refusal.{run_refusal}
use Rattle.refusals.specs.Request.{Request}
use Rattle.run_loop.specs.Run.{Outcome, ends, steps_from, steps_of, counted, counted_all, begun, run_of}
use Rattle.run_loop.proofs.Kept.{call_representable}
use Rattle.isolation.specs.Trace.{Call, Made, made_with, call_outcome, call_trace, trace_of}
use Rattle.isolation.specs.Claim.{Consecutive}
use Rattle.isolation.proofs.Entries.{outcome_is, trace_is}

-- the last machine of a trace from m on
abbrev pub last_from : Machine → List Made → Machine
last_from m [] = m
last_from m (s ∷ ss) = last_from s.machine ss

-- each machine is the step of the one before, with the lines of its run
abbrev pub Follows : Machine → List Made → Type 0
Follows m ss = Consecutive (λ before s. s.machine ≡ (step_of before s.lines).machine) m ss

-- every step has these lines
abbrev pub AllWith : ℕ → List Made → Type 0
AllWith lines ss = Every (λ s. s.lines ≡ lines) ss

-- ---- counting goes over the steps, whatever they are

counts_steps : (q : Request) (o : Outcome) (ss : List Stepped) → (counted_all q o ss).answer.steps ≡ o.answer.steps + length (made_with q.lines ss)
unfolding counted_all
counts_steps q o [] = sym (add-zero o.answer.steps)
counts_steps q o (s ∷ ss) = counts_steps q (counted q o s) ss ∙ omega arith

ends_in_the_last : (q : Request) (o : Outcome) (ss : List Stepped) → (counted_all q o ss).machine ≡ last_from o.machine (made_with q.lines ss)
unfolding counted_all
ends_in_the_last q o [] = refl
ends_in_the_last q o (s ∷ ss) = ends_in_the_last q (counted q o s) ss

steps_follow : (q : Request) (n : ℕ) (m : Machine) → Follows m (made_with q.lines (steps_from q n m))
unfolding steps_from
steps_follow q zero m = tt
steps_follow q (suc n) m =
    let next = step_of m q.lines in (
      refl,
      chosen (λ (ss : List Stepped). Follows next.machine (made_with q.lines ss)) (ends q.kind next.event.eid) tt
          (steps_follow q n next.machine),
    )

all_with : (lines : ℕ) (ss : List Stepped) → AllWith lines (made_with lines ss)
all_with lines [] = tt
all_with lines (s ∷ ss) = (refl, all_with lines ss)

-- ---- of every run of a list, by value or exported, refused or not

pub record TraceOf (c : Call) (m : Machine) : Type 0 where
  pub lines : AllWith c.request.lines (call_trace c m)
  pub follow : Follows m (call_trace c m)
  pub last : last_from m (call_trace c m) ≡ (call_outcome c m).machine
  pub count : length (call_trace c m) ≡ (call_outcome c m).answer.steps

pub trace_of_the_run : (c : Call) (m : Machine) → Representable m → TraceOf c m
unfolding run_of steps_of
trace_of_the_run c m r =
    record {
      lines = subst (AllWith q.lines) (sym (trace_is c m r)) (all_with q.lines (steps_of q m));
      follow = subst (Follows m) (sym (trace_is c m r))
          (chosen (λ (ss : List Stepped). Follows m (made_with q.lines ss)) (eqb (run_refusal m q) 0) (steps_follow q q.wanted m) tt);
      last = ap (last_from m) (trace_is c m r) ∙ sym (ap (λ (o : Outcome). o.machine) (outcome_is c m r) ∙ ends_in_the_last q (begun m _) (steps_of q m));
      count = ap length (trace_is c m r)
          ∙ sym (ap (λ (o : Outcome). o.answer.steps) (outcome_is c m r) ∙ counts_steps q (begun m _) (steps_of q m) ∙ from_none _);
    }
  where
    q : Request
    q = c.request

    from_none : (n : ℕ) → 0 + n ≡ n
    from_none n = omega arith

-- ---- of a list of runs

joined : (m : Machine) (ss ts : List Made) → Follows m ss → Follows (last_from m ss) ts → Follows m (ss ++ ts)
joined m [] ts f g = g
joined m (s ∷ ss) ts f g = (f.0, joined s.machine ss ts f.1 g)

pub trace_follows : (calls : List Call) (m : Machine) → Representable m → Follows m (trace_of calls m)
unfolding trace_of
trace_follows [] m r = tt
trace_follows (c ∷ calls) m r =
    let own = trace_of_the_run c m r in
    let kept : Representable (call_outcome c m).machine =
    subst (λ (o : Outcome). Representable o.machine) (sym (outcome_is c m r)) (call_representable c.request m r) in
    joined m (call_trace c m) (trace_of calls (call_outcome c m).machine) own.follow
    (subst (λ (n : Machine). Follows n (trace_of calls (call_outcome c m).machine)) (sym own.last) (trace_follows calls (call_outcome c m).machine kept))
