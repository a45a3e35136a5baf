-- One run of a list from two machines, refused or made: its trace and its answer.
use mathlib.Core.Path.{◌≡◌, refl, sym, subst, ◌∙◌}
use mathlib.Core.Bool.{Bool, true, false, cond, true≢false}
use mathlib.Core.List.{List, [], ◌∷◌, ◌++◌}
use Prim.Native.Nat.{suc, ◌+◌}
use lib.Dec.{eqb}
use borrow.Author.Tests.{eqb-true}
use Rattle.words.specs.Logic.{both}
use Rattle.words.specs.Lists.{Pairwise}
use Rattle.machine.specs.Machine.{Machine}
use Rattle.step.specs.Step.{Stepped}
use Rattle.refusals.specs.Refusal.{run_refusal}
use Rattle.charges.specs.Charges.{charge_of}
use Rattle.refusals.specs.Request.{Request}
use Rattle.run_loop.specs.Run.{Outcome, answer, ends, steps_from, steps_of, counted, counted_all, begun, run_of}
use Rattle.isolation.specs.Trace.{Call, Made, in_user_mode, made_with, call_outcome, call_trace, up_to_leaving, made_in_user_mode}
use Rattle.isolation.proofs.Entries.{outcome_is, trace_is}
use Rattle.isolation.proofs.Lift.{Both, BothAfter, mode_same, refusal_same, accepted_parts, Agree, steps_agree}

module _ (start : Machine) where
  -- ---- whether all steps were made in User Mode, and then the machines and the answers

  abbrev pub Ended : Bool → Bool → Outcome → Outcome → Type 0
  Ended t u o p = (u ≡ t) × (t ≡ true → Both start o.machine p.machine × (o.answer ≡ p.answer))

  module _ (q : Request) where
    abbrev made : List Stepped → List Made
    made ss = made_with q.lines ss

    -- two outcomes with the same answer, one step with the same event further on
    same_counted : (o p : Outcome) (s t : Stepped) → o.answer ≡ p.answer → s.event ≡ t.event
        → (counted q o s).answer ≡ (counted q p t).answer
    same_counted o p s t a e = λ i.
        answer (a i).refusal (suc (a i).steps) (cond (ends q.kind (e i).eid) (e i).eid 32) (e i).slot
        ((a i).charge + charge_of q.charging (e i).opcode)

    steps_end : (o p : Outcome) (ss ts : List Stepped) → Both start o.machine p.machine → o.answer ≡ p.answer
        → Agree start o.machine p.machine ss ts
        → Ended (made_in_user_mode o.machine (made ss)) (made_in_user_mode p.machine (made ts)) (counted_all q o ss) (counted_all q p ts)
    unfolding made_in_user_mode counted_all
    steps_end o p [] [] b a agree = (refl, λ _. (b, a))
    steps_end o p [] (t ∷ ts) b a agree = absurd agree
    steps_end o p (s ∷ ss) [] b a agree = absurd agree
    steps_end o p (s ∷ ss) (t ∷ ts) b a agree =
        subst (λ (u : Bool). Ended (both (in_user_mode o.machine) A) (both u B) F G) (sym (mode_same start o.machine p.machine b))
        (go (in_user_mode o.machine) refl (λ user. let (e, b', rest) = agree user in
        steps_end (counted q o s) (counted q p t) ss ts b' (same_counted o p s t a e) rest))
      where
        A : Bool
        A = made_in_user_mode s.machine (made ss)

        B : Bool
        B = made_in_user_mode t.machine (made ts)

        F : Outcome
        F = counted_all q (counted q o s) ss

        G : Outcome
        G = counted_all q (counted q p t) ts

        go : (v : Bool) → in_user_mode o.machine ≡ v → (in_user_mode o.machine ≡ true → Ended A B F G) → Ended (both v A) (both v B) F G
        go true user rest = rest user
        go false e rest = (refl, λ no. absurd (true≢false (sym no)))

    -- ---- the trace, and then what comes after it

    abbrev pub Pairs : List Made → List Made → Type 0
    Pairs xs ys = Pairwise (BothAfter start) (up_to_leaving xs) (up_to_leaving ys)

    -- how it goes on from the machines at the end of the run
    abbrev pub Onward : Machine → Machine → List Made → List Made → Type 0
    Onward m n xs ys = Both start m n → in_user_mode m ≡ true → Pairs xs ys

    steps_pair : (o p : Outcome) (ss ts : List Stepped) (xs ys : List Made) → Both start o.machine p.machine → in_user_mode o.machine ≡ true
        → Agree start o.machine p.machine ss ts → Onward (counted_all q o ss).machine (counted_all q p ts).machine xs ys
        → Pairs (made ss ++ xs) (made ts ++ ys)
    unfolding up_to_leaving counted_all
    steps_pair o p [] [] xs ys b user agree on = on b user
    steps_pair o p [] (t ∷ ts) xs ys b user agree on = absurd agree
    steps_pair o p (s ∷ ss) [] xs ys b user agree on = absurd agree
    steps_pair o p (s ∷ ss) (t ∷ ts) xs ys b user agree on =
        let (e, b', rest) = agree user in (
          b',
          subst (λ (u : Bool). Tails (in_user_mode s.machine) u) (sym (mode_same start s.machine t.machine b'))
              (go (in_user_mode s.machine) refl (λ stay. steps_pair (counted q o s) (counted q p t) ss ts xs ys b' stay rest on)),
        )
      where
        Tails : Bool → Bool → Type 0
        Tails v w = Pairwise (BothAfter start) (cond v (up_to_leaving (made ss ++ xs)) []) (cond w (up_to_leaving (made ts ++ ys)) [])

        go : (v : Bool) → in_user_mode s.machine ≡ v → (in_user_mode s.machine ≡ true → Pairs (made ss ++ xs) (made ts ++ ys)) → Tails v v
        go true stay rest = rest stay
        go false left rest = tt

  -- ---- a run of the list

  module _ (c : Call) (m n : Machine) (b : Both start m n) where
    abbrev q : Request
    q = c.request

    same : run_refusal n q ≡ run_refusal m q
    same = refusal_same start m n b q

    agree_by : (t : Bool) → eqb (run_refusal m q) 0 ≡ t
        → Agree start m n (cond t (steps_from q q.wanted m) []) (cond t (steps_from q q.wanted n) [])
    agree_by true e =
        let none = eqb-true (run_refusal m q) 0 e in
        steps_agree start q q.wanted m n b (accepted_parts m q none) (accepted_parts n q (same ∙ none))
    agree_by false e = tt

    agree : Agree start m n (steps_of q m) (steps_of q n)
    unfolding steps_of
    agree = rw same (agree_by (eqb (run_refusal m q) 0) refl)

    -- before any step
    before_m : Outcome
    before_m = begun m (run_refusal m q)

    before_n : Outcome
    before_n = begun n (run_refusal n q)

    pub call_ends : Ended (made_in_user_mode m (call_trace c m)) (made_in_user_mode n (call_trace c n)) (call_outcome c m) (call_outcome c n)
    unfolding run_of before_m before_n
    call_ends =
        rw (trace_is c m b.first, trace_is c n b.second, outcome_is c m b.first, outcome_is c n b.second)
        (steps_end q before_m before_n (steps_of q m) (steps_of q n) b (λ i. answer (sym same i) 0 32 33 0) agree)

    pub call_pairs : in_user_mode m ≡ true → (xs ys : List Made) → Onward q (call_outcome c m).machine (call_outcome c n).machine xs ys
        → Pairs q (call_trace c m ++ xs) (call_trace c n ++ ys)
    unfolding run_of before_m before_n
    call_pairs user xs ys on =
        rw (trace_is c m b.first, trace_is c n b.second)
        (steps_pair q before_m before_n (steps_of q m) (steps_of q n) xs ys b user agree
        (rw (outcome_is c m b.first, outcome_is c n b.second) at on))
