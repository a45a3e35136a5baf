-- A list's trace is whole: it ends in the list's last machine and has all the steps answered. The cut ends at the leaving step and not before, and no
-- answer is left out of the comparison while every step is made in User Mode.
use mathlib.Core.Path.{◌≡◌, refl, ap, ap₂, sym, subst, ◌∙◌}
use mathlib.Core.Bool.{Bool, true, false, cond, true≢false}
use mathlib.Core.List.{List, [], ◌∷◌, ◌++◌}
use Prim.Native.Nat.{ℕ, ◌+◌}
use lib.ListN.{length, length-append}
use Rattle.words.specs.Lists.{Every}
use Rattle.words.proofs.Conjunction.{both_true, true_both}
use Rattle.machine.specs.Machine.{Machine, Representable}
use Rattle.run_loop.specs.Run.{Answer, Outcome}
use Rattle.run_loop.proofs.Kept.{call_representable}
use Rattle.isolation.specs.Trace.{Call, Made, in_user_mode, call_outcome, call_trace, trace_of, up_to_leaving, made_in_user_mode, answers_of}
use Rattle.isolation.specs.Claim.{Consecutive}
use Rattle.isolation.proofs.Entries.{outcome_is}
use Rattle.isolation.proofs.TraceLaws.{last_from, trace_of_the_run}

-- ---- the trace

-- the machine after a list, the steps that its runs answer together, and all their answers
abbrev pub end_of : List Call → Machine → Machine
end_of [] m = m
end_of (c ∷ calls) m = end_of calls (call_outcome c m).machine

abbrev pub steps_answered : List Call → Machine → ℕ
steps_answered [] m = 0
steps_answered (c ∷ calls) m = (call_outcome c m).answer.steps + steps_answered calls (call_outcome c m).machine

abbrev pub all_answers : List Call → Machine → List Answer
all_answers [] m = []
all_answers (c ∷ calls) m = (call_outcome c m).answer ∷ all_answers calls (call_outcome c m).machine

kept : (c : Call) (m : Machine) → Representable m → Representable (call_outcome c m).machine
kept c m r = subst (λ (o : Outcome). Representable o.machine) (sym (outcome_is c m r)) (call_representable c.request m r)

last_joined : (m : Machine) (ss ts : List Made) → last_from m (ss ++ ts) ≡ last_from (last_from m ss) ts
last_joined m [] ts = refl
last_joined m (s ∷ ss) ts = last_joined s.machine ss ts

pub list_last : (calls : List Call) (m : Machine) → Representable m → last_from m (trace_of calls m) ≡ end_of calls m
unfolding trace_of
list_last [] m r = refl
list_last (c ∷ calls) m r =
    last_joined m (call_trace c m) (trace_of calls (call_outcome c m).machine)
    ∙ ap (λ (n : Machine). last_from n (trace_of calls (call_outcome c m).machine)) (trace_of_the_run c m r).last
    ∙ list_last calls (call_outcome c m).machine (kept c m r)

pub list_count : (calls : List Call) (m : Machine) → Representable m → length (trace_of calls m) ≡ steps_answered calls m
unfolding trace_of
list_count [] m r = refl
list_count (c ∷ calls) m r =
    length-append (call_trace c m) (trace_of calls (call_outcome c m).machine)
    ∙ ap₂ ◌+◌ (trace_of_the_run c m r).count (list_count calls (call_outcome c m).machine (kept c m r))

-- ---- the cut

abbrev InUserMode : Made → Type 0
InUserMode s = in_user_mode s.machine ≡ true

-- it is the first part of the trace
pub cut_begins : (ss : List Made) → (rest : List Made) × (up_to_leaving ss ++ rest ≡ ss)
unfolding up_to_leaving
cut_begins [] = ([], refl)
cut_begins (s ∷ ss) = go (in_user_mode s.machine) (cut_begins ss)
  where
    go : (t : Bool) → (rest : List Made) × (up_to_leaving ss ++ rest ≡ ss) → (rest : List Made) × (s ∷ (cond t (up_to_leaving ss) [] ++ rest) ≡ s ∷ ss)
    go true (rest, e) = (rest, ap (λ (l : List Made). s ∷ l) e)
    go false (rest, e) = (ss, refl)

-- every step of it is made from a machine in User Mode
pub cut_in_user_mode : (m : Machine) (ss : List Made) → in_user_mode m ≡ true
    → Consecutive (λ before s. in_user_mode before ≡ true) m (up_to_leaving ss)
unfolding up_to_leaving
cut_in_user_mode m [] user = tt
cut_in_user_mode m (s ∷ ss) user = (user, go (in_user_mode s.machine) refl (λ stay. cut_in_user_mode s.machine ss stay))
  where
    go : (t : Bool) → in_user_mode s.machine ≡ t
        → (in_user_mode s.machine ≡ true → Consecutive (λ before s. in_user_mode before ≡ true) s.machine (up_to_leaving ss))
        → Consecutive (λ before s. in_user_mode before ≡ true) s.machine (cond t (up_to_leaving ss) [])
    go true e rest = rest e
    go false e rest = tt

-- where no step of it leaves, it is the whole trace
pub cut_whole : (ss : List Made) → Every InUserMode (up_to_leaving ss) → up_to_leaving ss ≡ ss
unfolding up_to_leaving
cut_whole [] h = refl
cut_whole (s ∷ ss) h = rw h.0 (ap (λ (l : List Made). s ∷ l) (cut_whole ss (tail (in_user_mode s.machine) h.0 h.1)))
  where
    tail : (t : Bool) → t ≡ true → Every InUserMode (cond t (up_to_leaving ss) []) → Every InUserMode (up_to_leaving ss)
    tail true e rest = rest
    tail false e rest = absurd (true≢false (sym e))

-- ---- the answers

-- the steps of a list are made in User Mode exactly if those of each run are
made_joined : (m : Machine) (ss ts : List Made) → made_in_user_mode m (ss ++ ts) ≡ true
    → (made_in_user_mode m ss ≡ true) × (made_in_user_mode (last_from m ss) ts ≡ true)
unfolding made_in_user_mode
made_joined m [] ts e = (refl, e)
made_joined m (s ∷ ss) ts e =
    let both_hold = both_true (in_user_mode m) (made_in_user_mode s.machine (ss ++ ts)) e in
    let rest = made_joined s.machine ss ts both_hold.1 in
    (true_both (in_user_mode m) (made_in_user_mode s.machine ss) both_hold.0 rest.0, rest.1)

pub all_answers_lem : (calls : List Call) (m : Machine) → Representable m → made_in_user_mode m (trace_of calls m) ≡ true
    → answers_of calls m ≡ all_answers calls m
unfolding trace_of answers_of
all_answers_lem [] m r e = refl
all_answers_lem (c ∷ calls) m r e =
    let own = made_joined m (call_trace c m) (trace_of calls (call_outcome c m).machine) e in
    let rest : made_in_user_mode (call_outcome c m).machine (trace_of calls (call_outcome c m).machine) ≡ true =
    subst (λ (n : Machine). made_in_user_mode n (trace_of calls (call_outcome c m).machine) ≡ true) (trace_of_the_run c m r).last own.1 in
    rw own.0 (ap (λ (l : List Answer). (call_outcome c m).answer ∷ l) (all_answers_lem calls (call_outcome c m).machine (kept c m r) rest))
