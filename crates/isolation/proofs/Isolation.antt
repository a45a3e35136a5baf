-- User Mode isolation of every list of runs, from any machine in User Mode (demand 3).
use mathlib.Core.Path.{◌≡◌, refl, ap, ap₂, sym, ◌∙◌}
use mathlib.Core.Bool.{Bool, true, false, cond, true≢false}
use mathlib.Core.List.{List, [], ◌∷◌}
use Prim.Native.Nat.{ℕ, suc}
use Rattle.timer.specs.Timer.{ticked, ticks}
use Rattle.tlb.specs.Lookup.{next_replacement, replacement_after}
use Rattle.memory.specs.Map.{Memory}
use Rattle.machine.specs.Machine.{Machine, Representable}
use Rattle.isolation.specs.Frames.{TimerNotWritable, SameIn}
use Rattle.words.specs.Lists.{Pairwise}
use Rattle.isolation.specs.Trace.{Call, Made, in_user_mode, call_outcome, call_trace, trace_of, up_to_leaving, made_in_user_mode, answers_of}
use Rattle.isolation.specs.Claim.{Held, HeldStep, Consecutive, Numbered, Alike, AlikeAfter, Isolated}
use Rattle.step.proofs.IndexLaws.{step_moves}
use Rattle.isolation.proofs.UserStep.{step_ticks, step_left}
use Rattle.isolation.proofs.TraceLaws.{Follows, trace_follows}
use Rattle.isolation.proofs.Lift.{Both, BothAfter}
use Rattle.isolation.proofs.Runs.{Ended, call_ends, call_pairs}

-- ---- the list

-- what one test picks is the same where it holds
same_choice : {A : Type 0} {x y : List A} (t u : Bool) → u ≡ t → (t ≡ true → x ≡ y) → cond t x [] ≡ cond u y []
same_choice true true e f = f refl
same_choice true false e f = absurd (true≢false (sym e))
same_choice false true e f = absurd (true≢false e)
same_choice false false e f = refl

module _ (start : Machine) where
  list_pairs : (calls : List Call) (m n : Machine) → Both start m n → in_user_mode m ≡ true
      → Pairwise (BothAfter start) (up_to_leaving (trace_of calls m)) (up_to_leaving (trace_of calls n))
  unfolding trace_of up_to_leaving
  list_pairs [] m n b user = tt
  list_pairs (c ∷ calls) m n b user =
      call_pairs start c m n b user _ _ (λ b' user'. list_pairs calls (call_outcome c m).machine (call_outcome c n).machine b' user')

  list_answers : (calls : List Call) (m n : Machine) → Both start m n → answers_of calls m ≡ answers_of calls n
  unfolding answers_of
  list_answers [] m n b = refl
  list_answers (c ∷ calls) m n b =
      same_choice (made_in_user_mode m (call_trace c m)) (made_in_user_mode n (call_trace c n)) ended.0
      (λ all. ap₂ ◌∷◌ (ended.1 all).1 (list_answers calls (call_outcome c m).machine (call_outcome c n).machine (ended.1 all).0))
    where
      ended : Ended start (made_in_user_mode m (call_trace c m)) (made_in_user_mode n (call_trace c n)) (call_outcome c m) (call_outcome c n)
      ended = call_ends start c m n b

-- ---- a machine against itself

same_memory : (F : ℕ → Type 0) (m : Memory) → SameIn F m m
same_memory F m = record { ram = refl; rom = refl; belt = refl; bytes = λ j h. refl }

held_at_start : (m : Machine) → Held m m
held_at_start m =
    record {
      tlbhigh = refl;
      tlblow = refl;
      rom = refl;
      frames = same_memory _ m.memory;
      staying = λ _. refl;
    }

-- ---- the two parts of the claim

module _ (start : Machine) where
  -- a step as the claim has it, and what it makes of the timer
  abbrev HeldTick : Machine → Made → Type 0
  HeldTick m s = HeldStep start m s × (TimerNotWritable start.processor → s.machine.timer ≡ ticked m.timer)

  -- past a step: only where it stays in User Mode is there more
  onward : (m : Machine) (t : Bool) → in_user_mode m ≡ t → (u : Bool) (xs ys : List Made)
      → Pairwise (BothAfter start) (cond t (up_to_leaving xs) []) (cond u (up_to_leaving ys) [])
      → ((zs : List Made) → in_user_mode m ≡ true → Pairwise (BothAfter start) (up_to_leaving xs) (up_to_leaving zs)
      → Consecutive HeldTick m (up_to_leaving xs))
      → Consecutive HeldTick m (cond t (up_to_leaving xs) [])
  unfolding up_to_leaving
  onward m true stay true xs ys rest go = go ys stay rest
  onward m true stay false xs ys rest go = go [] stay rest
  onward m false out u xs ys rest go = tt

  -- from a machine in User Mode on: each pair's first machine is held, and each step follows the one before
  held_steps : (m : Machine) (xs ys : List Made) → Held start m → in_user_mode m ≡ true → Follows m xs
      → Pairwise (BothAfter start) (up_to_leaving xs) (up_to_leaving ys) → Consecutive HeldTick m (up_to_leaving xs)
  unfolding up_to_leaving
  held_steps m [] ys held user f pairs = tt
  held_steps m (x ∷ xs) [] held user f pairs = absurd pairs
  held_steps m (x ∷ xs) (y ∷ ys) held user f pairs = (
    (
      record {
        step = f.0;
        held = pairs.0.held;
        leaving = step_left start m held user x.lines x.machine f.0;
      },
      λ closed. step_ticks start m held user x.lines closed x.machine f.0,
    ),
    onward x.machine (in_user_mode x.machine) refl (in_user_mode y.machine) xs ys pairs.1
        (λ zs stay rest. held_steps x.machine xs zs pairs.0.held stay f.1 rest),
  )

  steps_held : (m : Machine) (xs : List Made) → Consecutive HeldTick m xs → Consecutive (HeldStep start) m xs
  steps_held m [] h = tt
  steps_held m (x ∷ xs) h = (h.0.0, steps_held x.machine xs h.1)

-- each step moves the index once, so n steps move it n times
indexed : (start : Machine) (n : ℕ) (m : Machine) (xs : List Made) → m.processor.replacement ≡ replacement_after n start.processor.replacement
    → Consecutive (HeldTick start) m xs
    → Numbered (λ k s. s.machine.processor.replacement ≡ replacement_after k start.processor.replacement) (suc n) xs
unfolding replacement_after
indexed start n m [] e h = tt
indexed start n m (x ∷ xs) e h =
    let now : x.machine.processor.replacement ≡ replacement_after (suc n) start.processor.replacement =
    ap (λ (k : Machine). k.processor.replacement) h.0.0.step ∙ step_moves m x.lines ∙ ap next_replacement e in
    (now, indexed start (suc n) x.machine xs now h.1)

-- each step ticks once, so n steps tick n times
numbered : (start : Machine) → TimerNotWritable start.processor → (n : ℕ) (m : Machine) (xs : List Made) → m.timer ≡ ticks n start.timer
    → Consecutive (HeldTick start) m xs → Numbered (λ k s. s.machine.timer ≡ ticks k start.timer) (suc n) xs
unfolding ticks
numbered start closed n m [] e h = tt
numbered start closed n m (x ∷ xs) e h =
    let now : x.machine.timer ≡ ticks (suc n) start.timer = h.0.1 closed ∙ ap ticked e in
    (now, numbered start closed (suc n) x.machine xs now h.1)

alikes : (start : Machine) (xs ys : List Made) → Pairwise (BothAfter start) xs ys → Pairwise (AlikeAfter start.processor) xs ys
alikes start [] [] h = tt
alikes start [] (y ∷ ys) h = absurd h
alikes start (x ∷ xs) [] h = absurd h
alikes start (x ∷ xs) (y ∷ ys) h = (h.0.alike, alikes start xs ys h.1)

-- ---- the theorem

module _ (calls : List Call) (start : Machine) (types : Representable start) (user : in_user_mode start ≡ true) where
  begun : (twin : Machine) → Representable twin → Alike start.processor start twin → Both start start twin
  begun twin types' alike = record { alike = alike; held = held_at_start start; first = types; second = types' }

  held : Consecutive (HeldTick start) start (up_to_leaving (trace_of calls start))
  held =
      held_steps start start (trace_of calls start) (trace_of calls start) (held_at_start start) user (trace_follows calls start types)
      (list_pairs start calls start start
      (begun start types (record { processor = refl; timer = refl; frames = same_memory _ start.memory })) user)

  pub isolated : Isolated calls start
  unfolding ticks replacement_after
  isolated =
      record {
        integrity =
            record {
              steps = steps_held start start (up_to_leaving (trace_of calls start)) held;
              index = indexed start 0 start (up_to_leaving (trace_of calls start)) refl held;
              timer = λ closed. numbered start closed 0 start (up_to_leaving (trace_of calls start)) refl held;
            };
        confidentiality = λ twin types' alike.
            record {
              steps = alikes start (up_to_leaving (trace_of calls start)) (up_to_leaving (trace_of calls twin))
                  (list_pairs start calls start twin (begun twin types' alike) user);
              answers = list_answers start calls start twin (begun twin types' alike);
            };
      }
