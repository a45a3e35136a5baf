-- From one step to the steps of a run, from two machines that are alike.
use mathlib.Core.Path.{◌≡◌, ap, sym, subst}
use mathlib.Core.Bool.{Bool, true, false, cond}
use mathlib.Core.List.{List, [], ◌∷◌}
use Prim.Native.Nat.{ℕ, zero, suc}
use native.Mathlib.Omega.{arith}
use Rattle.memory.specs.Map.{Memory}
use Rattle.memory.proofs.OwnBytes.{Apart, accepted_apart}
use Rattle.memory.proofs.StoreLaws.{store_lengths}
use Rattle.status.specs.Psw.{user_mode}
use Rattle.processor.specs.declared.Processor.{Processor}
use Rattle.instructions.specs.Action.{Action, Write, Store, System, Exception}
use Rattle.machine.specs.Machine.{Machine, Representable}
use Rattle.memory.specs.Access.{access_width}
use Rattle.step.specs.Step.{look, memory_done, Event, Stepped, step_of}
use Rattle.refusals.specs.Refusal.{run_tests, run_refusal}
use Rattle.refusals.proofs.FirstFailed.{all_pass}
use Rattle.refusals.proofs.Lengths.{ram_accepted_lem, rom_accepted_lem}
use Rattle.refusals.specs.Request.{Request}
use Rattle.refusals.proofs.Lengths.{charges_numbered}
use Rattle.run_loop.specs.Run.{ends, steps_from}
use Rattle.step.proofs.StepRepresentable.{step_representable}
use Rattle.isolation.specs.Trace.{Made, in_user_mode}
use Rattle.isolation.specs.Claim.{Held, Alike}
use Rattle.isolation.proofs.UserStep.{step_held, step_alike, event_alike}

-- ---- no two memories share an address while a run is made

done_apart : (m : Memory) (a : Action) → Apart m → Apart (memory_done m a)
done_apart m (Write n v next slot) h = h
done_apart m (Store width physical v slot) h =
    let l = store_lengths (access_width width) m physical v in
    (omega (arith, l.0, h.0), omega (arith, l.1, h.1))
done_apart m (System i) h = h
done_apart m (Exception eid address) h = h

step_apart : (m : Machine) (lines : ℕ) → Apart m.memory → Apart (step_of m lines).machine.memory
unfolding step_of
step_apart m lines h = done_apart m.memory (look m lines) h

pub accepted_parts : (m : Machine) (q : Request) → run_refusal m q ≡ 0 → Apart m.memory
unfolding run_refusal
accepted_parts m q e =
    let passed = all_pass (run_tests m q) (charges_numbered q.charging) e in
    accepted_apart m.memory ((ram_accepted_lem _).0 passed.0).1 ((rom_accepted_lem _).0 passed.1.0).1

-- ---- what is carried along

pub record Both (start m n : Machine) : Type 0 where
  pub alike : Alike start.processor m n
  pub held : Held start m
  pub first : Representable m
  pub second : Representable n

-- after a step of each
abbrev pub BothAfter : Machine → Made → Made → Type 0
BothAfter start s t = Both start s.machine t.machine

module _ (start : Machine) where
  pub mode_same : (m n : Machine) → Both start m n → in_user_mode n ≡ in_user_mode m
  mode_same m n b = ap (λ (p : Processor). user_mode p.psw) (sym b.alike.processor)

  pub refusal_same : (m n : Machine) → Both start m n → (q : Request) → run_refusal n q ≡ run_refusal m q
  unfolding run_refusal
  refusal_same m n b q = rw (b.alike.processor, b.alike.timer, b.alike.frames.ram, b.alike.frames.rom, b.alike.frames.belt)

  module _ (lines : ℕ) where
    step_both : (m n : Machine) → Both start m n → in_user_mode m ≡ true → Apart m.memory → Apart n.memory
        → Both start (step_of m lines).machine (step_of n lines).machine
    step_both m n b user apart apart' =
        record {
          alike = step_alike start.processor m n b.alike b.held.tlbhigh b.held.tlblow user apart apart' lines;
          held = step_held start m b.held user lines;
          first = step_representable m lines b.first;
          second = step_representable n lines b.second;
        }

    event_both : (m n : Machine) → Both start m n → in_user_mode m ≡ true → Apart m.memory → Apart n.memory
        → (step_of m lines).event ≡ (step_of n lines).event
    event_both m n b user apart apart' =
        event_alike start.processor m n b.alike b.held.tlbhigh b.held.tlblow user apart apart' lines

  -- ---- the steps of a run from two machines

  -- as many, and while the machines before them are in User Mode, with equal events and alike machines after them
  abbrev pub Agree : Machine → Machine → List Stepped → List Stepped → Type 0
  Agree m n [] [] = Unit {0}
  Agree m n [] (t ∷ ts) = ⊥
  Agree m n (s ∷ ss) [] = ⊥
  Agree m n (s ∷ ss) (t ∷ ts) =
      in_user_mode m ≡ true → (s.event ≡ t.event) × Both start s.machine t.machine × Agree s.machine t.machine ss ts

  pub steps_agree : (q : Request) (k : ℕ) (m n : Machine) → Both start m n → Apart m.memory → Apart n.memory
      → Agree m n (steps_from q k m) (steps_from q k n)
  unfolding steps_from
  steps_agree q zero m n b apart apart' = tt
  steps_agree q (suc k) m n b apart apart' = λ user.
      let b' = step_both q.lines m n b user apart apart' in
      let same = event_both q.lines m n b user apart apart' in
      let rest = steps_agree q k m' n' b' (step_apart m q.lines apart) (step_apart n q.lines apart') in
      let last = ends q.kind x.eid in
      (same, b', subst (λ (e : Event). Agree m' n' (left last m') (left (ends q.kind e.eid) n')) same (go last rest))
    where
      m' : Machine
      m' = (step_of m q.lines).machine

      n' : Machine
      n' = (step_of n q.lines).machine

      x : Event
      x = (step_of m q.lines).event

      -- the steps after this one
      left : Bool → Machine → List Stepped
      left t o = cond t [] (steps_from q k o)

      go : (t : Bool) → Agree m' n' (steps_from q k m') (steps_from q k n') → Agree m' n' (left t m') (left t n')
      go true rest = tt
      go false rest = rest
