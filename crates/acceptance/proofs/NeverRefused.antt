-- A faulting program is never refused: a run keeps the lengths of the lent memory, a fit processor and a fit timer, and a later run asks for no
-- more.
use mathlib.Core.Path.{◌≡◌, refl, ap, sym, ◌∙◌}
use mathlib.Core.Bool.{true}
use mathlib.Core.List.{List}
use Prim.Native.Nat.{ℕ, ◌≤◌, ◌<◌}
use native.Mathlib.Omega.{arith}
use lib.ListN.{length, get_or, get_or-eq_default}
use borrow.Author.Tests.{le-leb, leb-true}
use lib.Dec.{leb}
use Rattle.words.proofs.Cases.{below_or_not}
use Rattle.words.proofs.Every.{◌&◌}
use Rattle.words.proofs.Conjunction.{true_both}
use Rattle.timer.specs.Timer.{timer_fit}
use Rattle.timer.specs.declared.Timer.{Timer}
use Rattle.memory.specs.Map.{Memory}
use Rattle.memory.proofs.OwnBytes.{SameLengths}
use Rattle.memory.proofs.StoreLaws.{store_lengths}
use Rattle.processor.specs.declared.Processor.{Processor}
use Rattle.processor.specs.State.{fit}
use Rattle.processor.proofs.FitLaws.{Fit, fit_means, means_fit}
use Rattle.instructions.specs.Action.{Action, Write, Store, System, Exception}
use Rattle.memory.specs.Access.{access_width}
use Rattle.machine.specs.Machine.{Machine, Bytes, Representable, fit_with}
use Rattle.machine.proofs.Representing.{representable}
use Rattle.step.specs.Step.{look, memory_done, step_of}
use Rattle.step.proofs.StepFit.{step_fit, step_timer_fits}
use Rattle.refusals.specs.Refusal.{ram_accepted, rom_accepted, belt_accepted, run_tests}
use Rattle.refusals.specs.Cause.{AllPass, Asked}
use Rattle.refusals.specs.Request.{Request}
use Rattle.refusals.proofs.Lengths.{charges_accepted}
use Rattle.run_loop.specs.Run.{Outcome, begun, run_from, run_of}
use Rattle.run_loop.proofs.Kept.{from_keeps, run_keeps, run_representable, call_representable}
use Rattle.record.proofs.Held.{held_value, held_timer}
use Rattle.record.proofs.Fitness.{both_fit}
use Rattle.record_layout.specs.Record.{record_of}
use Rattle.run_calls.specs.Runs.{call_tests, machine_in, recorded, Called, call_refusal, call_of}
use Rattle.isolation.specs.Trace.{Call, call_outcome}
use Rattle.isolation.proofs.Entries.{outcome_is, refusal_is}
use Rattle.acceptance.specs.Claim.{NeverRefused}
use Rattle.acceptance.proofs.Causes.{run, run_answers, call_answers, exported_run}

-- ---- what every step keeps: the lengths of the lent memory, a fit processor and a fit timer

done_lengths : (m : Memory) (a : Action) → SameLengths (memory_done m a) m
done_lengths m (Write n v next slot) = (refl, refl, refl)
done_lengths m (Store width physical v slot) = store_lengths (access_width width) m physical v
done_lengths m (System i) = (refl, refl, refl)
done_lengths m (Exception eid address) = (refl, refl, refl)

-- a machine as a run leaves it
abbrev Sound : Memory → Machine → Type 0
Sound lent m = SameLengths m.memory lent × Fit m.processor × (m.timer.control ≤ 3)

step_sound : (lent : Memory) (m : Machine) (lines : ℕ) → Sound lent m → Sound lent (step_of m lines).machine
unfolding step_of
step_sound lent m lines s =
    let same = done_lengths m.memory (look m lines) in
    ((same.0 ∙ s.0.0, same.1 ∙ s.0.1, same.2 ∙ s.0.2), step_fit m lines s.1, step_timer_fits m lines s.2)

-- fitness, as the tests ask it and as a step keeps it
fits : (p : Processor) (t : Timer) → Fit p → t.control ≤ 3 → fit_with p t ≡ true
unfolding fit_with timer_fit
fits p t f h = true_both (fit p) (leb t.control 3) (means_fit p f) (le-leb t.control 3 h)

fits_mean : (p : Processor) (t : Timer) → fit_with p t ≡ true → Fit p × (t.control ≤ 3)
unfolding timer_fit
fits_mean p t e = let both = both_fit p t e in (fit_means p both.0, leb-true t.control 3 both.1)

-- ---- the tests of the next run

module _ (lent : Memory) (ram : ram_accepted (length lent.ram) ≡ true) (rom : rom_accepted (length lent.rom) ≡ true)
    (belt : belt_accepted (length lent.belt) ≡ true) where
  passes : (m : Machine) (q : Request) → Sound lent m → Asked q → AllPass (run_tests m q)
  passes m q s h =
      (ap ram_accepted s.0.0 ∙ ram) & (ap rom_accepted s.0.1 ∙ rom) & (ap belt_accepted s.0.2 ∙ belt)
      & fits m.processor m.timer s.1 s.2 & le-leb q.wanted 1000000 h.0 & (charges_accepted q.charging).1 h.1

module _ (q : Request) (m : Machine) (accepted : (run_of q m).answer.refusal ≡ 0) (later : Request) (most : Asked later) where
  passed : AllPass (run_tests m q)
  passed = (run q m).accepted.0 accepted

  sound : Sound m.memory (run_of q m).machine
  sound =
      let start = fits_mean m.processor m.timer passed.1.1.1.0 in
      run_keeps (Sound m.memory) (step_sound m.memory) q m ((refl, refl, refl), start.0, start.1)

  by_value : (run_of later (run_of q m).machine).answer.refusal ≡ 0
  by_value =
      (run later (run_of q m).machine).accepted.1
      (passes m.memory passed.0 passed.1.0 passed.1.1.0 (run_of q m).machine later sound most)

-- ---- both entry points, in any order

by_any : (c : Call) (m : Machine) → Representable m → (call_outcome c m).answer.refusal ≡ 0
    → (later : Call) → Asked later.request → (call_outcome later (call_outcome c m).machine).answer.refusal ≡ 0
by_any c m r accepted later most =
    let first : call_outcome c m ≡ run_of c.request m = outcome_is c m r in
    let types : Representable (run_of c.request m).machine = call_representable c.request m r in
    ap (λ (o : Outcome). (call_outcome later o.machine).answer.refusal) first
    ∙ ap (λ (o : Outcome). o.answer.refusal) (outcome_is later (run_of c.request m).machine types)
    ∙ by_value c.request m (sym (ap (λ (o : Outcome). o.answer.refusal) first) ∙ accepted) later.request most

-- ---- the machine that bytes hold is one of the code's types

pub held_representable : (s : List ℕ) (m : Memory) → ((j : ℕ) → get_or s j 0 < 256) → Bytes m.ram → Bytes m.rom → Bytes m.belt
    → Representable (machine_in s m)
held_representable s m h ram rom belt =
    let v = held_value s h in
    representable (v.arrays.registers, λ i k. v.registers i) v.pc v.psw v.index v.entryhigh v.entrylow v.badaddress
    (v.arrays.highs, λ i k. v.highs i) (v.arrays.lows, λ i k. v.lows i) v.replacement (held_timer s h) ram rom belt

-- ---- exported: of any bytes that were accepted as a machine's record, what the call left in the buffer and in the lent memory

module _ (q : Request) (s : List ℕ) (m : Memory) (bytes : Bytes s) (ram : Bytes m.ram) (rom : Bytes m.rom) (belt : Bytes m.belt) where
  -- past the end the number is 0
  every_byte : (j : ℕ) → get_or s j 0 < 256
  every_byte j =
      below_or_not j (length s) (λ h. bytes j h) (λ h. rw (get_or-eq_default s 0 {n = j} h) (omega arith))

  start : Representable (machine_in s m)
  start = held_representable s m every_byte ram rom belt

  end : Outcome
  end = run_from q q.wanted (begun (machine_in s m) 0)

  module _ (accepted : (call_of q s m).answer.refusal ≡ 0) (later : Request) (most : Asked later) where
    all : AllPass (call_tests s m q)
    all = (exported_run q s m).accepted.0 accepted

    made : call_of q s m ≡ recorded end
    unfolding call_of end
    made = let none : call_refusal s m q ≡ 0 = sym (call_answers q s m) ∙ accepted in simp none

    left : Sound m end.machine
    unfolding end
    left =
        let fits = fits_mean (machine_in s m).processor (machine_in s m).timer all.1.1.1.1.1.0 in
        from_keeps (Sound m) (step_sound m) q q.wanted (begun (machine_in s m) 0) ((refl, refl, refl), fits.0, fits.1)

    types : Representable end.machine
    unfolding end
    types = run_representable q q.wanted (begun (machine_in s m) 0) start

    exported : (call_of later (call_of q s m).buffer (call_of q s m).memory).answer.refusal ≡ 0
    exported =
        ap (λ (c : Called). (call_of later c.buffer c.memory).answer.refusal) made
        ∙ call_answers later (record_of end.machine.processor end.machine.timer) end.machine.memory
        ∙ refusal_is end.machine types later
        ∙ sym (run_answers later end.machine)
        ∙ (run later end.machine).accepted.1 (passes m all.0 all.1.0 all.1.1.0 end.machine later left most)

-- ---- all three

pub never_refused : NeverRefused
never_refused = record { by_value = by_value; exported = exported; by_any = by_any }
