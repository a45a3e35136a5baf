-- The exported runs, by the tests of the code.
use mathlib.Core.Path.{◌≡◌, refl, ap, sym, ◌∙◌}
use mathlib.Core.Bool.{Bool, true, false, cond}
use mathlib.Core.List.{List, [], ◌∷◌, ◌++◌}
use Prim.Native.Nat.{ℕ, ◌*◌, ◌≤◌, ◌<◌}
use native.Mathlib.Nat.{zero-add}
use native.Mathlib.Omega.{arith}
use lib.Dec.{eqb}
use lib.ListN.{length, get_or}
use borrow.Author.Tests.{ne_eqb, eqb-true, leb-true}
use Rattle.memory.specs.Map.{Memory}
use Rattle.timer.specs.declared.Timer.{Timer}
use Rattle.timer.specs.Timer.{timer_fit}
use Rattle.processor.specs.declared.Processor.{Processor}
use Rattle.processor.proofs.FitLaws.{Fit, fit_means}
use Rattle.processor.specs.State.{fit}
use Rattle.record_layout.specs.Record.{record_of, processor_of, timer_of}
use Rattle.record.specs.Calls.{processor_unless, timer_unless, machine_tests, machine_refusal}
use Rattle.record.proofs.Fitness.{both_fit}
use Rattle.record.proofs.ReadWritten.{machine_written}
use Rattle.refusals.specs.Refusal.{Test, first_failed, memory_tests, steps_test, charges_tests, request_tests}
use Rattle.refusals.proofs.FirstFailed.{joined, all_pass}
use Rattle.charges.specs.Charges.{Charging, Uncharged, most_charged}
use Rattle.refusals.specs.Request.{Request, request, without_charging}
use Rattle.refusals.specs.Cause.{AllPass}
use Rattle.refusals.specs.declared.Refusal.{Refusal}
use Rattle.refusals.specs.Code.{refusal_number}
use Rattle.refusals.proofs.Numbers.{never_accepted}
use Rattle.refusals.proofs.Lengths.{charges_numbered, charges_last}
use Rattle.run_loop.proofs.Charged.{sum_of, from_charge, from_bounded, from_uncharged}
use Rattle.run_loop.specs.Run.{answer, Outcome, begun, steps_from, run_from}
use Rattle.run_loop.proofs.Loop.{no_step}
use Rattle.run_loop.proofs.Kept.{run_fit, run_timer_fits}
use Rattle.run_calls.specs.Runs.{call_tests, call_refusal, Called, called, machine_in, recorded, call_steps, call_of}
use Rattle.run_calls.specs.Code.{first_of}

-- the numbers of a refused call
pub answers : (s : List ℕ) (m : Memory) {x y z w v r : ℕ} → (x ≡ r) × (y ≡ 0) × (z ≡ 32) × (w ≡ 33) × (v ≡ 0)
    → called s m x y z w v ≡ called s m r 0 32 33 0
answers s m e = rw (e.0, e.1, e.2, e.3, e.4)

-- ---- a record that is read: its size, and that the machine after the run can be written

module _ (s : List ℕ) (r : 0 ≡ machine_refusal s) where
  read_passed : AllPass (machine_tests s)
  unfolding machine_refusal
  read_passed = all_pass (machine_tests s) refl (sym r)

  pub size_of_read : length s ≡ 424
  size_of_read = eqb-true _ _ read_passed.0

  fits_read : (fit (processor_of s) ≡ true) × (timer_fit (timer_of s) ≡ true)
  fits_read = both_fit (processor_of s) (timer_of s) read_passed.1.1.0

  module _ (m : Memory) (q : Request) {p : Processor} (f : p ≡ processor_unless (machine_refusal s) s) {u : Timer}
      (g : u ≡ timer_unless (machine_refusal s) s) {o : Outcome} (h : o ≡ run_from q q.wanted (begun (record { processor = p; timer = u; memory = m }) 0)) where
    -- the machine that was read is the record's
    run_of_read : o ≡ run_from q q.wanted (begun (machine_in s m) 0)
    run_of_read =
        let processor_read : p ≡ processor_of s = f ∙ ap (λ (n : ℕ). processor_unless n s) (sym r) in
        let timer_read_lem : u ≡ timer_of s = g ∙ ap (λ (n : ℕ). timer_unless n s) (sym r) in
        h ∙ (λ i. run_from q q.wanted (begun (record { processor = processor_read i; timer = timer_read_lem i; memory = m }) 0))

    pub left_index : o.machine.processor.replacement < 256
    left_index =
        let end = (run_fit q q.wanted (begun (machine_in s m) 0) (fit_means (processor_of s) fits_read.0)).upto in
        omega (arith, end, ap (λ (q : Outcome). q.machine.processor.replacement) run_of_read)

    pub left_control : o.machine.timer.control < 256
    unfolding timer_fit
    left_control =
        let end = run_timer_fits q q.wanted (begun (machine_in s m) 0) (leb-true (timer_of s).control 3 fits_read.1) in
        omega (arith, end, ap (λ (q : Outcome). q.machine.timer.control) run_of_read)

-- ---- an accepted call passes every test

module _ (s : List ℕ) (m : Memory) (q : Request) (accepted : call_refusal s m q ≡ 0) where
  passed : AllPass (call_tests s m q)
  unfolding call_refusal
  passed = all_pass (call_tests s m q) (charges_numbered q.charging) accepted

  size : length s ≡ 424
  size = eqb-true _ _ passed.1.1.1.0

  within : q.wanted ≤ 1000000
  within = leb-true q.wanted 1000000 passed.1.1.1.1.1.1.0

  charges : AllPass (charges_tests q.charging)
  charges = passed.1.1.1.1.1.1.1

  fits : (fit (processor_of s) ≡ true) × (timer_fit (timer_of s) ≡ true)
  fits = both_fit (processor_of s) (timer_of s) passed.1.1.1.1.1.0

  read_fits : Fit (processor_of s)
  read_fits = fit_means (processor_of s) fits.0

  timer_fits : (timer_of s).control ≤ 3
  unfolding timer_fit
  timer_fits = leb-true (timer_of s).control 3 fits.1

  machine_accepted : machine_refusal s ≡ 0
  unfolding machine_refusal
  machine_accepted = rw (passed.1.1.1.0, passed.1.1.1.1.0, passed.1.1.1.1.1.0)

-- ---- the tests of the code: of the lengths, of the record and of the request, and the first that refuses

module _ (s : List ℕ) (m : Memory) (q : Request) where
  by_parts : call_refusal s m q
      ≡ cond (eqb (first_failed (memory_tests m)) 0)
      (cond (eqb (machine_refusal s) 0) (first_failed (request_tests q.wanted q.charging)) (machine_refusal s)) (first_failed (memory_tests m))
  unfolding call_refusal machine_refusal
  by_parts =
      let last : List Test = request_tests q.wanted q.charging in
      joined (memory_tests m) (machine_tests s ++ last) refl
      ∙ ap (λ (n : ℕ). cond (eqb (first_failed (memory_tests m)) 0) n (first_failed (memory_tests m))) (joined (machine_tests s) last refl)

  pub refused_number : {number : ℕ} → number ≡ call_refusal s m q → (number ≡ 0 → ⊥) → called s m number 0 32 33 0 ≡ call_of q s m
  unfolding call_of
  refused_number {number} f h = rw (← f) (simp (ne_eqb number 0 h))

  -- the same, by the numbers of the three parts
  module _ {l r t number : ℕ} (lengths : l ≡ first_failed (memory_tests m)) (read : r ≡ machine_refusal s)
      (asked : t ≡ first_failed (request_tests q.wanted q.charging)) (first : number ≡ first_of l (first_of r t)) where
    is_number : number ≡ call_refusal s m q
    unfolding first_of
    is_number = first ∙ rw (lengths, read, asked) (sym by_parts)

    pub refused_call : (number ≡ 0 → ⊥) → called s m number 0 32 33 0 ≡ call_of q s m
    refused_call h = refused_number is_number h

  by_refusal : (e : Refusal) → refusal_number e ≡ call_refusal s m q → called s m (refusal_number e) 0 32 33 0 ≡ call_of q s m
  by_refusal e f = refused_number f (never_accepted e)

  pub lengths_refused : (e : Refusal) → refusal_number e ≡ first_failed (memory_tests m) → called s m (refusal_number e) 0 32 33 0 ≡ call_of q s m
  lengths_refused e l = by_refusal e (sym (by_parts ∙ rw (← l) (simp (ne_eqb (refusal_number e) 0 (never_accepted e)))))

  module _ (l : 0 ≡ first_failed (memory_tests m)) where
    pub record_refused : (e : Refusal) → refusal_number e ≡ machine_refusal s → called s m (refusal_number e) 0 32 33 0 ≡ call_of q s m
    record_refused e r = by_refusal e (sym (by_parts ∙ rw (← l, ← r) (simp (ne_eqb (refusal_number e) 0 (never_accepted e)))))

    module _ (r : 0 ≡ machine_refusal s) where
      pub request_refused : (e : Refusal) → refusal_number e ≡ first_failed (request_tests q.wanted q.charging)
          → called s m (refusal_number e) 0 32 33 0 ≡ call_of q s m
      request_refused e t = by_refusal e (sym (by_parts ∙ rw (← l, ← r, ← t) refl))

      module _ (t : 0 ≡ first_failed (request_tests q.wanted q.charging)) where
        none : call_refusal s m q ≡ 0
        none = by_parts ∙ rw (← l, ← r, ← t) refl

        pub record_size : length s ≡ 424
        record_size = size s m q none

        pub steps_within : q.wanted ≤ 1000000
        steps_within = within s m q none

        pub charges_pass : AllPass (charges_tests q.charging)
        charges_pass = charges s m q none

        module _ {p : Processor} (f : p ≡ processor_unless (machine_refusal s) s) {u : Timer} (g : u ≡ timer_unless (machine_refusal s) s)
            {o : Outcome} (h : o ≡ run_from q q.wanted (begun (record { processor = p; timer = u; memory = m }) 0)) where
          same : o ≡ run_from q q.wanted (begun (machine_in s m) 0)
          same = run_of_read s r m q f g h

          -- the outcome, with the buffer as it was written
          pub call_written : {b : List ℕ} → b ≡ record_of o.machine.processor o.machine.timer
              → ◌≡◌ {A = Called} (record { buffer = b; memory = o.machine.memory; answer = o.answer }) (call_of q s m)
          unfolding call_of
          call_written e = (λ i. record { buffer = e i; memory = o.machine.memory; answer = o.answer }) ∙ rw none (ap recorded same)

          pub run_index : o.machine.processor.replacement < 256
          run_index = left_index s r m q f g h

          pub run_control : o.machine.timer.control < 256
          run_control = left_control s r m q f g h

-- ---- zero steps change nothing

module _ (kind : Bool) (s : List ℕ) (m : Memory) (lines : ℕ) (c : Charging) where
  abbrev q : Request
  q = request kind 0 lines c

  pub no_steps : ((j : ℕ) → get_or s j 0 < 256) → call_refusal s m q ≡ 0 → call_of q s m ≡ called s m 0 0 32 33 0
  unfolding call_of
  no_steps bytes e =
      let same : record_of (processor_of s) (timer_of s) ≡ s = machine_written s bytes (machine_accepted s m q e) in
      rw e (ap recorded (no_step q (begun (machine_in s m) 0)) ∙ (λ i. record { buffer = same i; memory = m; answer = answer 0 0 32 33 0 }))

-- ---- all but the charge is as without charging

-- an exported run with its charge taken away
abbrev pub without_call_charge : Called → Called
without_call_charge c =
    called c.buffer c.memory c.answer.refusal c.answer.steps c.answer.eid c.answer.slot 0

module _ (q : Request) (s : List ℕ) (m : Memory) (not : call_refusal s m q ≡ 9 → ⊥) where
  same_refusal : call_refusal s m (without_charging q) ≡ call_refusal s m q
  unfolding call_refusal
  same_refusal =
      sym (charges_last (memory_tests m ++ (machine_tests s ++ (steps_test q.wanted ∷ []))) q.charging refl not)

  pub call_as_uncharged : call_of (without_charging q) s m ≡ without_call_charge (call_of q s m)
  unfolding call_of
  call_as_uncharged = rw same_refusal (go (eqb (call_refusal s m q) 0))
    where
      go : (t : Bool) → cond t (recorded (run_from (without_charging q) q.wanted (begun (machine_in s m) 0))) (called s m (call_refusal s m q) 0 32 33 0)
          ≡ without_call_charge (cond t (recorded (run_from q q.wanted (begun (machine_in s m) 0))) (called s m (call_refusal s m q) 0 32 33 0))
      go true = ap recorded (from_uncharged q q.wanted (begun (machine_in s m) 0))
      go false = refl

-- ---- a refused call costs nothing, by whatever number

pub refused_free : (q : Request) (s : List ℕ) (m : Memory) → (call_refusal s m q ≡ 0 → ⊥) → (call_of q s m).answer.charge ≡ 0
unfolding call_of
refused_free q s m h = simp (ne_eqb (call_refusal s m q) 0 h)

-- ---- the charge: the sum of what the steps cost, and at most their number times the largest charge

module _ (q : Request) (s : List ℕ) (m : Memory) where
  abbrev start : Outcome
  start = begun (machine_in s m) 0

  abbrev by : Bool → Called
  by t = cond t (recorded (run_from q q.wanted start)) (called s m (call_refusal s m q) 0 32 33 0)

  pub call_charge : (call_of q s m).answer.charge ≡ sum_of q.charging (call_steps q s m)
  unfolding call_of call_steps sum_of
  call_charge = go (eqb (call_refusal s m q) 0)
    where
      go : (t : Bool) → (by t).answer.charge ≡ sum_of q.charging (cond t (steps_from q q.wanted (machine_in s m)) [])
      go true = from_charge q q.wanted start ∙ zero-add (sum_of q.charging (steps_from q q.wanted (machine_in s m)))
      go false = refl

  pub call_bounded : (call_of q s m).answer.charge ≤ (call_of q s m).answer.steps * most_charged q.charging
  unfolding call_of
  call_bounded = go (eqb (call_refusal s m q) 0)
    where
      go : (t : Bool) → (by t).answer.charge ≤ (by t).answer.steps * most_charged q.charging
      go true = from_bounded q q.wanted start (omega arith)
      go false = omega arith

-- ---- and one without charging costs nothing, so its charge may be left out

module _ (kind : Bool) (wanted lines : ℕ) (s : List ℕ) (m : Memory) where
  abbrev uncharged : Request
  uncharged = request kind wanted lines Uncharged

  pub uncharged_free : (call_of uncharged s m).answer.charge ≡ 0
  unfolding call_of
  uncharged_free = go (eqb (call_refusal s m uncharged) 0)
    where
      go : (t : Bool)
          → (cond t (recorded (run_from uncharged wanted (begun (machine_in s m) 0))) (called s m (call_refusal s m uncharged) 0 32 33 0)).answer.charge ≡ 0
      go true = ap (λ (o : Outcome). o.answer.charge) (from_uncharged uncharged wanted (begun (machine_in s m) 0))
      go false = refl

  pub left_out : {b : List ℕ} {n : Memory} {x y z w v : ℕ} → called b n x y z w v ≡ call_of uncharged s m → called b n x y z w 0 ≡ call_of uncharged s m
  left_out {b} {n} {x} {y} {z} {w} e = ap (called b n x y z w) (sym (ap (λ (c : Called). c.answer.charge) e ∙ uncharged_free)) ∙ e
