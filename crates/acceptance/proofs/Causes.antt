-- A refusal comes only for its cause, of every call; and when a run, a reading and a writing are accepted.
use mathlib.Core.Path.{◌≡◌, refl, sym, subst, ◌∙◌}
use mathlib.Core.Bool.{Bool, true, false, cond}
use mathlib.Core.List.{List, [], ◌∷◌}
use mathlib.Core.Logic.{◌⊎◌, inl, inr}
use Prim.Native.Nat.{ℕ}
use lib.Dec.{eqb}
use lib.ListN.{length}
use borrow.Author.Tests.{eqb-true, eq-eqb}
use Rattle.words.specs.Logic.{Exactly}
use Rattle.words.proofs.Every.{◌&◌}
use Rattle.words.proofs.Conjunction.{either_means}
use Rattle.timer.specs.declared.Timer.{Timer}
use Rattle.memory.specs.Map.{Memory}
use Rattle.processor.specs.declared.Processor.{Processor}
use Rattle.record_layout.specs.Record.{kinds_in_place, processor_of, timer_of}
use Rattle.machine.specs.Machine.{Machine, fit_with}
use Rattle.step.specs.Step.{Stepped}
use Rattle.refusals.specs.Refusal.{charges_tests, run_tests, run_refusal}
use Rattle.refusals.specs.Cause.{numbers_of, OnlyForItsCause, RamLength, RomLength, BeltLength, Steps, ChargesLength}
use Rattle.refusals.proofs.Lengths.{ram_accepted_lem, rom_accepted_lem, belt_accepted_lem, steps_accepted, charges_accepted, charges_numbered}
use Rattle.refusals.proofs.Cause.{only_for_its_cause}
use Rattle.charges.specs.Charges.{Charging, Uncharged, ChargedBy}
use Rattle.refusals.specs.Request.{Request}
use Rattle.run_loop.specs.Run.{Outcome, counted, counted_all, begun, run_from, run_of}
use Rattle.run_calls.specs.Runs.{call_tests, call_refusal, machine_in, recorded, called, call_of}
use Rattle.record.specs.Calls.{record_tests, read_refusal, write_tests, write_refusal}
use Rattle.record.proofs.Answers.{readable_length, readable_old, readable_whole}
use Rattle.record_calls.specs.Records.{reset_tests, reset_refusal, copy_tests, copy_refusal}
use Rattle.record_calls.specs.Views.{call_view_tests, call_view_refusal, call_view_of}
use Rattle.page_view.specs.View.{looked_up, view_tests, view_refusal, view_of}
use Rattle.page_view.proofs.Answers.{viewed_refusal}
use Rattle.acceptance.specs.Claim.{of_charging, OnlyForCauses, Accepted}

-- ---- runs

-- no step changes the number
keeps_the_number : (q : Request) (o : Outcome) (ss : List Stepped) → (counted_all q o ss).answer.refusal ≡ o.answer.refusal
unfolding counted_all
keeps_the_number q o [] = refl
keeps_the_number q o (s ∷ ss) = keeps_the_number q (counted q o s) ss

pub run_answers : (q : Request) (m : Machine) → (run_of q m).answer.refusal ≡ run_refusal m q
unfolding run_of
run_answers q m = keeps_the_number q _ _

-- the numbers of a request's tests
charging_numbers : (c : Charging) → numbers_of (charges_tests c) ≡ of_charging c
charging_numbers Uncharged = refl
charging_numbers (ChargedBy s) = refl

pub run : (q : Request) (m : Machine) → OnlyForItsCause (1 ∷ 2 ∷ 3 ∷ 6 ∷ 7 ∷ of_charging q.charging) (run_tests m q) (run_of q m).answer.refusal
unfolding run_refusal
run q m =
    subst (λ (l : List ℕ). OnlyForItsCause (1 ∷ 2 ∷ 3 ∷ 6 ∷ 7 ∷ l) (run_tests m q) (run_of q m).answer.refusal) (charging_numbers q.charging)
    (subst (OnlyForItsCause _ (run_tests m q)) (sym (run_answers q m)) (only_for_its_cause (run_tests m q) (charges_numbered q.charging)))

pub call_answers : (q : Request) (s : List ℕ) (m : Memory) → (call_of q s m).answer.refusal ≡ call_refusal s m q
unfolding call_of run_from
call_answers q s m = go (eqb r 0) refl
  where
    r : ℕ
    r = call_refusal s m q

    go : (t : Bool) → eqb r 0 ≡ t
        → (cond t (recorded (run_from q q.wanted (begun (machine_in s m) 0))) (called s m r 0 32 33 0)).answer.refusal ≡ r
    go true e = keeps_the_number q _ _ ∙ sym (eqb-true r 0 e)
    go false e = refl

pub exported_run : (q : Request) (s : List ℕ) (m : Memory)
    → OnlyForItsCause (1 ∷ 2 ∷ 3 ∷ 4 ∷ 5 ∷ 6 ∷ 7 ∷ of_charging q.charging) (call_tests s m q) (call_of q s m).answer.refusal
unfolding call_refusal
exported_run q s m =
    subst (λ (l : List ℕ). OnlyForItsCause (1 ∷ 2 ∷ 3 ∷ 4 ∷ 5 ∷ 6 ∷ 7 ∷ l) (call_tests s m q) (call_of q s m).answer.refusal) (charging_numbers q.charging)
    (subst (OnlyForItsCause _ (call_tests s m q)) (sym (call_answers q s m)) (only_for_its_cause (call_tests s m q) (charges_numbered q.charging)))

-- ---- records

read : (s : List ℕ) → OnlyForItsCause (4 ∷ 5 ∷ 6 ∷ []) (record_tests s) (read_refusal s)
unfolding read_refusal
read s = only_for_its_cause (record_tests s) refl

write : (p : Processor) (t : Timer) (s : List ℕ) → OnlyForItsCause (4 ∷ 6 ∷ []) (write_tests p t s) (write_refusal p t s)
unfolding write_refusal
write p t s = only_for_its_cause (write_tests p t s) refl

exported_reset : (buffer : List ℕ) → OnlyForItsCause (4 ∷ []) (reset_tests buffer) (reset_refusal buffer)
unfolding reset_refusal
exported_reset buffer = only_for_its_cause (reset_tests buffer) refl

exported_copy : (from buffer : List ℕ) → OnlyForItsCause (4 ∷ 4 ∷ 5 ∷ 6 ∷ []) (copy_tests from buffer) (copy_refusal from buffer)
unfolding copy_refusal
exported_copy from buffer = only_for_its_cause (copy_tests from buffer) refl

-- ---- page views

view : (ram : List ℕ) (p : Processor) (page : ℕ)
    → OnlyForItsCause (1 ∷ 6 ∷ 8 ∷ []) (view_tests ram p page) (view_of ram p page).refusal
unfolding view_of view_refusal
view ram p page =
    subst (OnlyForItsCause _ (view_tests ram p page)) (sym (viewed_refusal _ (looked_up p page))) (only_for_its_cause (view_tests ram p page) refl)

exported_view : (ram s : List ℕ) (page : ℕ)
    → OnlyForItsCause (1 ∷ 4 ∷ 5 ∷ 6 ∷ 8 ∷ []) (call_view_tests ram s page) (call_view_of ram s page).refusal
unfolding call_view_of call_view_refusal
exported_view ram s page =
    subst (OnlyForItsCause _ (call_view_tests ram s page)) (sym (viewed_refusal _ (looked_up (processor_of s) page)))
    (only_for_its_cause (call_view_tests ram s page) refl)

-- ---- all of them

pub only_for_causes : OnlyForCauses
only_for_causes =
    record {
      run = run;
      exported_run = exported_run;
      read = read;
      write = write;
      exported_reset = exported_reset;
      exported_copy = exported_copy;
      view = view;
      exported_view = exported_view;
    }

-- ---- an accepted run

accepted_run : (q : Request) (m : Machine) → Exactly ((run_of q m).answer.refusal ≡ 0) (
    RamLength (length m.memory.ram) × RomLength (length m.memory.rom) × BeltLength (length m.memory.belt)
    × (fit_with m.processor m.timer ≡ true) × Steps q.wanted × ChargesLength q.charging)
accepted_run q m = (
  (λ e.
      let t = (run q m).accepted.0 e in
      let r = t.1.1.1 in (
        (ram_accepted_lem _).0 t.0,
        (rom_accepted_lem _).0 t.1.0,
        (belt_accepted_lem _).0 t.1.1.0,
        r.0,
        (steps_accepted _).0 r.1.0,
        (charges_accepted q.charging).0 r.1.1,
      )),
  (λ h.
      (run q m).accepted.1
      ((ram_accepted_lem _).1 h.0 & (rom_accepted_lem _).1 h.1 & (belt_accepted_lem _).1 h.2 & h.3 & (steps_accepted _).1 h.4 & (charges_accepted q.charging).1
      h.5)),
)

accepted_exported : (q : Request) (s : List ℕ) (m : Memory) → Exactly ((call_of q s m).answer.refusal ≡ 0) (
    RamLength (length m.ram) × RomLength (length m.rom) × BeltLength (length m.belt)
    × (length s ≡ 424) × (kinds_in_place s ≡ true) × (fit_with (processor_of s) (timer_of s) ≡ true) × Steps q.wanted × ChargesLength q.charging)
accepted_exported q s m = (
  (λ e.
      let t = (exported_run q s m).accepted.0 e in
      let r = t.1.1.1 in (
        (ram_accepted_lem _).0 t.0,
        (rom_accepted_lem _).0 t.1.0,
        (belt_accepted_lem _).0 t.1.1.0,
        eqb-true _ _ r.0,
        r.1.0,
        r.1.1.0,
        (steps_accepted _).0 r.1.1.1.0,
        (charges_accepted q.charging).0 r.1.1.1.1,
      )),
  (λ h.
      (exported_run q s m).accepted.1
      ((ram_accepted_lem _).1 h.0 & (rom_accepted_lem _).1 h.1 & (belt_accepted_lem _).1 h.2 & eq-eqb _ _ h.3 & h.4 & h.5
      & (steps_accepted _).1 h.6 & (charges_accepted q.charging).1 h.7)),
)

-- ---- an accepted record

either_of : (s : List ℕ) → (eqb (length s) 414 ≡ true) ⊎ (eqb (length s) 424 ≡ true) → (length s ≡ 414) ⊎ (length s ≡ 424)
either_of s (inl f) = inl (eqb-true _ _ f)
either_of s (inr f) = inr (eqb-true _ _ f)

either_length : (s : List ℕ) → (length s ≡ 414) ⊎ (length s ≡ 424) → readable_length s ≡ true
either_length s (inl e) = readable_old s e
either_length s (inr e) = readable_whole s e

accepted_read : (s : List ℕ) → Exactly (read_refusal s ≡ 0) (
    ((length s ≡ 414) ⊎ (length s ≡ 424)) × (kinds_in_place s ≡ true) × (fit_with (processor_of s) (timer_of s) ≡ true))
accepted_read s = (
  (λ e. let t = (read s).accepted.0 e in (either_of s (either_means (eqb (length s) 414) (eqb (length s) 424) t.0), t.1.0, t.1.1.0)),
  (λ h. (read s).accepted.1 (either_length s h.0 & h.1 & h.2 & tt)),
)

accepted_write : (p : Processor) (t : Timer) (s : List ℕ) → Exactly (write_refusal p t s ≡ 0) ((length s ≡ 424) × (fit_with p t ≡ true))
accepted_write p t s = (
  (λ e. let u = (write p t s).accepted.0 e in (eqb-true _ _ u.0, u.1.0)),
  (λ h. (write p t s).accepted.1 (eq-eqb _ _ h.0 & h.1 & tt)),
)

pub accepted : Accepted
accepted = record { run = accepted_run; exported_run = accepted_exported; read = accepted_read; write = accepted_write }
