-- A run by its refusal number.
use mathlib.Core.Path.{◌≡◌, refl, sym, ◌∙◌}
use mathlib.Core.Bool.{cond}
use Prim.Native.Nat.{ℕ, ◌≤◌}
use lib.Dec.{eqb}
use borrow.Author.Tests.{leb-true, eq-eqb, ne_eqb}
use Rattle.machine.specs.Machine.{Machine}
use Rattle.refusals.specs.Refusal.{first_failed, charges_tests, run_tests, run_refusal}
use Rattle.refusals.proofs.FirstFailed.{all_pass}
use Rattle.refusals.specs.Request.{Request}
use Rattle.refusals.specs.Cause.{AllPass}
use Rattle.refusals.specs.declared.Refusal.{Refusal}
use Rattle.refusals.specs.Code.{refusal_number}
use Rattle.refusals.proofs.Lengths.{charges_numbered}
use Rattle.refusals.proofs.Numbers.{never_accepted}
use Rattle.run_loop.specs.Run.{Outcome, begun, run_from, run_of}
use Rattle.run_loop.proofs.Loop.{run_is}

module _ (q : Request) (m : Machine) {r : ℕ} (e : r ≡ first_failed (run_tests m q)) where
  by_number : run_of q m ≡ cond (eqb r 0) (run_from q q.wanted (begun m 0)) (begun m r)
  unfolding run_refusal
  by_number = rw e (run_is q m)

  pub run_refused : (r ≡ 0 → ⊥) → begun m r ≡ run_of q m
  run_refused h = sym (by_number ∙ simp (ne_eqb r 0 h))

  pub run_accepted : r ≡ 0 → run_from q q.wanted (begun m 0) ≡ run_of q m
  run_accepted h = sym (by_number ∙ simp (eq-eqb r 0 h))

  module _ (h : r ≡ 0) where
    passed : AllPass (run_tests m q)
    passed = all_pass (run_tests m q) (charges_numbered q.charging) (sym e ∙ h)

    pub steps_within : q.wanted ≤ 1000000
    steps_within = leb-true q.wanted 1000000 passed.1.1.1.1.0

    pub charges_pass : AllPass (charges_tests q.charging)
    charges_pass = passed.1.1.1.1.1

-- the same of a refusal as the code names it, and of an outcome that the run came to
module _ (q : Request) (m : Machine) where
  pub coded_run_refused : (e : Refusal) → refusal_number e ≡ first_failed (run_tests m q) → begun m (refusal_number e) ≡ run_of q m
  coded_run_refused e f = run_refused q m f (never_accepted e)

  pub coded_run_accepted : {o : Outcome} → o ≡ run_from q q.wanted (begun m 0) → 0 ≡ first_failed (run_tests m q) → o ≡ run_of q m
  coded_run_accepted g f = g ∙ run_accepted q m f refl
