-- A fit machine, by its parts: the processor is fit and the timer is, and what they keep in bytes fits there.
use mathlib.Core.Path.{◌≡◌, refl}
use mathlib.Core.Bool.{true}
use Prim.Native.Nat.{◌<◌}
use native.Mathlib.Omega.{arith}
use borrow.Author.Tests.{leb-true}
use Rattle.words.proofs.Conjunction.{both_true, true_both}
use Rattle.timer.specs.Timer.{timer_at_reset, timer_fit}
use Rattle.timer.specs.declared.Timer.{Timer}
use Rattle.processor.specs.declared.Processor.{Processor}
use Rattle.processor.specs.State.{at_reset, fit}
use Rattle.processor.proofs.FitLaws.{fit_means}
use Rattle.processor.proofs.FitKept.{reset_fit}
use Rattle.machine.specs.Machine.{fit_with}

timer_resets_fit : timer_fit timer_at_reset ≡ true
unfolding timer_fit timer_at_reset
timer_resets_fit = refl

pub reset_fits : fit_with at_reset timer_at_reset ≡ true
unfolding fit_with
reset_fits = true_both _ _ reset_fit timer_resets_fit

module _ (p : Processor) (t : Timer) (e : fit_with p t ≡ true) where
  pub both_fit : (fit p ≡ true) × (timer_fit t ≡ true)
  unfolding fit_with
  both_fit = both_true (fit p) (timer_fit t) e

  -- replacement index and control
  pub index_fits : p.replacement < 256
  index_fits = omega (arith, (fit_means p both_fit.0).upto)

  pub control_fits : t.control < 256
  unfolding timer_fit
  control_fits = omega (arith, leb-true t.control 3 both_fit.1)
