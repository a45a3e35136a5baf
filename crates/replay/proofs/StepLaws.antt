-- A step of the model, from what the step answers: what is counted, and whether it agrees.
use mathlib.Core.Path.{◌≡◌, ap₂}
use Prim.Native.Nat.{ℕ}
use Rattle.machine.specs.Machine.{Machine}
use Rattle.expected.specs.Expected.{Expected, agrees}
use Rattle.replay.specs.Agreement.{machine_after, eid_after, slot_after, step_agrees}
use Rattle.replay.specs.Tallies.{opcode_at, Tallies, tallied, step_tallied}

module _ (m : Machine) (lines : ℕ) {n : Machine} {eid : ℕ} (e : n ≡ machine_after m lines) (f : eid ≡ eid_after m lines) where
  pub step_compared : (x : Expected) (wanted : ℕ) {slot : ℕ} → slot ≡ slot_after m lines → agrees x wanted n eid slot ≡ step_agrees x wanted m lines
  unfolding step_agrees
  step_compared x wanted g = λ i. agrees x wanted (e i) (f i) (g i)

  pub step_counted : (t : Tallies) {opcode : ℕ} → opcode ≡ opcode_at m → tallied t opcode eid ≡ step_tallied t m lines
  unfolding step_tallied
  step_counted t g = ap₂ (tallied t) g f
