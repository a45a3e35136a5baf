-- An interrupt comes before any fetch, nothing is named before the fetch otherwise, and a fault leaves only entry and what every step does.
use mathlib.Core.Path.{◌≡◌, refl, ◌∙◌}
use Prim.Native.Nat.{ℕ, ◌≤◌, ◌<◌}
use native.Mathlib.Omega.{arith}
use borrow.Author.Tests.{lt-ltb, le-ltb}
use Rattle.timer.specs.Timer.{lines_with}
use Rattle.processor.specs.Exception.{entered}
use Rattle.look.specs.Interrupt.{channel}
use Rattle.access.specs.Reads.{read_from, read_eid}
use Rattle.access.specs.Read.{Read, Value, Fault}
use Rattle.instructions.specs.Action.{Exception}
use Rattle.machine.specs.Machine.{Machine}
use Rattle.look.specs.Look.{decoded, look_from}
use Rattle.step.specs.Step.{surroundings_of, look, ended, eid_of, step_of}
use Rattle.step.proofs.Looks.{step_done, step_eid}

-- ---- an exception is named for an interrupt that is due, or after a fetch

module _ (m : Machine) (lines : ℕ) where
  pub interrupt_first : channel m.processor.psw (lines_with m.timer lines) < 32
      → look m lines ≡ Exception (channel m.processor.psw (lines_with m.timer lines)) 0
  unfolding look look_from
  interrupt_first h = simp (lt-ltb _ _ h)

  pub nothing_before_the_fetch : 32 ≤ channel m.processor.psw (lines_with m.timer lines)
      → look m lines ≡ decoded (surroundings_of m) m.processor.registers m.processor.pc (read_from 4 (surroundings_of m) m.processor.pc)
  unfolding look look_from
  nothing_before_the_fetch h = simp (le-ltb _ _ h)

  -- a fault of the fetch is what the step names
  pub fetch_fault_named : 32 ≤ channel m.processor.psw (lines_with m.timer lines) → read_eid (read_from 4 (surroundings_of m) m.processor.pc) < 32
      → (step_of m lines).event.eid ≡ read_eid (read_from 4 (surroundings_of m) m.processor.pc)
  fetch_fault_named h f = step_eid m lines _ (nothing_before_the_fetch h) ∙ go (read_from 4 (surroundings_of m) m.processor.pc) f
    where
      go : (r : Read) → read_eid r < 32 → eid_of (decoded (surroundings_of m) m.processor.registers m.processor.pc r) ≡ read_eid r
      go (Value word slot) l = absurd (omega (arith, l))
      go (Fault eid) l = refl

  -- ---- a fault leaves only the effects of exception entry and what every step does, and is named
  pub fault_enters : (eid address : ℕ) → look m lines ≡ Exception eid address
      → (step_of m lines).machine ≡ ended (record { processor = entered m.processor eid address; timer = m.timer; memory = m.memory })
  fault_enters eid address e = step_done m lines (Exception eid address) e

  pub fault_named : (eid address : ℕ) → look m lines ≡ Exception eid address → (step_of m lines).event.eid ≡ eid
  fault_named eid address e = step_eid m lines (Exception eid address) e
