-- The look by its parts, as the code meets them.
use mathlib.Core.Path.{◌≡◌, refl, ap}
use mathlib.Core.List.{List}
use Prim.Native.Nat.{ℕ, ◌≤◌, ◌<◌}
use borrow.Author.Tests.{lt-ltb, le-ltb}
use Rattle.look.specs.Interrupt.{channel}
use Rattle.instructions.specs.Operands.{Surroundings, operands}
use Rattle.decode.specs.Table.{executed}
use Rattle.access.specs.Reads.{read_from}
use Rattle.instructions.specs.Action.{Action, Exception}
use Rattle.access.specs.Read.{Read, Value, Fault}
use Rattle.access.proofs.Forgotten.{without_slot}
use Rattle.look.specs.Look.{decoded, look_from, no_opcode, opcode_read, opcode_from}

module _ (s : Surroundings) (registers : List ℕ) (pc lines : ℕ) where
  -- an interrupt that is due
  pub look_interrupt : (ch : ℕ) → ch ≡ channel s.psw lines → ch < 32 → Exception ch 0 ≡ look_from s registers pc lines
  unfolding look_from
  look_interrupt ch e h = rw (← e) (simp (lt-ltb ch 32 h))

  -- none: what the fetch brings is decoded
  pub look_decodes : (ch : ℕ) (r : Read) (a : Action) → ch ≡ channel s.psw lines → 32 ≤ ch → read_from 4 s pc ≡ r
      → a ≡ decoded s registers pc r → a ≡ look_from s registers pc lines
  unfolding look_from
  look_decodes ch r a e h f g = rw (← e, f) (simp (le-ltb ch 32 h) g)

-- the PC after the fetch, as the code computed it
pub executed_next : (s : Surroundings) (x y word next next' : ℕ) → next ≡ next'
    → executed s (operands x y word next) ≡ executed s (operands x y word next')
executed_next s x y word next next' e = ap (λ (n : ℕ). executed s (operands x y word n)) e

-- of a fetch the slot plays no part (document 02, job 2)
pub fetch_forgotten : (s : Surroundings) (registers : List ℕ) (pc : ℕ) (r : Read) → decoded s registers pc (without_slot r) ≡ decoded s registers pc r
fetch_forgotten s registers pc (Value word slot) = refl
fetch_forgotten s registers pc (Fault eid) = refl

-- ---- the opcode of the word that is fetched

module _ (s : Surroundings) (pc lines : ℕ) where
  pub opcode_interrupt : (ch : ℕ) → ch ≡ channel s.psw lines → ch < 32 → no_opcode ≡ opcode_from s pc lines
  unfolding opcode_from
  opcode_interrupt ch e h = rw (← e) (simp (lt-ltb ch 32 h))

  pub opcode_reads : (ch : ℕ) (r : Read) → ch ≡ channel s.psw lines → 32 ≤ ch → read_from 4 s pc ≡ r → opcode_read r ≡ opcode_from s pc lines
  unfolding opcode_from
  opcode_reads ch r e h f = rw (← e, f) (simp (le-ltb ch 32 h))
