-- The steps of a replay counted, by opcode and by exception.
use Rattle.std.specs.Prelude.{cond, List, ℕ, eqb}
use Rattle.words.specs.Identifiers.{no_exception}
use Rattle.access.specs.Reads.{read_from}
use Rattle.look.specs.Look.{opcode_read}
use Rattle.machine.specs.Machine.{Machine}
use Rattle.step.specs.Step.{surroundings_of}
use Rattle.replay.specs.Tally.{raised_at}
use Rattle.replay.specs.Agreement.{eid_after}

-- the opcode of the word at the PC, or `no_opcode`
unfoldable pub opcode_at : Machine → ℕ
opcode_at m = opcode_read (read_from 4 (surroundings_of m) m.processor.pc)

-- the steps that completed, by opcode, and the accepted exceptions by EID
pub record Tallies : Type 0 where
  pub opcodes : List ℕ
  pub exceptions : List ℕ

abbrev pub tallies : List ℕ → List ℕ → Tallies
tallies opcodes exceptions = record { opcodes = opcodes; exceptions = exceptions }

-- a step with this EID, or `no_exception`, of the instruction with this opcode
unfoldable pub tallied : Tallies → ℕ → ℕ → Tallies
tallied t opcode eid =
    cond (eqb eid no_exception)
    (tallies (raised_at t.opcodes opcode) t.exceptions)
    (tallies t.opcodes (raised_at t.exceptions eid))

-- a step of a machine
unfoldable pub step_tallied : Tallies → Machine → ℕ → Tallies
step_tallied t m lines = tallied t (opcode_at m) (eid_after m lines)
