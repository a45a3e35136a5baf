-- A step keeps a machine representable.
use mathlib.Core.List.{List}
use Prim.Native.Nat.{ℕ, ◌<◌}
use native.Mathlib.Omega.{arith}
use lib.Dec.{ltb}
use lib.ListN.{length, get_or, get_or-eq_default}
use Rattle.sums.specs.Sums.{sum}
use Rattle.words.proofs.Cases.{chosen, below_or_not}
use Rattle.sums.proofs.Sizes.{sum_lt}
use Rattle.memory.specs.Access.{access_width, memory_after}
use Rattle.timer.specs.Timer.{lines_with}
use Rattle.memory.proofs.Bytewise.{Bytewise, store_bytewise, store_words}
use Rattle.processor.specs.declared.Processor.{Processor}
use Rattle.processor.specs.Register.{special}
use Rattle.look.specs.Interrupt.{channel}
use Rattle.instructions.specs.Operands.{field_x, field_y}
use Rattle.access.specs.Reads.{read_from}
use Rattle.instructions.specs.Action.{Action, Write, Store, System, Exception, SystemInstruction, Rfx, Mvfs, Mvts, Tbs, Tbwr, Tbri, Tbwi}
use Rattle.access.specs.Read.{Read, Value, Fault}
use Rattle.instructions.proofs.Words.{Words}
use Rattle.decode.proofs.Small.{Small, SmallSystem}
use Rattle.decode.proofs.Outcomes.{executed_small}
use Rattle.machine.specs.Machine.{Machine, Bytes, Representable}
use Rattle.look.specs.Look.{operands_of, decoded, look_from}
use Rattle.actions.specs.Actions.{onward, system_done}
use Rattle.step.specs.Step.{surroundings_of, look, done, step_of}
use Rattle.step.proofs.RepresentableKept.{having, around_kept, end_kept, special_lt, entered_representable, returned_representable}
use Rattle.step.proofs.RepresentableKept.{written_representable, jumped_representable, special_representable, indexed_representable}
use Rattle.step.proofs.RepresentableKept.{random_representable, read_representable, searched_representable}

-- past the end of a list the byte is 0
everywhere : (l : List ℕ) → Bytes l → (j : ℕ) → get_or l j 0 < 256
everywhere l b j =
    below_or_not j (length l) (λ h. b j h) (λ h. rw (get_or-eq_default l 0 h) (omega arith))

lent : (m : Machine) → Representable m → Bytewise m.memory
lent m r =
    record {
      ram = everywhere m.memory.ram r.ram;
      rom = everywhere m.memory.rom r.rom;
      belt = everywhere m.memory.belt r.belt;
    }

-- ---- the look

module _ (m : Machine) (r : Representable m) where
  abbrev p : Processor
  p = m.processor

  operands_words : (word : ℕ) → Words (operands_of p.registers p.pc word)
  operands_words word =
      record {
        x = r.registers.1 (field_x word) (omega arith);
        y = r.registers.1 (field_y word) (omega arith);
        next = sum_lt p.pc 4;
      }

  decoded_small : (a : Read) → Small (decoded (surroundings_of m) p.registers p.pc a)
  decoded_small (Value word slot) =
      executed_small (surroundings_of m) (operands_of p.registers p.pc word) (lent m r, r.timer) (operands_words word)
  decoded_small (Fault eid) = r.pc

  look_small : (lines : ℕ) → Small (look m lines)
  unfolding look look_from
  look_small lines =
      chosen Small (ltb (channel p.psw (lines_with m.timer lines)) 32) (omega arith) (decoded_small (read_from 4 (surroundings_of m) p.pc))

  -- ---- the action

  moved : Representable (having m (onward p))
  moved = jumped_representable m r (sum p.pc 4) (sum_lt p.pc 4)

  system_representable : (i : SystemInstruction) → SmallSystem i → Representable (having m (system_done i p))
  unfolding system_done
  system_representable Rfx h = returned_representable m r
  system_representable (Mvfs z n) h = written_representable m r n (special p z) (sum p.pc 4) (special_lt m r z) (sum_lt p.pc 4)
  system_representable (Mvts z v) h = special_representable (having m (onward p)) moved z v h
  system_representable Tbs h = searched_representable (having m (onward p)) moved
  system_representable Tbwr h = random_representable (having m (onward p)) moved
  system_representable Tbri h = read_representable (having m (onward p)) moved
  system_representable Tbwi h = indexed_representable (having m (onward p)) moved

  done_representable : (a : Action) → Small a → Representable (done m a)
  done_representable (Write n v next slot) h = end_kept (written_representable m r n v next h.0 h.1)
  done_representable (Store width physical v slot) h =
      let b : Bytewise (memory_after (access_width width) m.memory physical v) =
      store_bytewise (access_width width) m.memory (lent m r) physical v in
      end_kept
      (around_kept moved (store_words (access_width width) m.timer r.timer m.memory physical v)
      (λ i k. b.ram i) (λ i k. b.rom i) (λ i k. b.belt i))
  done_representable (System i) h = end_kept (system_representable i h)
  done_representable (Exception eid address) h = end_kept (entered_representable m r eid address h)

-- ---- the step

pub step_representable : (m : Machine) (lines : ℕ) → Representable m → Representable (step_of m lines).machine
unfolding step_of
step_representable m lines r = done_representable m r (look m lines) (look_small m r lines)
