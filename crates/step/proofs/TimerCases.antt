-- The timer step by step, on machines that are written out (document 02, job 1; manual, chapter 5, section 4).
use mathlib.Core.Path.{◌≡◌, refl}
use mathlib.Core.List.{List, [], ◌∷◌, ◌++◌}
use Prim.Native.Nat.{ℕ, ◌/◌, ◌%◌}
use lib.ListN.{get_or, replicate}
use Rattle.words.specs.Numbers.{bit, truncate, zero_extend, sign_extend}
use Rattle.sums.specs.Sums.{sum}
use Rattle.endian.specs.BigEndian.{read_at, write_at}
use Rattle.timer.specs.Timer.{timer, raised, lines_with, ticked, register_read, register_written}
use Rattle.timer.specs.declared.Timer.{Timer}
use Rattle.memory.specs.Map.{within, register_at, locate, place_of}
use Rattle.memory.specs.Access.{load_of, store_answer, access_width, memory_after, timer_after}
use Rattle.status.specs.Psw.{vector, user_current, user_previous, user_old, interrupt_current, interrupt_previous, interrupt_old, identifier, enabled, psw_of}
use Rattle.status.specs.Psw.{pushed, popped, user_mode}
use Rattle.translation.specs.Translation.{translated, forbidden, mapped, through, valid, writable}
use Rattle.tlb.specs.Lookup.{lookup, find_from}
use Rattle.processor.specs.State.{at_reset, with_pc, with_specials}
use Rattle.processor.specs.Entry.{service_base, user_miss, service_address}
use Rattle.processor.specs.Exception.{entered}
use Rattle.processor.specs.Register.{put, written, jumped}
use Rattle.look.specs.Interrupt.{lowest, channel}
use Rattle.look.specs.Look.{look_from}
use Rattle.compute.specs.Compute.{computations}
use Rattle.control.specs.Control.{controls}
use Rattle.access.specs.Reads.{read_from}
use Rattle.access.specs.Writes.{store_to}
use Rattle.transfer.specs.Transfer.{load, transfers}
use Rattle.system.specs.System.{traps, systems}
use Rattle.decode.specs.Table.{meanings, executed}
use Rattle.machine.specs.Machine.{Machine, machine}
use Rattle.step.specs.Step.{Stepped, look, step_of}

-- the four bytes of a word
abbrev bytes : ℕ → List ℕ
bytes word = word / 0x1000000 ∷ word / 0x10000 % 256 ∷ word / 0x100 % 256 ∷ word % 256 ∷ []

-- a step of a word in ROM, with an address in R1 and a value in R2
abbrev after : Timer → ℕ → ℕ → ℕ → Stepped
after t word address value =
    step_of (machine (written (written at_reset 1 address 0xE0000000) 2 value 0xE0000000) t (replicate 4096 0) (bytes word ++ replicate 4092 0)
    (replicate 1024 0)) 0

-- with I_C and bit 14 of IEN set, and no line of the host's
abbrev waiting : Timer → Machine
waiting t = machine (with_specials at_reset 0x00804000 0 0 0 0) t (replicate 4096 0) (replicate 4096 0) (replicate 1024 0)

-- with the PC at the divisor register
abbrev fetching : Timer → Machine
fetching t = machine (with_pc at_reset 0xF0000004) t (replicate 4096 0) (replicate 4096 0) (replicate 1024 0)

pub record TimerSteps : Type 0 where
  -- the tick comes after the step's own store: 5 leaves 4, and 1 leaves 1 with the flag
  pub divisor_stored : (after (timer 0 0 0) 0xD4220000 0xF0000004 5).machine.timer ≡ timer 5 4 0
  pub divisor_of_1 : (after (timer 0 0 0) 0xD4220000 0xF0000004 1).machine.timer ≡ timer 1 1 1
  -- a store to control keeps bits 1 and 0, and may clear the flag
  pub control_stored : (after (timer 0 0 0) 0xD4220000 0xF0000000 0xFFFFFFFF).machine.timer ≡ timer 0 0 3
  pub flag_cleared : (after (timer 9 4 3) 0xD4220000 0xF0000000 2).machine.timer ≡ timer 9 3 2
  -- loads leave the timer to its tick
  pub control_loaded : get_or (after (timer 9 4 3) 0xC0220000 0xF0000000 0).machine.processor.registers 2 0 ≡ 3
  pub divisor_loaded : get_or (after (timer 9 4 3) 0xC0220000 0xF0000004 0).machine.processor.registers 2 0 ≡ 9
  pub load_ticks : (after (timer 9 4 3) 0xC0220000 0xF0000004 0).machine.timer ≡ timer 9 3 3
  -- every other word and every narrower access times out
  pub word_past_the_divisor : (after (timer 9 4 3) 0xC0220000 0xF0000008 0).event.eid ≡ 16
  pub store_past_the_divisor : (after (timer 9 4 3) 0xD4220000 0xF0000008 0).event.eid ≡ 16
  pub byte_loaded : (after (timer 9 4 3) 0xCC220000 0xF0000000 0).event.eid ≡ 16
  pub half_word_stored : (after (timer 9 4 3) 0xD8220000 0xF0000004 0).event.eid ≡ 16
  -- and the tick comes all the same
  pub timeout_ticks : (after (timer 9 4 3) 0xD8220000 0xF0000004 0).machine.timer ≡ timer 9 3 3
  -- the interrupt test sees the timer as it was before the step
  pub wraps_too_late : (step_of (waiting (timer 9 1 2)) 0).event.eid ≡ 32
  pub then_interrupts : (step_of (step_of (waiting (timer 9 1 2)) 0).machine 0).event.eid ≡ 14
  -- an accepted interrupt leaves the flag, and the tick comes after it
  pub interrupt_ticks : (step_of (waiting (timer 9 4 3)) 0).machine.timer ≡ timer 9 3 3
  pub not_enabled : (step_of (waiting (timer 9 4 1)) 0).event.eid ≡ 32
  -- a fetch reads the divisor like a load: 04010005 is ADDI of R0 and 5 into R1
  pub fetched : get_or (step_of (fetching (timer 0x04010005 9 0)) 0).machine.processor.registers 1 0 ≡ 5
  pub fetch_ticks : (step_of (fetching (timer 0x04010005 9 0)) 0).machine.timer ≡ timer 0x04010005 8 0

pub timer_steps : TimerSteps
unfolding
    raised lines_with ticked register_read register_written
    step_of look look_from access_width
    channel lowest vector user_current user_previous user_old interrupt_current interrupt_previous interrupt_old identifier enabled psw_of pushed popped user_mode
    read_from translated forbidden mapped lookup find_from through valid writable
    load_of store_answer memory_after timer_after place_of locate register_at within read_at write_at
    executed meanings computations controls traps transfers systems load store_to
    sum truncate sign_extend zero_extend bit
    at_reset put written jumped entered service_base user_miss service_address
timer_steps =
    record {
      divisor_stored = refl;
      divisor_of_1 = refl;
      control_stored = refl;
      flag_cleared = refl;
      control_loaded = refl;
      divisor_loaded = refl;
      load_ticks = refl;
      word_past_the_divisor = refl;
      store_past_the_divisor = refl;
      byte_loaded = refl;
      half_word_stored = refl;
      timeout_ticks = refl;
      wraps_too_late = refl;
      then_interrupts = refl;
      interrupt_ticks = refl;
      not_enabled = refl;
      fetched = refl;
      fetch_ticks = refl;
    }
