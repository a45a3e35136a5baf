-- Document 01's starred cases, as one table over the definitions, each by computation.
use mathlib.Core.Path.{◌≡◌, refl}
use mathlib.Core.List.{List, [], ◌∷◌, ◌++◌}
use Prim.Native.Nat.{ℕ, ◌/◌, ◌%◌}
use lib.ListN.{replicate, get_or, set}
use Rattle.words.specs.Numbers.{bit, truncate, sign_extend, zero_extend, signed, word_of}
use Rattle.sums.specs.Sums.{sum}
use Rattle.quotients.specs.Quotients.{signed_quotient}
use Rattle.shifts.specs.Shifts.{shift_arithmetic}
use Rattle.comparison.specs.Comparison.{signed_holds, unsigned_holds}
use Rattle.endian.specs.BigEndian.{read_at, write_at}
use Rattle.memory.specs.Map.{within, register_at, locate, place_of}
use Rattle.memory.specs.Access.{load_of, store_answer, access_width, memory_after, timer_after}
use Rattle.processor.specs.declared.Processor.{Processor}
use Rattle.kept_bits.specs.Kept.{kept_psw, kept_high}
use Rattle.processor.specs.State.{at_reset, with_pc, with_specials, with_tlb}
use Rattle.status.specs.Psw.{vector, user_current, user_previous, user_old, interrupt_current, interrupt_previous}
use Rattle.status.specs.Psw.{interrupt_old, identifier, enabled, psw_of, pushed, popped, user_mode}
use Rattle.processor.specs.Entry.{service_base, user_miss, service_address}
use Rattle.processor.specs.Exception.{entered, returned}
use Rattle.processor.specs.Register.{put, written, jumped, special, special_written}
use Rattle.tlb.specs.Lookup.{find_from, lookup}
use Rattle.translation.specs.Translation.{valid, writable, through, mapped, forbidden, translated}
use Rattle.look.specs.Interrupt.{lowest, channel}
use Rattle.compute.specs.Compute.{unless_zero, computations}
use Rattle.control.specs.Control.{controls}
use Rattle.control.specs.Branches.{target, branch}
use Rattle.access.specs.Reads.{read_from}
use Rattle.transfer.specs.Transfer.{load, transfers}
use Rattle.access.specs.Writes.{store_to}
use Rattle.system.specs.System.{privileged, traps, systems}
use Rattle.decode.specs.Table.{meanings, executed}
use Rattle.timer.specs.Timer.{timer_at_reset, raised, lines_with, ticked, register_read, register_written}
use Rattle.machine.specs.Machine.{Machine, machine}
use Rattle.look.specs.Look.{look_from}
use Rattle.actions.specs.Actions.{system_done}
use Rattle.step.specs.Step.{Stepped, look, step_of}

-- ---- the machines of the cases

-- the four bytes of a word
abbrev bytes : ℕ → List ℕ
bytes word = word / 0x1000000 ∷ word / 0x10000 % 256 ∷ word / 0x100 % 256 ∷ word % 256 ∷ []

-- a processor with RAM and belt of zeros, and a ROM that begins with a word
abbrev holding : ℕ → Processor → Machine
holding word p = machine p timer_at_reset (replicate 4096 0) (bytes word ++ replicate 4092 0) (replicate 1024 0)

-- PSW 0C804000, with RFX in RAM where general service begins
abbrev interrupted : Machine
interrupted =
    machine (special_written at_reset 0 0x0C804000) timer_at_reset (bytes 0 ++ bytes 0xBC000000 ++ replicate 4088 0) (replicate 4096 0) (replicate 1024 0)

-- from reset, with two registers written
abbrev with_two : ℕ → ℕ → ℕ → ℕ → Processor
with_two i v j w = written (written at_reset i v 0xE0000000) j w 0xE0000000

-- one step with no lines
abbrev next : ℕ → Processor → Processor
next word p = (step_of (holding word p) 0).machine.processor

abbrev register : ℕ → Processor → ℕ
register i p = get_or p.registers i 0

-- from reset, with an address in R1, and TLB entry 7 given
abbrev with_entry : ℕ → ℕ → ℕ → Processor
with_entry address high low = with_tlb (with_two 0 0 1 address) (set at_reset.tlbhigh 7 high) (set at_reset.tlblow 7 low)

-- a step of a word in RAM with a PSW of User Mode, through TLB entry 7: page 00000 to frame 00000, valid
abbrev user_step : ℕ → ℕ → ℕ → Stepped
user_step psw word address =
    step_of (machine (with_specials (with_pc (with_entry address 0 1) 0) psw 0 0 0 0) timer_at_reset
    (bytes word ++ replicate 4092 0) (replicate 4096 0) (replicate 1024 0)) 0

-- its exception, where V is 0
abbrev user_eid : ℕ → ℕ → ℕ
user_eid word address = (user_step 0x04000000 word address).event.eid

-- the processor after a step of a word in ROM, in Kernel Mode, with TLB entry 7 for page 00003 and its low word given
abbrev kernel_after : ℕ → ℕ → ℕ → Processor
kernel_after word address low = next word (with_entry address 0x00003000 low)

-- and with V = 1
abbrev vector_after : ℕ → ℕ → Processor
vector_after word address = next word (with_specials (with_entry address 0x00003000 0) 0x08000000 0 0 0 0)

-- ---- the table

pub record Starred : Type 0 where
  -- ROM word 04010005 at reset: R1 = 5, PC E0000004
  pub addi_register : register 1 (next 0x04010005 at_reset) ≡ 5
  pub addi_pc : (next 0x04010005 at_reset).pc ≡ 0xE0000004
  -- FFFFFFFF + 1 = 0: ADD of R1 and R2 into R3
  pub sum_wraps : register 3 (next 0x00221800 (with_two 1 0xFFFFFFFF 2 1)) ≡ 0
  -- ABFFFFFF at E0000000: the PC stays
  pub jump_by_minus_one : (next 0xABFFFFFF at_reset).pc ≡ 0xE0000000
  -- SAR of 80000000 by 33: C0000000
  pub arithmetic_shift : register 3 (next 0x70221800 (with_two 1 0x80000000 2 33)) ≡ 0xC0000000
  -- BLT of FFFFFFFF and 0 is taken, by 4 words; BLTU is not
  pub less_taken : (next 0x90220004 (with_two 1 0xFFFFFFFF 2 0)).pc ≡ 0xE0000014
  pub less_unsigned_not_taken : (next 0x94220004 (with_two 1 0xFFFFFFFF 2 0)).pc ≡ 0xE0000004
  pub less_unsigned_completes : (step_of (holding 0x94220004 (with_two 1 0xFFFFFFFF 2 0)) 0).event.eid ≡ 32
  -- JALR through R31 jumps to the old R31
  pub link_jumps_to_the_old : (next 0xB7E00000 (with_two 1 0 31 0xC0001234)).pc ≡ 0xC0001234
  pub link_is_the_next : register 31 (next 0xB7E00000 (with_two 1 0 31 0xC0001234)) ≡ 0xE0000004
  -- DIV by 0 from reset: PSW 00130000
  pub division_by_zero_lem : (next 0x20221800 at_reset).psw ≡ 0x00130000
  -- PSW 0C804000, lines 4000: PSW 0A4E4000, PC C0000004; RFX then gives 0C8E4000
  pub interrupt_named : (step_of interrupted 0x4000).event.eid ≡ 14
  pub interrupt_psw : (step_of interrupted 0x4000).machine.processor.psw ≡ 0x0A4E4000
  pub interrupt_pc : (step_of interrupted 0x4000).machine.processor.pc ≡ 0xC0000004
  pub return_psw : (step_of (step_of interrupted 0x4000).machine 0x4000).machine.processor.psw ≡ 0x0C8E4000
  pub return_pc : (step_of (step_of interrupted 0x4000).machine 0x4000).machine.processor.pc ≡ 0xE0000000
  -- user word load at 80000002: 24; at 80000000: 25
  pub user_load_misaligned : user_eid 0xC0220000 0x80000002 ≡ 24
  pub user_load_privileged : user_eid 0xC0220000 0x80000000 ≡ 25
  -- a miss at 00001000 goes to base + 8, a kernel miss at 80000000 to base + 4
  pub miss_below : (kernel_after 0xC0220000 0x00001000 0).pc ≡ 0xE0000008
  pub miss_below_named : identifier (kernel_after 0xC0220000 0x00001000 0).psw ≡ 21
  pub miss_above : (kernel_after 0xC0220000 0x80000000 0).pc ≡ 0xE0000004
  pub miss_above_named : identifier (kernel_after 0xC0220000 0x80000000 0).psw ≡ 21
  -- the mode does not move it, and V = 1 moves the base
  pub miss_below_from_user : (user_step 0x04000000 0xC0220000 0x00001000).machine.processor.pc ≡ 0xE0000008
  pub miss_below_from_user_named : user_eid 0xC0220000 0x00001000 ≡ 21
  pub miss_below_with_vector : (vector_after 0xC0220000 0x00001000).pc ≡ 0xC0000008
  pub miss_above_with_vector : (vector_after 0xC0220000 0x80000000).pc ≡ 0xC0000004
  pub miss_below_from_user_with_vector : (user_step 0x0C000000 0xC0220000 0x00001000).machine.processor.pc ≡ 0xC0000008
  pub miss_below_from_user_with_vector_named : (user_step 0x0C000000 0xC0220000 0x00001000).event.eid ≡ 21
  -- a store through an entry with bits 0 and 1 clear: 23; with only bit 0 set: 22
  pub store_invalid : identifier (kernel_after 0xD4220000 0x00003000 0x00000000).psw ≡ 23
  pub store_read_only : identifier (kernel_after 0xD4220000 0x00003000 0x00000001).psw ≡ 22
  pub store_granted : (kernel_after 0xD4220000 0x00003000 0x00000003).psw ≡ 0

pub starred : Starred
unfolding
    timer_at_reset raised lines_with ticked register_read register_written
    step_of look look_from system_done access_width
    channel lowest vector user_current user_previous user_old interrupt_current interrupt_previous interrupt_old identifier enabled psw_of pushed popped user_mode
    read_from translated forbidden mapped lookup find_from through valid writable
    load_of store_answer memory_after timer_after place_of locate register_at within read_at write_at
    executed meanings computations controls traps transfers systems unless_zero target branch load store_to privileged
    sum truncate sign_extend zero_extend bit signed word_of signed_quotient shift_arithmetic signed_holds unsigned_holds
    at_reset kept_psw kept_high put written jumped special special_written entered returned service_base user_miss service_address
starred =
    record {
      addi_register = refl;
      addi_pc = refl;
      sum_wraps = refl;
      jump_by_minus_one = refl;
      arithmetic_shift = refl;
      less_taken = refl;
      less_unsigned_not_taken = refl;
      less_unsigned_completes = refl;
      link_jumps_to_the_old = refl;
      link_is_the_next = refl;
      division_by_zero_lem = refl;
      interrupt_named = refl;
      interrupt_psw = refl;
      interrupt_pc = refl;
      return_psw = refl;
      return_pc = refl;
      user_load_misaligned = refl;
      user_load_privileged = refl;
      miss_below = refl;
      miss_below_named = refl;
      miss_above = refl;
      miss_above_named = refl;
      miss_below_from_user = refl;
      miss_below_from_user_named = refl;
      miss_below_with_vector = refl;
      miss_above_with_vector = refl;
      miss_below_from_user_with_vector = refl;
      miss_below_from_user_with_vector_named = refl;
      store_invalid = refl;
      store_read_only = refl;
      store_granted = refl;
    }
