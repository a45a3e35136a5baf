-- Which frames the user pages of a processor reach, and memories that are the same in some frames (document 01, "Runs and views").
use Rattle.std.specs.Prelude.{◌≡◌, true, ℕ, ◌/◌, ◌<◌, length, get_or}
use Rattle.memory.specs.Map.{Memory, byte_at, timer_base}
use Rattle.processor.specs.declared.Processor.{Processor}
use Rattle.tlb.specs.Lookup.{no_entry, lookup}
use Rattle.translation.specs.Translation.{frame_of, valid, writable}

-- the frame of a physical address: 4,096 addresses from a multiple of 4,096
abbrev pub frame_at : ℕ → ℕ
frame_at address = address / 4096

-- the low word of the lookup's entry for a page
abbrev pub low_word : Processor → ℕ → ℕ
low_word p page = get_or p.tlblow (lookup p.tlbhigh page) 0

-- a page below 80000 whose entry by the lookup is valid and names a frame
pub record ValidUserPage (p : Processor) (page frame : ℕ) : Type 0 where
  pub user : page < 0x80000
  pub found : lookup p.tlbhigh page < no_entry
  pub allowed : valid (low_word p page) ≡ true
  pub names : frame_of (low_word p page) ≡ frame

-- a frame is reached by some valid user page
abbrev pub Reached : Processor → ℕ → Type 0
Reached p frame = (page : ℕ) × ValidUserPage p page frame

-- and reached writable if the write bit of that entry is set too
abbrev pub ReachedWritable : Processor → ℕ → Type 0
ReachedWritable p frame = (page : ℕ) × ValidUserPage p page frame × (writable (low_word p page) ≡ true)

-- no valid writable user page reaches the frame of the timer's registers; the whole timer, its counter included, belongs to it
abbrev pub TimerNotWritable : Processor → Type 0
TimerNotWritable p = ReachedWritable p (frame_at timer_base) → ⊥

-- the same sizes, and the same bytes in the frames of which Frames holds; a frame's bytes are those of RAM, ROM or belt that answer there
pub record SameIn (Frames : ℕ → Type 0) (m n : Memory) : Type 0 where
  pub ram : length m.ram ≡ length n.ram
  pub rom : length m.rom ≡ length n.rom
  pub belt : length m.belt ≡ length n.belt
  pub bytes : (address : ℕ) → Frames (frame_at address) → byte_at m address ≡ byte_at n address
