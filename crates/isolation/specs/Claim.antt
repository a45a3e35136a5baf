-- What isolation says of a list of runs (document 01, "Runs and views", last three paragraphs; document 02, jobs 1 to 4; demand 3).
use Rattle.std.specs.Prelude.{◌≡◌, true, false, List, [], ◌∷◌, ℕ, suc}
use Rattle.timer.specs.Timer.{ticks}
use Rattle.processor.specs.declared.Processor.{Processor}
use Rattle.tlb.specs.Lookup.{replacement_after}
use Rattle.processor.specs.Exception.{entered}
use Rattle.processor.specs.Tlb.{index_moved}
use Rattle.instructions.specs.Action.{Exception}
use Rattle.machine.specs.Machine.{Machine, Representable}
use Rattle.step.specs.Step.{look, step_of}
use Rattle.isolation.specs.Frames.{Reached, ReachedWritable, TimerNotWritable, SameIn}
use Rattle.words.specs.Lists.{Pairwise}
use Rattle.isolation.specs.Trace.{Call, Made, in_user_mode, trace_of, up_to_leaving, answers_of}

-- the special registers
pub record Specials : Type 0 where
  pub psw : ℕ
  pub index : ℕ
  pub entryhigh : ℕ
  pub entrylow : ℕ
  pub badaddress : ℕ

abbrev pub specials_of : Processor → Specials
specials_of p =
    record {
      psw = p.psw;
      index = p.index;
      entryhigh = p.entryhigh;
      entrylow = p.entrylow;
      badaddress = p.badaddress;
    }

-- ---- integrity

-- a machine of the trace against the start
pub record Held (start m : Machine) : Type 0 where
  pub tlbhigh : m.processor.tlbhigh ≡ start.processor.tlbhigh
  pub tlblow : m.processor.tlblow ≡ start.processor.tlblow
  pub rom : m.memory.rom ≡ start.memory.rom
  pub frames : SameIn (λ frame. ReachedWritable start.processor frame → ⊥) m.memory start.memory
  pub staying : in_user_mode m ≡ true → specials_of m.processor ≡ specials_of start.processor

-- the leaving step: the machine before it was in User Mode with the start's special registers, it named an exception, and they are what entry
-- makes of them; the whole processor is what entry, and then the move of the replacement index, make of the one before
pub record Left (start before : Machine) (s : Made) : Type 0 where
  pub eid : ℕ
  pub address : ℕ
  pub user : in_user_mode before ≡ true
  pub kept : specials_of before.processor ≡ specials_of start.processor
  pub named : look before s.lines ≡ Exception eid address
  pub processor : s.machine.processor ≡ index_moved (entered before.processor eid address)
  pub specials : specials_of s.machine.processor ≡ specials_of (entered start.processor eid address)

-- a step of the trace, from the machine before it
pub record HeldStep (start before : Machine) (s : Made) : Type 0 where
  pub step : s.machine ≡ (step_of before s.lines).machine
  pub held : Held start s.machine
  pub leaving : in_user_mode s.machine ≡ false → Left start before s

-- of each step of a trace, with the machine before it: m before the first, and then the one that the step before it made
abbrev pub Consecutive : (Machine → Made → Type 0) → Machine → List Made → Type 0
Consecutive P m [] = Unit {0}
Consecutive P m (s ∷ ss) = P m s × Consecutive P s.machine ss

-- of each step of a trace, with its number
abbrev pub Numbered : (ℕ → Made → Type 0) → ℕ → List Made → Type 0
Numbered P n [] = Unit {0}
Numbered P n (s ∷ ss) = P n s × Numbered P (suc n) ss

-- after the first step, the second and so on the replacement index is the start's, moved once, twice and so on, whatever the steps do. And so is the
-- timer, ticked, unless it can be written. Both go on by themselves: User Mode has not changed them
pub record Integrity (calls : List Call) (start : Machine) : Type 0 where
  pub steps : Consecutive (HeldStep start) start (up_to_leaving (trace_of calls start))
  pub index : Numbered (λ n s. s.machine.processor.replacement ≡ replacement_after n start.processor.replacement) 1
      (up_to_leaving (trace_of calls start))
  pub timer : TimerNotWritable start.processor
      → Numbered (λ n s. s.machine.timer ≡ ticks n start.timer) 1 (up_to_leaving (trace_of calls start))

-- ---- confidentiality

-- equal processor states, timers and sizes, and equal bytes in the frames that p reaches. The timers are equal whether p reaches them or not, since
-- a timer can interrupt the routine
pub record Alike (p : Processor) (m n : Machine) : Type 0 where
  pub processor : m.processor ≡ n.processor
  pub timer : m.timer ≡ n.timer
  pub frames : SameIn (Reached p) m.memory n.memory

-- after a step of each
abbrev pub AlikeAfter : Processor → Made → Made → Type 0
AlikeAfter p s t = Alike p s.machine t.machine

-- after each step up to the leaving one the two are alike, and the runs that end by then give equal answers
pub record Confidential (calls : List Call) (start twin : Machine) : Type 0 where
  pub steps : Pairwise (AlikeAfter start.processor) (up_to_leaving (trace_of calls start)) (up_to_leaving (trace_of calls twin))
  pub answers : answers_of calls start ≡ answers_of calls twin

-- ---- both, of one list

pub record Isolated (calls : List Call) (start : Machine) : Type 0 where
  pub integrity : Integrity calls start
  pub confidentiality : (twin : Machine) → Representable twin → Alike start.processor start twin → Confidential calls start twin
