-- One step in User Mode: what it keeps, and that two machines that are alike stay so.
use mathlib.Core.Path.{◌≡◌, refl, ap, ap₂, sym, subst, ◌∙◌}
use mathlib.Core.Bool.{Bool, true, false, cond, true≢false}
use mathlib.Core.List.{List}
use Prim.Native.Nat.{ℕ, ◌<◌}
use native.Mathlib.Omega.{arith}
use lib.Dec.{ltb}
use lib.ListN.{get_or}
use Rattle.timer.specs.Timer.{ticked, lines_with}
use Rattle.timer.specs.declared.Timer.{Timer}
use Rattle.memory.specs.Map.{Memory, timer_base}
use Rattle.memory.specs.Access.{access_width, memory_after}
use Rattle.memory.proofs.OwnBytes.{Apart}
use Rattle.memory.proofs.StoreLaws.{store_lengths, store_rom, store_keeps, store_keeps_timer, timer_after_same}
use Rattle.status.specs.Psw.{pushed}
use Rattle.look.specs.Interrupt.{channel}
use Rattle.tlb.specs.Lookup.{lookup}
use Rattle.translation.specs.Translation.{valid, writable, frame_of}
use Rattle.processor.specs.Entry.{entry_high_after, bad_address_after}
use Rattle.processor.specs.Exception.{entered}
use Rattle.processor.specs.Register.{written, jumped}
use Rattle.processor.specs.Tlb.{index_moved}
use Rattle.processor.specs.declared.Processor.{Processor}
use Rattle.status.proofs.PswLaws.{pushed_kernel}
use Rattle.translation.proofs.Granted.{user_granted}
use Rattle.access.specs.Reads.{read_from}
use Rattle.instructions.specs.Action.{Action, Write, Store, System, Exception}
use Rattle.access.specs.Read.{Read, Value, Fault}
use Rattle.machine.specs.Machine.{Machine}
use Rattle.look.specs.Look.{operands_of, decoded, look_from}
use Rattle.actions.specs.Actions.{processor_after}
use Rattle.step.specs.Step.{surroundings_of, look, timer_done, memory_done, opcode_fetched, done, told, step_of}
use Rattle.isolation.specs.Frames.{frame_at, low_word, ValidUserPage, Reached, ReachedWritable, TimerNotWritable, SameIn}
use Rattle.isolation.specs.Trace.{in_user_mode}
use Rattle.isolation.specs.Claim.{Specials, Left, Held, Alike}
use Rattle.decode.proofs.Outcomes.{Granted}
use Rattle.isolation.proofs.UserActions.{UserAction, executed_user}
use Rattle.isolation.proofs.SameLooks.{access_writable, byte_writable, look_same, opcode_same}
use Rattle.isolation.proofs.SameStores.{store_same}

-- ---- the look in User Mode

decoded_user : (m : Machine) → in_user_mode m ≡ true → (r : Read)
    → UserAction (surroundings_of m) (decoded (surroundings_of m) m.processor.registers m.processor.pc r)
decoded_user m user (Value word slot) = executed_user (surroundings_of m) user (operands_of m.processor.registers m.processor.pc word)
decoded_user m user (Fault eid) = tt

pub look_user : (m : Machine) (lines : ℕ) → in_user_mode m ≡ true → UserAction (surroundings_of m) (look m lines)
unfolding look look_from
look_user m lines user =
    go (ltb (channel m.processor.psw (lines_with m.timer lines)) 32)
  where
    go : (t : Bool) → UserAction (surroundings_of m)
        (cond t (Exception (channel m.processor.psw (lines_with m.timer lines)) 0)
        (decoded (surroundings_of m) m.processor.registers m.processor.pc (read_from 4 (surroundings_of m) m.processor.pc)))
    go true = tt
    go false = decoded_user m user (read_from 4 (surroundings_of m) m.processor.pc)

-- ---- integrity

-- what entry makes of the special registers
entered_specials : ℕ → ℕ → Specials → Specials
entered_specials eid address s =
    record {
      psw = pushed s.psw eid;
      index = s.index;
      entryhigh = entry_high_after eid address s.entryhigh;
      entrylow = s.entrylow;
      badaddress = bad_address_after eid address s.badaddress;
    }

-- the TLB alone decides what is reached
module _ (p q : Processor) (high : p.tlbhigh ≡ q.tlbhigh) (low : p.tlblow ≡ q.tlblow) where
  same_low : (page : ℕ) → low_word q page ≡ low_word p page
  same_low page = sym (ap₂ (λ (h l : List ℕ). get_or l (lookup h page) 0) high low)

  page_by_tlb : (page frame : ℕ) → ValidUserPage p page frame → ValidUserPage q page frame
  page_by_tlb page frame v =
      record {
        user = v.user;
        found = subst (λ (h : List ℕ). lookup h page < 32) high v.found;
        allowed = ap valid (same_low page) ∙ v.allowed;
        names = ap frame_of (same_low page) ∙ v.names;
      }

  reached_by_tlb : (frame : ℕ) → Reached p frame → Reached q frame
  reached_by_tlb frame (page, v) = (page, page_by_tlb page frame v)

  writable_by_tlb : (frame : ℕ) → ReachedWritable p frame → ReachedWritable q frame
  writable_by_tlb frame (page, v, w) = (page, page_by_tlb page frame v, ap writable (same_low page) ∙ w)

module _ (start m : Machine) (held : Held start m) (user : in_user_mode m ≡ true) (lines : ℕ) where
  -- a granted store keeps every frame that is not reached writable
  stored : (width physical v slot : ℕ) → Granted (surroundings_of m) width physical slot
      → SameIn (λ frame. ReachedWritable start.processor frame → ⊥) (memory_after (access_width width) m.memory physical v) start.memory
  stored width physical v slot g =
      let l = store_lengths width m.memory physical v in
      let granted = user_granted m.processor.psw m.processor.tlbhigh m.processor.tlblow width true g.address physical slot user g.granted in
      subst (λ (w : ℕ). SameIn (λ frame. ReachedWritable start.processor frame → ⊥) (memory_after w m.memory physical v) start.memory) (sym g.own)
      (record {
        ram = l.0 ∙ held.frames.ram;
        rom = l.1 ∙ held.frames.rom;
        belt = l.2 ∙ held.frames.belt;
        bytes = λ j not.
            store_keeps width m.memory physical v j
            (λ i h e. not (writable_by_tlb m.processor start.processor held.tlbhigh held.tlblow (frame_at j)
            (subst (λ (a : ℕ). ReachedWritable m.processor (frame_at a)) (sym e)
            (byte_writable m.processor width g.blocks true g.address physical slot g.divides granted refl i h))))
            ∙ held.frames.bytes j not;
      })

  held_after : (a : Action) → UserAction (surroundings_of m) a → Held start (done m a)
  unfolding written jumped entered
  held_after (Write n v next slot) u =
      record {
        tlbhigh = held.tlbhigh;
        tlblow = held.tlblow;
        rom = held.rom;
        frames = held.frames;
        staying = λ _. held.staying user;
      }
  held_after (Store width physical v slot) u =
      record {
        tlbhigh = held.tlbhigh;
        tlblow = held.tlblow;
        rom = store_rom (access_width width) m.memory physical v ∙ held.rom;
        frames = stored width physical v slot u;
        staying = λ _. held.staying user;
      }
  held_after (System i) u = absurd u
  held_after (Exception eid address) u =
      record {
        tlbhigh = held.tlbhigh;
        tlblow = held.tlblow;
        rom = held.rom;
        frames = held.frames;
        staying = λ yes. absurd (true≢false (sym yes ∙ pushed_kernel m.processor.psw eid));
      }

  pub step_held : Held start (step_of m lines).machine
  unfolding step_of
  step_held = held_after (look m lines) (look_user m lines user)

  -- unless the timer's frame is reached writable, a step ticks the timer and does no more to it
  timer_kept : TimerNotWritable start.processor → (a : Action) → UserAction (surroundings_of m) a → timer_done m.timer m.memory a ≡ m.timer
  timer_kept closed (Write n v next slot) u = refl
  timer_kept closed (Store width physical v slot) g =
      let granted = user_granted m.processor.psw m.processor.tlbhigh m.processor.tlblow width true g.address physical slot user g.granted in
      let reached = access_writable m.processor width g.blocks true g.address physical slot g.divides granted refl in
      store_keeps_timer (access_width width) m.memory physical v m.timer
      (λ at low e. closed (writable_by_tlb m.processor start.processor held.tlbhigh held.tlblow (frame_at timer_base)
      (subst (ReachedWritable m.processor) (omega arith) reached)))
  timer_kept closed (System i) u = absurd u
  timer_kept closed (Exception eid address) u = refl

  pub step_ticks : TimerNotWritable start.processor → (n : Machine) → n ≡ (step_of m lines).machine → n.timer ≡ ticked m.timer
  unfolding step_of
  step_ticks closed n e = ap (λ (k : Machine). k.timer) e ∙ ap ticked (timer_kept closed (look m lines) (look_user m lines user))

  -- only an exception leaves
  left_after : (a : Action) → UserAction (surroundings_of m) a → look m lines ≡ a → in_user_mode (done m a) ≡ false
      → Left start m (record { lines = lines; machine = done m a })
  unfolding written jumped entered entered_specials
  left_after (Write n v next slot) u e out = absurd (true≢false (sym user ∙ out))
  left_after (Store width physical v slot) u e out = absurd (true≢false (sym user ∙ out))
  left_after (System i) u e out = absurd u
  left_after (Exception eid address) u e out =
      record {
        eid = eid;
        address = address;
        user = user;
        kept = held.staying user;
        named = e;
        processor = refl;
        specials = ap (entered_specials eid address) (held.staying user);
      }

  pub step_left : (n : Machine) → n ≡ (step_of m lines).machine → in_user_mode n ≡ false → Left start m (record { lines = lines; machine = n })
  unfolding step_of
  step_left n e out =
      subst (λ (k : Machine). Left start m (record { lines = lines; machine = k })) (sym e)
      (left_after (look m lines) (look_user m lines user) refl (subst (λ (k : Machine). in_user_mode k ≡ false) e out))

-- ---- confidentiality

memory_alike : (F : ℕ → Type 0) (m n : Memory) → SameIn F m n → (a : Action) → SameIn F (memory_done m a) (memory_done n a)
memory_alike F m n same (Write r v next slot) = same
memory_alike F m n same (Store width physical v slot) = store_same (access_width width) physical v F m n same
memory_alike F m n same (System i) = same
memory_alike F m n same (Exception eid address) = same

-- the sizes alone say where a store goes
timer_alike : (t : Timer) (F : ℕ → Type 0) (m n : Memory) → SameIn F m n → (a : Action) → timer_done t m a ≡ timer_done t n a
timer_alike t F m n same (Write r v next slot) = refl
timer_alike t F m n same (Store width physical v slot) = timer_after_same m n (same.ram, same.rom, same.belt) (access_width width) t physical v
timer_alike t F m n same (System i) = refl
timer_alike t F m n same (Exception eid address) = refl

module _ (q : Processor) (m n : Machine) (alike : Alike q m n)
    (high : m.processor.tlbhigh ≡ q.tlbhigh) (low : m.processor.tlblow ≡ q.tlblow)
    (user : in_user_mode m ≡ true) (apart : Apart m.memory) (apart' : Apart n.memory) (lines : ℕ) where
  -- the second memory with the first processor and timer, which is the second machine
  abbrev n' : Machine
  n' = record { processor = m.processor; timer = m.timer; memory = n.memory }

  n_is : n' ≡ n
  n_is = λ i. record { processor = alike.processor i; timer = alike.timer i; memory = n.memory }

  abbrev own : SameIn (Reached m.processor) m.memory n.memory
  own =
      record {
        ram = alike.frames.ram;
        rom = alike.frames.rom;
        belt = alike.frames.belt;
        bytes = λ j r. alike.frames.bytes j (reached_by_tlb m.processor q high low (frame_at j) r);
      }

  pub look_alike : look m lines ≡ look n lines
  look_alike =
      look_same m.processor m.timer user m.memory n.memory apart apart' own lines
      ∙ ap (λ (k : Machine). look k lines) n_is

  opcode_alike : opcode_fetched m lines ≡ opcode_fetched n lines
  opcode_alike =
      opcode_same m.processor m.timer user m.memory n.memory apart apart' own lines
      ∙ ap (λ (k : Machine). opcode_fetched k lines) n_is

  -- the exception, the slot and the opcode that a step tells
  pub event_alike : (step_of m lines).event ≡ (step_of n lines).event
  unfolding step_of
  event_alike = ap₂ told opcode_alike look_alike

  pub step_alike : Alike q (step_of m lines).machine (step_of n lines).machine
  unfolding step_of
  step_alike =
      record {
        processor = ap index_moved (ap₂ processor_after alike.processor look_alike);
        timer = ap ticked (timer_alike m.timer (Reached q) m.memory n.memory alike.frames (look m lines)
            ∙ ap₂ (λ (t : Timer) (a : Action). timer_done t n.memory a) alike.timer look_alike);
        frames = subst (λ (a : Action). SameIn (Reached q) (memory_done m.memory (look m lines)) (memory_done n.memory a)) look_alike
            (memory_alike (Reached q) m.memory n.memory alike.frames (look m lines));
      }
