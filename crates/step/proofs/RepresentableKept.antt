-- The machine at reset is representable, and every operation on the processor keeps it so.
use mathlib.Core.Path.{◌≡◌, refl, ◌∙◌}
use mathlib.Core.Bool.{Bool, true, false}
use mathlib.Core.List.{List}
use Prim.Native.Nat.{ℕ, ◌%◌, ◌^◌, ◌<◌}
use native.Mathlib.Omega.{arith}
use lib.Dec.{eqb, leb}
use lib.ListN.{get_or, set, replicate, length-set, get_or-replicate}
use lib.Seq.{get_or-set_same, get_or-set_other}
use borrow.Author.Tests.{eqb-true, eqb-false}
use Rattle.words.specs.Logic.{both}
use Rattle.words.proofs.Cases.{chosen}
use Rattle.processor.specs.declared.Processor.{Processor}
use Rattle.processor.specs.State.{at_reset, with_registers, with_pc, with_specials, with_tlb}
use Rattle.processor.specs.Exception.{entered, returned}
use Rattle.processor.specs.Register.{put, written, jumped, special_list, special, special_written}
use Rattle.tlb.specs.Lookup.{page_of, lookup}
use Rattle.processor.specs.Tlb.{entry_written, indexed_written, random_written, entry_read, searched}
use Rattle.status.proofs.PswLaws.{pushed_lt, popped_lt}
use Rattle.kept_bits.proofs.KeptLaws.{kept_psw_lt, kept_index_lt, kept_high_lt, kept_low_lt}
use Rattle.processor.proofs.EntryLaws.{service_lt}
use Rattle.tlb.proofs.Sizes.{replacement_lt, found_lt}
use Rattle.words.proofs.Every.{◌&◌, every_at}
use Rattle.timer.specs.Timer.{timer_at_reset, TimerWords}
use Rattle.timer.specs.declared.Timer.{Timer}
use Rattle.timer.proofs.Registers.{ticked_words}
use Rattle.memory.specs.Map.{Memory}
use Rattle.machine.specs.Machine.{Machine, machine, Words32, Bytes, Representable}
use Rattle.machine.proofs.Representing.{Word, representable}
use Rattle.step.specs.Step.{ended}

-- ---- numbers and arrays

set_words : (l : List ℕ) (i v : ℕ) → i < 32 → v < 2 ^ 32 → Words32 l → Words32 (set l i v)
set_words l i v hi hv w = (length-set l i v ∙ w.0, λ j hj. go j hj (eqb j i) refl)
  where
    go : (j : ℕ) → j < 32 → (t : Bool) → eqb j i ≡ t → get_or (set l i v) j 0 < 2 ^ 32
    go j hj true e = rw (eqb-true j i e, get_or-set_same l i v 0 (rw w.0 hi)) hv
    go j hj false e = rw (get_or-set_other l i j v 0 (eqb-false j i e)) (w.1 j hj)

put_words : (l : List ℕ) (n v : ℕ) → v < 2 ^ 32 → Words32 l → Words32 (put l n v)
unfolding put
put_words l n v h w = chosen Words32 (eqb (n % 32) 0) w (set_words l (n % 32) v (omega arith) h w)

-- ---- at reset

same_words : (v : ℕ) → v < 2 ^ 32 → Words32 (replicate 32 v)
same_words v h = (refl, λ i k. rw (get_or-replicate 32 i v 0 k) h)

pub reset_representable : (ram rom belt : List ℕ) → Bytes ram → Bytes rom → Bytes belt
    → Representable (machine at_reset timer_at_reset ram rom belt)
unfolding at_reset timer_at_reset
reset_representable ram rom belt =
    representable (same_words 0 (omega arith)) (omega arith) (omega arith) (omega arith) (omega arith) (omega arith) (omega arith)
    (same_words 0xC0000000 (omega arith)) (same_words 0 (omega arith)) (omega arith)
    (record { divisor = omega arith; counter = omega arith; control = omega arith })

-- ---- one part changed

-- the machine with another processor
abbrev pub having : Machine → Processor → Machine
having m p = record { processor = p; timer = m.timer; memory = m.memory }

registers_kept : {m : Machine} → Representable m → {l : List ℕ} → Words32 l → Representable (having m (with_registers m.processor l))
registers_kept r w =
    representable w r.pc r.psw r.index r.entryhigh r.entrylow r.badaddress
    r.tlbhigh r.tlblow r.replacement r.timer r.ram r.rom r.belt

pc_kept : {m : Machine} → Representable m → {pc : ℕ} → Word pc → Representable (having m (with_pc m.processor pc))
pc_kept r w =
    representable r.registers w r.psw r.index r.entryhigh r.entrylow r.badaddress
    r.tlbhigh r.tlblow r.replacement r.timer r.ram r.rom r.belt

specials_kept : {m : Machine} → Representable m → {psw index high low bad : ℕ} → Word psw → Word index → Word high → Word low → Word bad
    → Representable (having m (with_specials m.processor psw index high low bad))
specials_kept r psw index high low bad =
    representable r.registers r.pc psw index high low bad
    r.tlbhigh r.tlblow r.replacement r.timer r.ram r.rom r.belt

tlb_kept : {m : Machine} → Representable m → {highs lows : List ℕ} → Words32 highs → Words32 lows
    → Representable (having m (with_tlb m.processor highs lows))
tlb_kept r highs lows =
    representable r.registers r.pc r.psw r.index r.entryhigh r.entrylow r.badaddress
    highs lows r.replacement r.timer r.ram r.rom r.belt

-- another timer and another memory
pub around_kept : {m : Machine} → Representable m → {t : Timer} → TimerWords t → {n : Memory} → Bytes n.ram → Bytes n.rom → Bytes n.belt
    → Representable (record { processor = m.processor; timer = t; memory = n })
around_kept r t ram rom belt =
    representable r.registers r.pc r.psw r.index r.entryhigh r.entrylow r.badaddress
    r.tlbhigh r.tlblow r.replacement t ram rom belt

-- the end of a step
pub end_kept : {m : Machine} → Representable m → Representable (ended m)
end_kept {m} r =
    representable r.registers r.pc r.psw r.index r.entryhigh r.entrylow r.badaddress
    r.tlbhigh r.tlblow (replacement_lt m.processor.replacement) (ticked_words m.timer r.timer) r.ram r.rom r.belt

-- ---- the operations

module _ (m : Machine) (r : Representable m) where
  abbrev p : Processor
  p = m.processor

  pub special_lt : (z : ℕ) → special p z < 2 ^ 32
  unfolding special
  special_lt z = every_at Word (special_list p) z 0 (r.psw & r.index & r.entryhigh & r.entrylow & r.badaddress & tt) (omega arith)

  pub entered_representable : (eid address : ℕ) → address < 2 ^ 32 → Representable (having m (entered p eid address))
  unfolding entered
  entered_representable eid address h =
      specials_kept
      (pc_kept (registers_kept r (set_words p.registers 30 p.pc (omega arith) r.pc r.registers)) (service_lt p.psw eid address))
      (omega (arith, pushed_lt p.psw eid)) r.index (chosen Word (both (leb 21 eid) (leb eid 23)) (kept_high_lt address h) r.entryhigh)
      r.entrylow (chosen Word (both (leb 21 eid) (leb eid 25)) h r.badaddress)

  pub returned_representable : Representable (having m (returned p))
  unfolding returned
  returned_representable =
      specials_kept (pc_kept r (r.registers.1 30 (omega arith)))
      (omega (arith, popped_lt p.psw)) r.index r.entryhigh r.entrylow r.badaddress

  pub written_representable : (n v next : ℕ) → v < 2 ^ 32 → next < 2 ^ 32 → Representable (having m (written p n v next))
  unfolding written
  written_representable n v next h k = pc_kept (registers_kept r (put_words p.registers n v h r.registers)) k

  pub jumped_representable : (next : ℕ) → next < 2 ^ 32 → Representable (having m (jumped p next))
  unfolding jumped
  jumped_representable next h = pc_kept r h

  pub special_representable : (z v : ℕ) → v < 2 ^ 32 → Representable (having m (special_written p z v))
  unfolding special_written
  special_representable z v h =
      specials_kept r (chosen Word (eqb z 0) (kept_psw_lt v) r.psw) (chosen Word (eqb z 1) (kept_index_lt v h) r.index)
      (chosen Word (eqb z 2) (kept_high_lt v h) r.entryhigh) (chosen Word (eqb z 3) (kept_low_lt v h) r.entrylow)
      (chosen Word (eqb z 4) h r.badaddress)

  entry_representable : (i : ℕ) → Representable (having m (entry_written p i))
  unfolding entry_written
  entry_representable i =
      tlb_kept r (set_words p.tlbhigh (i % 32) p.entryhigh (omega arith) r.entryhigh r.tlbhigh)
      (set_words p.tlblow (i % 32) p.entrylow (omega arith) r.entrylow r.tlblow)

  pub indexed_representable : Representable (having m (indexed_written p))
  unfolding indexed_written
  indexed_representable = entry_representable p.index

  pub random_representable : Representable (having m (random_written p))
  unfolding random_written
  random_representable = entry_representable p.replacement

  pub read_representable : Representable (having m (entry_read p))
  unfolding entry_read
  read_representable =
      specials_kept r r.psw r.index (r.tlbhigh.1 (p.index % 32) (omega arith)) (r.tlblow.1 (p.index % 32) (omega arith)) r.badaddress

  pub searched_representable : Representable (having m (searched p))
  unfolding searched
  searched_representable =
      specials_kept r r.psw (found_lt (lookup p.tlbhigh (page_of p.entryhigh))) r.entryhigh r.entrylow r.badaddress
