-- In User Mode the look depends on the processor, the timer, the sizes and the reached frames alone.
use mathlib.Core.Path.{◌≡◌, refl, ap, sym, subst, ◌∙◌}
use mathlib.Core.Bool.{Bool, true, false, cond}
use Prim.Native.Nat.{ℕ, ◌+◌, ◌*◌, ◌%◌, ◌<◌}
use native.Mathlib.Nat.{mul_assoc, mul-mod_left, mul-add-mod_self_right, mod-mod_of_dvd, dvd_of_mod-eq-zero}
use native.Mathlib.Omega.{arith}
use lib.Dec.{ltb}
use Rattle.timer.specs.Timer.{lines_with}
use Rattle.timer.specs.declared.Timer.{Timer}
use Rattle.memory.specs.Map.{Memory}
use Rattle.memory.specs.Access.{store_answer, completes}
use Rattle.memory.proofs.Frames.{one_frame}
use Rattle.memory.proofs.OwnBytes.{Apart, SameLengths, load_same, same_place}
use Rattle.status.specs.Psw.{user_mode}
use Rattle.look.specs.Interrupt.{channel}
use Rattle.tlb.specs.Lookup.{page_of}
use Rattle.translation.specs.Translation.{frame_of, translated}
use Rattle.processor.specs.declared.Processor.{Processor}
use Rattle.translation.specs.Translation.{Translation, Physical, TlbMiss, TlbWrite, TlbInvalid, IllegalAddress, PrivilegedAddress}
use Rattle.translation.proofs.Granted.{Granted, user_granted}
use Rattle.instructions.specs.Operands.{Surroundings, surroundings}
use Rattle.access.specs.Reads.{answered, read_through, read_from}
use Rattle.access.specs.Writes.{settled, store_through, store_to}
use Rattle.instructions.specs.Action.{Exception}
use Rattle.access.specs.Read.{Read, Value, Fault}
use Rattle.look.specs.Look.{operands_of, decoded, look_from, no_opcode, opcode_read, opcode_from}
use Rattle.step.specs.Step.{look, opcode_fetched}
use Rattle.isolation.specs.Frames.{frame_at, low_word, ValidUserPage, Reached, ReachedWritable, SameIn}
use Rattle.isolation.proofs.SameActions.{executed_same}

-- a frame's first address and an aligned offset
aligned_in_frame : (w k f a : ℕ) → k * w ≡ 4096 → a % w ≡ 0 → (f * 4096 + a % 4096) % w ≡ 0
aligned_in_frame w k f a e h =
    let whole : 4096 % w ≡ 0 = ap (λ (n : ℕ). n % w) (sym e) ∙ mul-mod_left k w in
    ap (λ (n : ℕ). (n + a % 4096) % w) (ap (λ (n : ℕ). f * n) (sym e) ∙ sym (mul_assoc f k w))
    ∙ mul-add-mod_self_right (f * k) w (a % 4096)
    ∙ mod-mod_of_dvd w a (dvd_of_mod-eq-zero w whole)
    ∙ h

-- ---- a granted access lies in a frame that its page reaches

module _ (p : Processor) (width blocks : ℕ) (store : Bool) (address physical slot : ℕ) (divides : blocks * width ≡ 4096)
    (g : Granted p.tlbhigh p.tlblow width store address physical slot) where
  granted_frame : frame_at physical ≡ frame_of (low_word p (page_of address))
  granted_frame = omega (arith, g.mapped.place)

  physical_aligned : physical % width ≡ 0
  physical_aligned =
      ap (λ (n : ℕ). n % width) g.mapped.place
      ∙ aligned_in_frame width blocks (frame_of (low_word p (page_of address))) address divides g.aligned

  granted_page : ValidUserPage p (page_of address) (frame_at physical)
  granted_page = record { user = g.below; found = g.mapped.found; allowed = g.mapped.allowed; names = sym granted_frame }

  each_frame : (i : ℕ) → i < width → frame_at (physical + i) ≡ frame_at physical
  each_frame i h = one_frame width blocks physical i divides physical_aligned h

  pub byte_reached : (i : ℕ) → i < width → Reached p (frame_at (physical + i))
  byte_reached i h = subst (Reached p) (sym (each_frame i h)) (page_of address, granted_page)

  pub access_writable : store ≡ true → ReachedWritable p (frame_at physical)
  access_writable e = (page_of address, granted_page, g.mapped.may_write e)

  pub byte_writable : store ≡ true → (i : ℕ) → i < width → ReachedWritable p (frame_at (physical + i))
  byte_writable e i h = subst (ReachedWritable p) (sym (each_frame i h)) (access_writable e)

-- ---- the look

module _ (p : Processor) (timer : Timer) (user : user_mode p.psw ≡ true) (m n : Memory) (apart : Apart m) (apart' : Apart n)
    (same : SameIn (Reached p) m n) where
  abbrev s : Surroundings
  s = surroundings p.psw p.tlbhigh p.tlblow timer m

  abbrev t : Surroundings
  t = surroundings p.psw p.tlbhigh p.tlblow timer n

  lengths : SameLengths m n
  lengths = (same.ram, same.rom, same.belt)

  reads_through : (width blocks address : ℕ) → blocks * width ≡ 4096 → (r : Translation)
      → translated p.psw p.tlbhigh p.tlblow width false address ≡ r → read_through width timer m r ≡ read_through width timer n r
  reads_through width blocks address d (Physical a slot) e =
      let g = user_granted p.psw p.tlbhigh p.tlblow width false address a slot user e in
      ap (answered slot) (load_same m n apart apart' lengths timer width a
      (λ i h. same.bytes (a + i) (byte_reached p width blocks false address a slot d g i h)))
  reads_through width blocks address d TlbMiss e = refl
  reads_through width blocks address d TlbWrite e = refl
  reads_through width blocks address d TlbInvalid e = refl
  reads_through width blocks address d IllegalAddress e = refl
  reads_through width blocks address d PrivilegedAddress e = refl

  reads : (width blocks : ℕ) → blocks * width ≡ 4096 → (address : ℕ) → read_from width s address ≡ read_from width t address
  unfolding read_from
  reads width blocks d address =
      reads_through width blocks address d (translated p.psw p.tlbhigh p.tlblow width false address) refl

  answers : (width physical : ℕ) → store_answer width m physical ≡ store_answer width n physical
  unfolding store_answer
  answers width physical = ap completes (same_place m n lengths width physical)

  stores_through : (width value address : ℕ) (r : Translation)
      → store_through width m value address r ≡ store_through width n value address r
  stores_through width value address (Physical a slot) = ap (settled width a value slot address) (answers width a)
  stores_through width value address TlbMiss = refl
  stores_through width value address TlbWrite = refl
  stores_through width value address TlbInvalid = refl
  stores_through width value address IllegalAddress = refl
  stores_through width value address PrivilegedAddress = refl

  stores : (width value address : ℕ) → store_to width s value address ≡ store_to width t value address
  unfolding store_to
  stores width value address =
      stores_through width value address (translated p.psw p.tlbhigh p.tlblow width true address)

  decoded_same : (r : Read) → decoded s p.registers p.pc r ≡ decoded t p.registers p.pc r
  decoded_same (Value word slot) =
      executed_same p.psw p.tlbhigh p.tlblow timer m n reads stores (operands_of p.registers p.pc word)
  decoded_same (Fault eid) = refl

  pub look_same : (lines : ℕ)
      → look (record { processor = p; timer = timer; memory = m }) lines ≡ look (record { processor = p; timer = timer; memory = n }) lines
  unfolding look look_from
  look_same lines =
      ap (cond (ltb (channel p.psw (lines_with timer lines)) 32) (Exception (channel p.psw (lines_with timer lines)) 0))
      (decoded_same (read_from 4 s p.pc) ∙ ap (decoded t p.registers p.pc) (reads 4 1024 refl p.pc))

  pub opcode_same : (lines : ℕ)
      → opcode_fetched (record { processor = p; timer = timer; memory = m }) lines ≡ opcode_fetched (record { processor = p; timer = timer; memory = n }) lines
  unfolding opcode_from
  opcode_same lines = ap (λ (r : Read). cond (ltb (channel p.psw (lines_with timer lines)) 32) no_opcode (opcode_read r)) (reads 4 1024 refl p.pc)
