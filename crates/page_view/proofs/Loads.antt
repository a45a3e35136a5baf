-- An accepted view agrees with Kernel Mode loads: byte i of the part is what a load of the page's byte i brings, by the view's slot.
use mathlib.Core.Path.{◌≡◌, ap, sym, ◌∙◌}
use mathlib.Core.Bool.{false}
use mathlib.Core.List.{List}
use Prim.Native.Nat.{ℕ, ◌+◌, ◌*◌, ◌<◌}
use native.Mathlib.Omega.{arith}
use native.Mathlib.Nat.{add-zero}
use lib.ListN.{length, get_or, drop}
use lib.Seq.{get_or-take, get_or-drop}
use Rattle.endian.specs.BigEndian.{read_at}
use Rattle.timer.specs.declared.Timer.{Timer}
use Rattle.memory.specs.Map.{Memory, memory, place_in}
use Rattle.memory.specs.Access.{load_of}
use Rattle.memory.specs.declared.Place.TheVariants.{Ram}
use Rattle.memory.specs.Loaded as loaded
use Rattle.memory.proofs.Places.{true_within, locate_ram, place_by}
use Rattle.memory.proofs.Outcomes.{load_at}
use Rattle.status.specs.Psw.{user_mode}
use Rattle.processor.specs.declared.Processor.{Processor}
use Rattle.instructions.specs.Operands.{surroundings}
use Rattle.access.specs.Reads.{answered, read_through, read_from}
use Rattle.access.specs.Read.{Value, Fault}
use Rattle.page_view.specs.View.{view_refusal, view_of}
use Rattle.page_view.specs.Part.{view_part}
use Rattle.page_view.proofs.Lookup.{frame_byte}
use Rattle.page_view.proofs.FrameLaws.{first_byte, whole, part_is}

one_byte : (s : List ℕ) (at : ℕ) → read_at 1 s at ≡ get_or s at 0
unfolding read_at
one_byte s at = rw (add-zero at) (omega arith)

-- a load of one byte in RAM
load_ram : (t : Timer) (m : Memory) (a : ℕ) → a < length m.ram → load_of 1 t m a ≡ loaded.Value (get_or m.ram a 0)
load_ram t m a h = load_at 1 t m a (Ram a) place ∙ ap loaded.Value (one_byte m.ram a)
  where
    place : place_in 1 m a ≡ Ram a
    place =
        place_by 1 (length m.ram) (length m.rom) (length m.belt) a
        (locate_ram 1 (length m.ram) (length m.rom) (length m.belt) a (true_within 0 (length m.ram) 1 a (omega arith) (omega arith)))

module _ (ram rom belt : List ℕ) (t : Timer) (p : Processor) (page psw : ℕ) (kernel : user_mode psw ≡ false) (ok : view_refusal ram p page ≡ 0) where
  part_byte : (i : ℕ) → i < 4096 → get_or (view_part ram p page) i 0 ≡ get_or ram ((view_of ram p page).offset + i) 0
  part_byte i h =
      ap (λ (l : List ℕ). get_or l i 0) (part_is ram p page ok)
      ∙ get_or-take 4096 (drop (view_of ram p page).offset ram) i 0 h
      ∙ get_or-drop (view_of ram p page).offset ram i 0

  pub load_agrees : (i : ℕ) → i < 4096
      → read_from 1 (surroundings psw p.tlbhigh p.tlblow t (memory ram rom belt)) (page * 4096 + i)
      ≡ Value (get_or (view_part ram p page) i 0) (view_of ram p page).slot
  unfolding read_from
  load_agrees i h =
      let w = whole ram p page ok in
      ap (read_through 1 t (memory ram rom belt)) (frame_byte p page _ _ (first_byte ram p page ok) psw i kernel h)
      ∙ ap (answered (view_of ram p page).slot) (load_ram t (memory ram rom belt) ((view_of ram p page).offset + i) (omega arith))
      ∙ ap (λ (v : ℕ). Value v (view_of ram p page).slot) (sym (part_byte i h))

  -- so the load of no byte of the page faults, and a page where one would is refused
  pub no_fault : (i eid : ℕ) → i < 4096
      → read_from 1 (surroundings psw p.tlbhigh p.tlblow t (memory ram rom belt)) (page * 4096 + i) ≡ Fault eid → ⊥
  no_fault i eid h e =
      let clash = sym (load_agrees i h) ∙ e in
      let z : ◌≡◌ {A = ℕ} 0 1 = cc in
      omega arith
