-- A read by what its translation came to: a fault, or what the load at the physical address brought.
use mathlib.Core.Path.{◌≡◌, refl, ap, sym, ◌∙◌}
use mathlib.Core.Bool.{false}
use Prim.Native.Nat.{ℕ, ◌<◌}
use native.Mathlib.Omega.{arith}
use Rattle.translation.specs.Translation.{translated, translation_eid, Translation, Physical}
use Rattle.translation.specs.Code.{fault_of}
use Rattle.translation.specs.declared.Fault as translation
use Rattle.translation.specs.declared.Fault.TheVariants as fault
use Rattle.translation.proofs.Resolved.{IsFault, at_fault, at_number}
use Rattle.timer.specs.declared.Timer.{Timer}
use Rattle.memory.specs.Map.{Memory}
use Rattle.memory.specs.Access.{load_of, loaded_eid, loaded_value}
use Rattle.memory.specs.Loaded.{Loaded}
use Rattle.memory.specs.Loaded as loaded
use Rattle.instructions.specs.Operands.{Surroundings}
use Rattle.access.specs.Reads.{answered, read_through, read_from, read_eid, read_value, read_slot}
use Rattle.access.specs.Read.{Read, Fault}

pub read_fault : (width : ℕ) (timer : Timer) (m : Memory) (t : Translation) → IsFault t → Fault (translation_eid t) ≡ read_through width timer m t
read_fault width timer m t h = at_fault _ Fault t h

-- the same of a fault as the code names it
pub coded_read_fault : (width : ℕ) (timer : Timer) (m : Memory) (f : translation.Fault)
    → read_through width timer m (fault_of f) ≡ Fault (translation_eid (fault_of f))
coded_read_fault width timer m fault.TlbMiss = refl
coded_read_fault width timer m fault.TlbWrite = refl
coded_read_fault width timer m fault.TlbInvalid = refl
coded_read_fault width timer m fault.IllegalAddress = refl
coded_read_fault width timer m fault.PrivilegedAddress = refl

-- the two ways through a read
module _ (width : ℕ) (s : Surroundings) (address : ℕ) {t : Translation}
    (e : t ≡ translated s.psw s.highs s.lows width false address) where
  pub to_a_fault : {eid : ℕ} → IsFault t → eid ≡ translation_eid t → Fault eid ≡ read_from width s address
  unfolding read_from
  to_a_fault h k = ap Fault k ∙ read_fault width s.timer s.memory t h ∙ ap (read_through width s.timer s.memory) e

  pub to_a_load : {x slot : ℕ} {l : Loaded} {r : Read} → t ≡ Physical x slot → l ≡ load_of width s.timer s.memory x → r ≡ answered slot l
      → r ≡ read_from width s address
  unfolding read_from
  to_a_load {slot = slot} f g h = h ∙ ap (answered slot) g ∙ sym (ap (read_through width s.timer s.memory) (sym e ∙ f))

-- ---- the numbers of a read: those of its translation's fault, or of the load at the physical address; and the translation's slot

answered_numbers : (slot : ℕ) (l : Loaded) → (read_eid (answered slot l) ≡ loaded_eid l) × (read_value (answered slot l) ≡ loaded_value l)
answered_numbers slot (loaded.Value v) = (refl, refl)
answered_numbers slot loaded.Timeout = (refl, refl)

answered_slot : (slot : ℕ) (l : Loaded) → read_eid (answered slot l) ≡ 32 → read_slot (answered slot l) ≡ slot
answered_slot slot (loaded.Value v) h = refl
answered_slot slot loaded.Timeout h = absurd (omega (arith, h))

module _ (width : ℕ) (s : Surroundings) (address : ℕ) where
  abbrev place : Translation
  place = translated s.psw s.highs s.lows width false address

  pub read_names_the_fault : translation_eid place < 32 → read_eid (read_from width s address) ≡ translation_eid place
  unfolding read_from
  read_names_the_fault h = ap read_eid (sym (at_number _ Fault place h))

  pub read_as_the_load : (x slot : ℕ) → place ≡ Physical x slot
      → (read_eid (read_from width s address) ≡ loaded_eid (load_of width s.timer s.memory x))
      × (read_value (read_from width s address) ≡ loaded_value (load_of width s.timer s.memory x))
  read_as_the_load x slot e =
      let same = to_a_load width s address refl e refl refl in
      let numbers = answered_numbers slot (load_of width s.timer s.memory x) in
      (ap read_eid (sym same) ∙ numbers.0, ap read_value (sym same) ∙ numbers.1)

  -- a read that brings a value has the slot of its translation; one that faults has none, by the definition
  pub read_served : (x slot : ℕ) → place ≡ Physical x slot → read_eid (read_from width s address) ≡ 32 → read_slot (read_from width s address) ≡ slot
  read_served x slot e h =
      let same = to_a_load width s address refl e refl refl in
      ap read_slot (sym same) ∙ answered_slot slot (load_of width s.timer s.memory x) (ap read_eid same ∙ h)
