-- A store by what its translation came to: a fault, and what its place answers.
use mathlib.Core.Path.{◌≡◌, refl, ap, sym, ◌∙◌}
use Prim.Native.Nat.{ℕ}
use Rattle.translation.specs.Translation.{Translation, Physical, translation_eid}
use Rattle.translation.specs.Code.{fault_of}
use Rattle.translation.specs.declared.Fault as translation
use Rattle.translation.specs.declared.Fault.TheVariants as fault
use Rattle.memory.specs.Map.{Memory, place_in}
use Rattle.memory.specs.Access.{store_answer, completes}
use Rattle.memory.specs.declared.Place.{Place}
use Rattle.memory.specs.declared.Place.TheVariants.{Ram, Rom, Belt, Timer, Nothing}
use Rattle.memory.specs.Stored as stored
use Rattle.memory.proofs.Outcomes.{answer_at}
use Rattle.translation.proofs.Resolved.{IsFault, at_fault}
use Rattle.instructions.specs.Action.{Store, Exception}
use Rattle.access.specs.Writes.{settled, store_through}

-- what is no physical address comes to its fault
pub store_fault : (width : ℕ) (m : Memory) (value address : ℕ) (t : Translation) → IsFault t
    → Exception (translation_eid t) address ≡ store_through width m value address t
store_fault width m value address t h = at_fault _ (λ eid. Exception eid address) t h

-- the same of a fault as the code names it
pub coded_store_fault : (width : ℕ) (m : Memory) (value address : ℕ) (f : translation.Fault)
    → store_through width m value address (fault_of f) ≡ Exception (translation_eid (fault_of f)) address
coded_store_fault width m value address fault.TlbMiss = refl
coded_store_fault width m value address fault.TlbWrite = refl
coded_store_fault width m value address fault.TlbInvalid = refl
coded_store_fault width m value address fault.IllegalAddress = refl
coded_store_fault width m value address fault.PrivilegedAddress = refl

-- what is at a place takes a store
pub taken : (p : Place) → (p ≡ Nothing → ⊥) → completes p ≡ stored.Done
taken (Ram at) something = refl
taken (Rom at) something = refl
taken (Belt at) something = refl
taken (Timer at) something = refl
taken Nothing something = absurd (something refl)

pub ruleset coded_store = (coded_store_fault, taken)

-- ---- a store that is granted, by the place of its physical address

module _ (width : ℕ) (m : Memory) (value address physical slot : ℕ) (t : Translation) (p : Place) (bytes : ℕ) (same : bytes ≡ width)
    (granted : t ≡ Physical physical slot) (place : place_in bytes m physical ≡ p) where
  answer_of_lem : store_answer width m physical ≡ completes p
  answer_of_lem = ap (λ (n : ℕ). store_answer n m physical) (sym same) ∙ answer_at bytes m physical p place

  pub store_done : completes p ≡ stored.Done → Store bytes physical value slot ≡ store_through width m value address t
  store_done done =
      ap (λ (n : ℕ). Store n physical value slot) same
      ∙ sym (ap (store_through width m value address) granted ∙ ap (settled width physical value slot address) (answer_of_lem ∙ done))

  pub store_timeout : completes p ≡ stored.Timeout → Exception 16 address ≡ store_through width m value address t
  store_timeout out =
      sym (ap (store_through width m value address) granted ∙ ap (settled width physical value slot address) (answer_of_lem ∙ out))
