-- What a translation comes to: by its physical address, or by the number of its fault.
use mathlib.Core.Path.{◌≡◌, refl, ap}
use Prim.Native.Nat.{ℕ, ◌≤◌, ◌<◌}
use native.Mathlib.Omega.{arith}
use Rattle.translation.specs.Translation.{resolved, translation_eid, Translation, Physical, TlbMiss, TlbWrite, TlbInvalid, IllegalAddress, PrivilegedAddress}

-- no physical address
abbrev pub IsFault : Translation → Type 0
IsFault t = (x i : ℕ) → t ≡ Physical x i → ⊥

pub not_physical : (x i : ℕ) → IsFault (Physical x i) → ⊥
not_physical x i h = h x i refl

-- a fault is no physical address
pub refused {ℓ} : {A : Type ℓ} {x i : ℕ} (t : Translation) → translation_eid t < 32 → t ≡ Physical x i → A
refused t h e = let none : translation_eid t ≡ 32 = ap translation_eid e in absurd (omega arith)

module _ {A : Type 0} (at : ℕ → ℕ → A) (fault : ℕ → A) where
  -- what holds at every physical address, by any slot, and of every fault holds of what the translation comes to
  pub walk {κ} : (P : A → Type κ) (t : Translation) → ((x i : ℕ) → t ≡ Physical x i → P (at x i))
      → ((eid : ℕ) → 21 ≤ eid → eid ≤ 25 → P (fault eid)) → P (resolved at fault t)
  walk P (Physical x i) f g = f x i refl
  walk P TlbMiss f g = g 21 (omega arith) (omega arith)
  walk P TlbWrite f g = g 22 (omega arith) (omega arith)
  walk P TlbInvalid f g = g 23 (omega arith) (omega arith)
  walk P IllegalAddress f g = g 24 (omega arith) (omega arith)
  walk P PrivilegedAddress f g = g 25 (omega arith) (omega arith)

  -- what is no physical address comes to its fault
  pub at_fault : (t : Translation) → IsFault t → fault (translation_eid t) ≡ resolved at fault t
  at_fault (Physical x i) h = absurd (not_physical x i h)
  at_fault TlbMiss h = refl
  at_fault TlbWrite h = refl
  at_fault TlbInvalid h = refl
  at_fault IllegalAddress h = refl
  at_fault PrivilegedAddress h = refl

  -- and so by its number
  pub at_number : (t : Translation) → translation_eid t < 32 → fault (translation_eid t) ≡ resolved at fault t
  at_number (Physical x i) h = absurd (omega (arith, h))
  at_number TlbMiss h = refl
  at_number TlbWrite h = refl
  at_number TlbInvalid h = refl
  at_number IllegalAddress h = refl
  at_number PrivilegedAddress h = refl
