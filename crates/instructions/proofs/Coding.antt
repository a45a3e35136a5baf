-- The code's actions: which of them are privileged instructions.
use mathlib.Core.Path.{◌≡◌, ap}
use mathlib.Core.Logic.{◌⊎◌, inl, inr}
use Prim.Native.Nat.{ℕ}
use Rattle.instructions.specs.Action.{SystemInstruction, Rfx, Mvfs, Mvts, Tbs, Tbwr, Tbri, Tbwi, System}
use Rattle.instructions.specs.Code.{action_of}
use Rattle.instructions.specs.declared.Coded.{Coded}
use Rattle.instructions.specs.declared.Coded.TheVariants as coded

abbrev Two : (ℕ → ℕ → Coded) → Coded → Type 0
Two variant a = (x : ℕ) × (y : ℕ) × (a ≡ variant x y)

-- as an arm of a match that takes the seven together tells it
abbrev pub IsSystem : Coded → Type 0
IsSystem a =
    (a ≡ coded.Rfx) ⊎ (Two coded.Mvfs a ⊎ (Two coded.Mvts a ⊎ ((a ≡ coded.Tbs) ⊎ ((a ≡ coded.Tbwr) ⊎ ((a ≡ coded.Tbri) ⊎ (a ≡ coded.Tbwi))))))

pub is_system : (a : Coded) → IsSystem a → (i : SystemInstruction) × (action_of a ≡ System i)
is_system a (inl e) = (Rfx, ap action_of e)
is_system a (inr (inl (x, y, e))) = (Mvfs x y, ap action_of e)
is_system a (inr (inr (inl (x, y, e)))) = (Mvts x y, ap action_of e)
is_system a (inr (inr (inr (inl e)))) = (Tbs, ap action_of e)
is_system a (inr (inr (inr (inr (inl e))))) = (Tbwr, ap action_of e)
is_system a (inr (inr (inr (inr (inr (inl e)))))) = (Tbri, ap action_of e)
is_system a (inr (inr (inr (inr (inr (inr e)))))) = (Tbwi, ap action_of e)
