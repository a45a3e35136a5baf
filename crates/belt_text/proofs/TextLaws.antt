-- The laws of a text in a buffer.
use mathlib.Core.Path.{◌≡◌, refl}
use mathlib.Core.Bool.{Bool, true, false, cond}
use mathlib.Core.List.{List, ◌++◌}
use Prim.Native.Nat.{ℕ, ◌<◌, ◌≤◌}
use lib.Dec.{ltb}
use lib.ListN.{length, drop}
use native.Mathlib.Omega.{arith}
use borrow.Author.Tests.{ltb-false, lt-ltb, le-ltb}
use Rattle.belt_text.specs.Text.{placed, count_of}

-- ---- where a text of n bytes is put, and which

module _ (n : ℕ) (text s : List ℕ) (e : length text ≡ n) where
  pub no_room : length s < n → (0 ≡ count_of text s) × (s ≡ placed text s)
  unfolding count_of placed
  no_room h = rw e (simp (lt-ltb _ _ h) (refl, refl))

  pub room : n ≤ length s → (n ≡ count_of text s) × (text ++ drop n s ≡ placed text s)
  unfolding count_of placed
  room h = rw e (simp (le-ltb _ _ h) (refl, refl))

-- what is counted lies within the buffer, which keeps its length
pub within : (text s t : List ℕ) {r : ℕ} → r ≡ count_of text s → length t ≡ length s → r ≤ length t
unfolding count_of
within text s t e k = rw e (go (ltb (length s) (length text)) refl)
  where
    go : (b : Bool) → ltb (length s) (length text) ≡ b → cond b 0 (length text) ≤ length t
    go true f = omega arith
    go false f = omega (arith, ltb-false (length s) (length text) f)
