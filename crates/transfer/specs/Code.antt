-- Helpers of the code's contracts. No definition names them.
use Rattle.std.specs.Prelude.{◌≡◌, ℕ, ◌<◌, ◌^◌, cond, eqb}

-- a function of the code makes of each word what this one makes of it
abbrev pub Computes : (ℕ → ℕ → Type 0) → (ℕ → ℕ) → Type 0
Computes function extended = (v r : ℕ) → v < 2 ^ 32 → function v r → r ≡ extended v

-- the bytes of STW, STH and STB, the sixth to the eighth
unfoldable pub stored_bytes : ℕ → ℕ
stored_bytes kind = cond (eqb kind 5) 4 (cond (eqb kind 6) 2 1)
