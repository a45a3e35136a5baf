-- The bits of a word that each special register keeps, and words with no other bit (document 01, "Closed by us").
use Rattle.std.specs.Prelude.{Bool, true, cond, List, ℕ, zero, suc, ◌+◌, ◌*◌, ◌/◌, ◌%◌, ◌^◌, eqb, get_or}
use Rattle.words.specs.Logic.{both}

-- ---- kept bits, of words below 2 ^ 32

-- 27..0
unfoldable pub kept_psw : ℕ → ℕ
kept_psw v = v % 2 ^ 28

-- 31 and 4..0
unfoldable pub kept_index : ℕ → ℕ
kept_index v = v / 2 ^ 31 * 2 ^ 31 + v % 32

-- 31..12: of Entry High and of TLB high words
unfoldable pub kept_high : ℕ → ℕ
kept_high v = v / 4096 * 4096

-- 31..12, 1 and 0: of Entry Low and of TLB low words
unfoldable pub kept_low : ℕ → ℕ
kept_low v = v / 4096 * 4096 + v % 4

-- the value of a special register after a write to number z
abbrev pub after : ℕ → ℕ → ℕ → ℕ → ℕ
after z own v former = cond (eqb z own) v former

-- ---- no other bit

-- no other bit is set
abbrev pub only : (ℕ → ℕ) → ℕ → Bool
only kept v = eqb (kept v) v

-- of the n words of a list from i on
unfoldable pub only_from : (ℕ → ℕ) → ℕ → List ℕ → ℕ → Bool
only_from kept zero l i = true
only_from kept (suc n) l i = both (only kept (get_or l i 0)) (only_from kept n l (suc i))
