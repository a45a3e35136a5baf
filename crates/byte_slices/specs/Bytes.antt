-- Lists of bytes copied and patched.
use Rattle.std.specs.Prelude.{Bool, cond, List, ℕ, ◌+◌, leb, eqb, length}
use Rattle.endian.specs.BigEndian.{write_at}

-- the bytes of one list put over those of another; a list of another length is left as it is
unfoldable pub copied : List ℕ → List ℕ → List ℕ
copied to from = cond (eqb (length to) (length from)) from to

-- whether w bytes from an offset lie in a list
abbrev pub fits : ℕ → List ℕ → ℕ → Bool
fits w s at = leb (at + w) (length s)

-- the list with a number of w bytes there; where they do not fit, the list as it is
unfoldable pub patch : ℕ → List ℕ → ℕ → ℕ → List ℕ
patch w s at v = cond (fits w s at) (write_at w s at v) s
