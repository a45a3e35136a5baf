-- Big-endian numbers one after the other, as bytes (document 01, "What the host lends").
use Rattle.std.specs.Prelude.{List, [], ◌∷◌, ◌++◌, ℕ, zero, suc, ◌+◌, ◌/◌, ◌%◌}
use Rattle.endian.specs.BigEndian.{read_at, write_at}

-- the low w bytes of a number, the lowest last
unfoldable pub bytes_of : ℕ → ℕ → List ℕ
bytes_of zero v = []
bytes_of (suc w) v = bytes_of w (v / 256) ++ (v % 256 ∷ [])

-- words one after the other
unfoldable pub word_bytes : List ℕ → List ℕ
word_bytes [] = []
word_bytes (v ∷ l) = bytes_of 4 v ++ word_bytes l

-- pairs of a high word and a low word
unfoldable pub pair_bytes : List ℕ → List ℕ → List ℕ
pair_bytes [] lows = []
pair_bytes (h ∷ highs) [] = []
pair_bytes (h ∷ highs) (l ∷ lows) = bytes_of 4 h ++ bytes_of 4 l ++ pair_bytes highs lows

-- n words in a list of bytes: the first at an offset, and each `stride` bytes after the one before
unfoldable pub words_at : ℕ → List ℕ → ℕ → ℕ → List ℕ
words_at zero s at stride = []
words_at (suc n) s at stride = read_at 4 s at ∷ words_at n s (at + stride) stride

-- words written into a list of bytes at those places
unfoldable pub words_put : List ℕ → ℕ → ℕ → List ℕ → List ℕ
words_put s at stride [] = s
words_put s at stride (v ∷ l) = words_put (write_at 4 s at v) (at + stride) stride l
