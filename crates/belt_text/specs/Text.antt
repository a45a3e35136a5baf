-- The text for short input (document 01, "Cases", `beltrun`), in ASCII, and where a text is written.
use Rattle.std.specs.Prelude.{cond, List, [], ◌∷◌, ◌++◌, ℕ, ltb, length, drop}

-- `short input` and the end of the line
unfoldable pub short_input : List ℕ
short_input = 115 ∷ 104 ∷ 111 ∷ 114 ∷ 116 ∷ 32 ∷ 105 ∷ 110 ∷ 112 ∷ 117 ∷ 116 ∷ 10 ∷ []

-- a text at the start of a buffer, and its bytes there; a buffer shorter than the text is left as it is
unfoldable pub placed : List ℕ → List ℕ → List ℕ
placed text s = cond (ltb (length s) (length text)) s (text ++ drop (length text) s)

unfoldable pub count_of : List ℕ → List ℕ → ℕ
count_of text s = cond (ltb (length s) (length text)) 0 (length text)
