-- The text of one step (document 01, "Cases", `beltrun`), in ASCII: its number, the PC in hexadecimal capitals, the EID or `--`.
use Rattle.std.specs.Prelude.{cond, List, [], ◌∷◌, ◌++◌, ℕ, ◌+◌, ◌-◌, ◌/◌, ◌%◌, ltb}
use Rattle.words.specs.Identifiers.{no_exception}

-- `0` to `9`, then `A` to `F`
unfoldable pub hex_digit : ℕ → ℕ
hex_digit d = cond (ltb d 10) (48 + d) (65 + (d - 10))

-- eight digits, the highest first
unfoldable pub hex_word : ℕ → List ℕ
hex_word w =
    hex_digit (w / 0x10000000 % 16)
    ∷ hex_digit (w / 0x1000000 % 16)
    ∷ hex_digit (w / 0x100000 % 16)
    ∷ hex_digit (w / 0x10000 % 16)
    ∷ hex_digit (w / 0x1000 % 16)
    ∷ hex_digit (w / 0x100 % 16)
    ∷ hex_digit (w / 0x10 % 16)
    ∷ hex_digit (w % 16)
    ∷ []

-- the last digit of a number in decimal
unfoldable pub decimal_digit : ℕ → ℕ
decimal_digit n = 48 + n % 10

unfoldable pub two_digits : ℕ → List ℕ
two_digits n = decimal_digit (n / 10) ∷ decimal_digit n ∷ []

-- an EID, or `--` for a step with no exception
unfoldable pub eid_text : ℕ → List ℕ
eid_text eid = cond (ltb eid no_exception) (two_digits eid) (45 ∷ 45 ∷ [])

-- the line of a step: its number, a blank, the PC, a blank, the EID, the end of the line
unfoldable pub line_of : ℕ → ℕ → ℕ → List ℕ
line_of step pc eid = (decimal_digit step ∷ 32 ∷ []) ++ (hex_word pc ++ (32 ∷ eid_text eid ++ (10 ∷ [])))
