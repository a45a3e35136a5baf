-- The conditions of the branches (manual, 3.4): six orders, on the unsigned and on the signed readings.
use Rattle.std.specs.Prelude.{Bool, not, ℕ, ltb, leb, eqb}
use Rattle.std.specs.Int.Signed.{lt_z, le_z}
use Rattle.words.specs.Numbers.{signed}
use Rattle.comparison.specs.declared.Order.{Order}
use Rattle.comparison.specs.declared.Order.TheVariants.{Equal, NotEqual, LessOrEqual, Less, GreaterOrEqual, Greater}

-- BEQ, BNE, BLEU, BLTU, BGEU, BGTU
unfoldable pub unsigned_holds : Order → ℕ → ℕ → Bool
unsigned_holds Equal x y = eqb x y
unsigned_holds NotEqual x y = not (eqb x y)
unsigned_holds LessOrEqual x y = leb x y
unsigned_holds Less x y = ltb x y
unsigned_holds GreaterOrEqual x y = leb y x
unsigned_holds Greater x y = ltb y x

-- BEQ, BNE, BLE, BLT, BGE, BGT. Two words are equal exactly where their signed readings are
unfoldable pub signed_holds : Order → ℕ → ℕ → Bool
signed_holds Equal x y = eqb x y
signed_holds NotEqual x y = not (eqb x y)
signed_holds LessOrEqual x y = le_z (signed 32 x) (signed 32 y)
signed_holds Less x y = lt_z (signed 32 x) (signed 32 y)
signed_holds GreaterOrEqual x y = le_z (signed 32 y) (signed 32 x)
signed_holds Greater x y = lt_z (signed 32 y) (signed 32 x)
