-- The computation instructions (manual, 3.3), a clause for each, and their opcodes 00 to 1F.
use Rattle.std.specs.Prelude.{cond, List, [], ◌∷◌, ℕ, eqb}
use Rattle.words.specs.Identifiers.{division_by_zero}
use Rattle.sums.specs.Sums.{sum, difference, signed_product, unsigned_product}
use Rattle.quotients.specs.Quotients.{signed_quotient, unsigned_quotient, signed_remainder, unsigned_remainder}
use Rattle.bitwise.specs.Bitwise.{and, or, xor, xnor}
use Rattle.shifts.specs.Shifts.{shift_left, shift_right, shift_arithmetic, load_high}
use Rattle.instructions.specs.Operands.{Simple, immediate_s, immediate_z, into_r, into_y, fault, illegal}
use Rattle.instructions.specs.Action.{Action}

-- a divisor of 0 faults
unfoldable pub unless_zero : ℕ → Action → Action
unless_zero divisor action = cond (eqb divisor 0) (fault division_by_zero) action

-- 3.3.1, 3.3.2
abbrev pub ADD : Simple
ADD o = into_r o (sum o.x o.y)

abbrev pub ADDI : Simple
ADDI o = into_y o (sum o.x (immediate_s o))

-- 3.3.3, 3.3.4
abbrev pub SUB : Simple
SUB o = into_r o (difference o.x o.y)

abbrev pub SUBI : Simple
SUBI o = into_y o (difference o.x (immediate_s o))

-- 3.3.5, 3.3.6
abbrev pub MUL : Simple
MUL o = into_r o (signed_product o.x o.y)

abbrev pub MULI : Simple
MULI o = into_y o (signed_product o.x (immediate_s o))

-- 3.3.7, 3.3.8
abbrev pub MULU : Simple
MULU o = into_r o (unsigned_product o.x o.y)

abbrev pub MULUI : Simple
MULUI o = into_y o (unsigned_product o.x (immediate_z o))

-- 3.3.9, 3.3.10
abbrev pub DIV : Simple
DIV o = unless_zero o.y (into_r o (signed_quotient o.x o.y))

abbrev pub DIVI : Simple
DIVI o = unless_zero (immediate_s o) (into_y o (signed_quotient o.x (immediate_s o)))

-- 3.3.11, 3.3.12
abbrev pub DIVU : Simple
DIVU o = unless_zero o.y (into_r o (unsigned_quotient o.x o.y))

abbrev pub DIVUI : Simple
DIVUI o = unless_zero (immediate_z o) (into_y o (unsigned_quotient o.x (immediate_z o)))

-- 3.3.13, 3.3.14
abbrev pub REM : Simple
REM o = unless_zero o.y (into_r o (signed_remainder o.x o.y))

abbrev pub REMI : Simple
REMI o = unless_zero (immediate_s o) (into_y o (signed_remainder o.x (immediate_s o)))

-- 3.3.15, 3.3.16
abbrev pub REMU : Simple
REMU o = unless_zero o.y (into_r o (unsigned_remainder o.x o.y))

abbrev pub REMUI : Simple
REMUI o = unless_zero (immediate_z o) (into_y o (unsigned_remainder o.x (immediate_z o)))

-- 3.3.17, 3.3.18
abbrev pub AND : Simple
AND o = into_r o (and o.x o.y)

abbrev pub ANDI : Simple
ANDI o = into_y o (and o.x (immediate_z o))

-- 3.3.19, 3.3.20
abbrev pub OR : Simple
OR o = into_r o (or o.x o.y)

abbrev pub ORI : Simple
ORI o = into_y o (or o.x (immediate_z o))

-- 3.3.21, 3.3.22
abbrev pub XOR : Simple
XOR o = into_r o (xor o.x o.y)

abbrev pub XORI : Simple
XORI o = into_y o (xor o.x (immediate_z o))

-- 3.3.23, 3.3.24
abbrev pub XNOR : Simple
XNOR o = into_r o (xnor o.x o.y)

abbrev pub XNORI : Simple
XNORI o = into_y o (xnor o.x (immediate_z o))

-- 3.3.25, 3.3.26
abbrev pub SLL : Simple
SLL o = into_r o (shift_left o.x o.y)

abbrev pub SLLI : Simple
SLLI o = into_y o (shift_left o.x (immediate_z o))

-- 3.3.27, 3.3.28
abbrev pub SLR : Simple
SLR o = into_r o (shift_right o.x o.y)

abbrev pub SLRI : Simple
SLRI o = into_y o (shift_right o.x (immediate_z o))

-- 3.3.29, 3.3.30
abbrev pub SAR : Simple
SAR o = into_r o (shift_arithmetic o.x o.y)

abbrev pub SARI : Simple
SARI o = into_y o (shift_arithmetic o.x (immediate_z o))

-- 3.3.31: bits 25..21 are not read
abbrev pub LDHI : Simple
LDHI o = into_y o (load_high o.word)

-- opcodes 00 to 1F, eight to a line
unfoldable pub computations : List Simple
computations =
    ADD ∷ ADDI ∷ SUB ∷ SUBI ∷ MUL ∷ MULI ∷ MULU ∷ MULUI
    ∷ DIV ∷ DIVI ∷ DIVU ∷ DIVUI ∷ REM ∷ REMI ∷ REMU ∷ REMUI
    ∷ AND ∷ ANDI ∷ OR ∷ ORI ∷ XOR ∷ XORI ∷ XNOR ∷ XNORI
    ∷ SLL ∷ SLLI ∷ SLR ∷ SLRI ∷ SAR ∷ SARI ∷ illegal ∷ LDHI ∷ []
