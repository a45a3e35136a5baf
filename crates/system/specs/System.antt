-- The system instructions (manual, 3.6), a clause for each, and their opcodes 2E, 2F and 38 to 3D. RFX, MVFS, MVTS and the TLB instructions
-- touch more of the processor than the look reads: the look names them, and the step does them.
use Rattle.std.specs.Prelude.{cond, List, [], ◌∷◌, ℕ, ◌%◌, ◌^◌}
use Rattle.words.specs.Identifiers.{privileged_instruction, trap}
use Rattle.status.specs.Psw.{user_mode}
use Rattle.instructions.specs.Operands.{field_y, fault}
use Rattle.instructions.specs.Action.{Action, System, Rfx, Mvfs, Mvts, Tbs, Tbwr, Tbri, Tbwi}

-- in User Mode a privileged instruction faults
unfoldable pub privileged : ℕ → Action → Action
privileged psw action = cond (user_mode psw) (fault privileged_instruction) action

-- bits 15..0: all of them count as a special register's number
abbrev pub number_z : ℕ → ℕ
number_z word = word % 2 ^ 16

-- what they read: the PSW, the register of bits 20..16, and the instruction word
abbrev pub SystemMeaning : Type 0
SystemMeaning = ℕ → ℕ → ℕ → Action

-- 3.6.1
abbrev pub TRAP : SystemMeaning
TRAP psw y word = fault trap

-- 3.6.2
abbrev pub RFX : SystemMeaning
RFX psw y word = privileged psw (System Rfx)

-- 3.6.3
abbrev pub MVFS : SystemMeaning
MVFS psw y word = privileged psw (System (Mvfs (number_z word) (field_y word)))

-- 3.6.4
abbrev pub MVTS : SystemMeaning
MVTS psw y word = privileged psw (System (Mvts (number_z word) y))

-- 3.6.5
abbrev pub TBS : SystemMeaning
TBS psw y word = privileged psw (System Tbs)

-- 3.6.6
abbrev pub TBWR : SystemMeaning
TBWR psw y word = privileged psw (System Tbwr)

-- 3.6.7
abbrev pub TBRI : SystemMeaning
TBRI psw y word = privileged psw (System Tbri)

-- 3.6.8
abbrev pub TBWI : SystemMeaning
TBWI psw y word = privileged psw (System Tbwi)

-- opcodes 2E and 2F
unfoldable pub traps : List SystemMeaning
traps = TRAP ∷ RFX ∷ []

-- opcodes 38 to 3D
unfoldable pub systems : List SystemMeaning
systems = MVFS ∷ MVTS ∷ TBS ∷ TBWR ∷ TBRI ∷ TBWI ∷ []
