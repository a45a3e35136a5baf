-- The processor status word (manual, 2.7): its fields, and its two stacks.
use Rattle.std.specs.Prelude.{Bool, ℕ, ◌+◌, ◌*◌, ◌/◌, ◌%◌, ◌^◌, eqb}

-- ---- the fields

-- V, bit 27
unfoldable pub vector : ℕ → ℕ
vector psw = psw / 2 ^ 27 % 2

-- U_C, U_P, U_O, bits 26 to 24
unfoldable pub user_current : ℕ → ℕ
user_current psw = psw / 2 ^ 26 % 2

unfoldable pub user_previous : ℕ → ℕ
user_previous psw = psw / 2 ^ 25 % 2

unfoldable pub user_old : ℕ → ℕ
user_old psw = psw / 2 ^ 24 % 2

-- I_C, I_P, I_O, bits 23 to 21
unfoldable pub interrupt_current : ℕ → ℕ
interrupt_current psw = psw / 2 ^ 23 % 2

unfoldable pub interrupt_previous : ℕ → ℕ
interrupt_previous psw = psw / 2 ^ 22 % 2

unfoldable pub interrupt_old : ℕ → ℕ
interrupt_old psw = psw / 2 ^ 21 % 2

-- EID, bits 20 to 16
unfoldable pub identifier : ℕ → ℕ
identifier psw = psw / 2 ^ 16 % 32

-- IEN, bits 15 to 0
unfoldable pub enabled : ℕ → ℕ
enabled psw = psw % 2 ^ 16

-- the word of nine fields, in the manual's order
unfoldable pub psw_of : ℕ → ℕ → ℕ → ℕ → ℕ → ℕ → ℕ → ℕ → ℕ → ℕ
psw_of v uc up uo ic ip io eid ien =
    v * 2 ^ 27 + uc * 2 ^ 26 + up * 2 ^ 25 + uo * 2 ^ 24 + ic * 2 ^ 23 + ip * 2 ^ 22 + io * 2 ^ 21 + eid * 2 ^ 16 + ien

-- ---- the stacks

-- 0 pushed on both, and the identifier set (2.7.2, 2.7.3 and 2.8.1)
unfoldable pub pushed : ℕ → ℕ → ℕ
pushed psw eid =
    psw_of (vector psw)
    0 (user_current psw) (user_previous psw)
    0 (interrupt_current psw) (interrupt_previous psw)
    (eid % 32) (enabled psw)

-- both popped; the old level keeps its value
unfoldable pub popped : ℕ → ℕ
popped psw =
    psw_of (vector psw)
    (user_previous psw) (user_old psw) (user_old psw)
    (interrupt_previous psw) (interrupt_old psw) (interrupt_old psw)
    (identifier psw) (enabled psw)

-- User Mode: U_C is 1
unfoldable pub user_mode : ℕ → Bool
user_mode psw = eqb (user_current psw) 1
