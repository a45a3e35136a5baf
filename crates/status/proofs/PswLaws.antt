-- The PSW's fields: each is read back from the word of nine fields; what a push and a pop make of each; and the code's way to both.
use mathlib.Core.Path.{◌≡◌, ap}
use mathlib.Core.Bool.{false}
use lib.Dec.{eqb}
use Prim.Native.Nat.{ℕ, ◌+◌, ◌*◌, ◌/◌, ◌%◌, ◌^◌, ◌<◌}
use native.Mathlib.Omega.{arith}
use Rattle.status.specs.Psw.{vector, user_current, user_previous, user_old, interrupt_current, interrupt_previous}
use Rattle.status.specs.Psw.{interrupt_old, identifier, enabled, psw_of, pushed, popped, user_mode}

-- ---- the code moves pairs of bits

push_by_pairs : (v uu uc up ii ic ip e n : ℕ) → uu ≡ uc * 2 + up → ii ≡ ic * 2 + ip
    → v * 134217728 + uu * 16777216 + ii * 2097152 + e * 65536 + n ≡ psw_of v 0 uc up 0 ic ip e n
unfolding psw_of
push_by_pairs v uu uc up ii ic ip e n h k = omega arith

pop_by_pairs : (v uu up uo ii ip io e n r : ℕ) → uu ≡ up * 2 + uo → ii ≡ ip * 2 + io → r ≡ e * 65536 + n
    → v * 134217728 + uu * 33554432 + uo * 16777216 + ii * 4194304 + io * 2097152 + r ≡ psw_of v up uo uo ip io io e n
unfolding psw_of
pop_by_pairs v uu up uo ii ip io e n r h k l = omega arith

pub push_code : (psw eid : ℕ)
    → psw / 134217728 % 2 * 134217728 + psw / 33554432 % 4 * 16777216 + psw / 4194304 % 4 * 2097152 + eid % 32 * 65536 + psw % 65536
    ≡ pushed psw eid
unfolding pushed vector user_current user_previous interrupt_current interrupt_previous enabled
push_code psw eid =
    let users : psw / 33554432 % 4 ≡ psw / 67108864 % 2 * 2 + psw / 33554432 % 2 = omega arith in
    let interrupts : psw / 4194304 % 4 ≡ psw / 8388608 % 2 * 2 + psw / 4194304 % 2 = omega arith in
    push_by_pairs _ _ _ _ _ _ _ _ _ users interrupts

pub pop_code : (psw : ℕ)
    → psw / 134217728 % 2 * 134217728 + psw / 16777216 % 4 * 33554432 + psw / 16777216 % 2 * 16777216
    + psw / 2097152 % 4 * 4194304 + psw / 2097152 % 2 * 2097152 + psw % 2097152
    ≡ popped psw
unfolding popped vector user_previous user_old interrupt_previous interrupt_old identifier enabled
pop_code psw =
    let users : psw / 16777216 % 4 ≡ psw / 33554432 % 2 * 2 + psw / 16777216 % 2 = omega arith in
    let interrupts : psw / 2097152 % 4 ≡ psw / 4194304 % 2 * 2 + psw / 2097152 % 2 = omega arith in
    let rest : psw % 2097152 ≡ psw / 65536 % 32 * 65536 + psw % 65536 = omega arith in
    pop_by_pairs _ _ _ _ _ _ _ _ _ _ users interrupts rest

-- ---- the fields of a word of nine fields

pub record Fields : Type 0 where
  pub v : ℕ
  pub uc : ℕ
  pub up : ℕ
  pub uo : ℕ
  pub ic : ℕ
  pub ip : ℕ
  pub io : ℕ
  pub eid : ℕ
  pub ien : ℕ

abbrev pub fields : ℕ → ℕ → ℕ → ℕ → ℕ → ℕ → ℕ → ℕ → ℕ → Fields
fields v uc up uo ic ip io e n = record { v = v; uc = uc; up = up; uo = uo; ic = ic; ip = ip; io = io; eid = e; ien = n }

unfoldable pub fields_of : ℕ → Fields
fields_of psw =
    fields (vector psw) (user_current psw) (user_previous psw) (user_old psw)
    (interrupt_current psw) (interrupt_previous psw) (interrupt_old psw) (identifier psw) (enabled psw)

same_fields : {v uc up uo ic ip io e n v' uc' up' uo' ic' ip' io' e' n' : ℕ}
    → v ≡ v' → uc ≡ uc' → up ≡ up' → uo ≡ uo' → ic ≡ ic' → ip ≡ ip' → io ≡ io' → e ≡ e' → n ≡ n'
    → fields v uc up uo ic ip io e n ≡ fields v' uc' up' uo' ic' ip' io' e' n'
same_fields a b c d e f g h k = λ i. fields (a i) (b i) (c i) (d i) (e i) (f i) (g i) (h i) (k i)

abbrev word_from : Fields → ℕ
word_from f = psw_of f.v f.uc f.up f.uo f.ic f.ip f.io f.eid f.ien

-- a word of nine fields has 28 bits, and each field is read back from it
is_word : (f : Fields) → f.v < 2 → f.uc < 2 → f.up < 2 → f.uo < 2 → f.ic < 2 → f.ip < 2 → f.io < 2 → f.eid < 32 → f.ien < 65536
    → (word_from f < 2 ^ 28) × (fields_of (word_from f) ≡ f)
unfolding psw_of fields_of vector user_current user_previous user_old interrupt_current interrupt_previous interrupt_old identifier enabled
is_word f hv huc hup huo hic hip hio he hn = (
  omega arith,
  same_fields (omega arith) (omega arith) (omega arith) (omega arith) (omega arith) (omega arith) (omega arith) (omega arith) (omega arith),
)

-- ---- a push and a pop, field by field

module _ (psw : ℕ) where
  abbrev pushed_fields : ℕ → Fields
  pushed_fields eid = fields (vector psw) 0 (user_current psw) (user_previous psw) 0 (interrupt_current psw) (interrupt_previous psw) (eid % 32) (enabled psw)

  abbrev popped_fields : Fields
  popped_fields =
      fields (vector psw) (user_previous psw) (user_old psw) (user_old psw)
      (interrupt_previous psw) (interrupt_old psw) (interrupt_old psw) (identifier psw) (enabled psw)

  push_word : (eid : ℕ) → (pushed psw eid < 2 ^ 28) × (fields_of (pushed psw eid) ≡ pushed_fields eid)
  unfolding pushed vector user_current user_previous interrupt_current interrupt_previous enabled
  push_word eid =
      is_word (pushed_fields eid) (omega arith) (omega arith) (omega arith) (omega arith) (omega arith) (omega arith) (omega arith) (omega arith) (omega arith)

  pop_word : (popped psw < 2 ^ 28) × (fields_of (popped psw) ≡ popped_fields)
  unfolding popped vector user_previous user_old interrupt_previous interrupt_old identifier enabled
  pop_word =
      is_word popped_fields (omega arith) (omega arith) (omega arith) (omega arith) (omega arith) (omega arith) (omega arith) (omega arith) (omega arith)

  pub pushed_fields_lem : (eid : ℕ) → fields_of (pushed psw eid) ≡ pushed_fields eid
  pushed_fields_lem eid = (push_word eid).1

  pub popped_fields_lem : fields_of (popped psw) ≡ popped_fields
  popped_fields_lem = pop_word.1

  pub pushed_lt : (eid : ℕ) → pushed psw eid < 2 ^ 28
  pushed_lt eid = (push_word eid).0

  pub popped_lt : popped psw < 2 ^ 28
  popped_lt = pop_word.0

-- exception entry leaves User Mode
pub pushed_kernel : (psw eid : ℕ) → user_mode (pushed psw eid) ≡ false
unfolding user_mode fields_of
pushed_kernel psw eid = ap (λ (f : Fields). eqb f.uc 1) (pushed_fields_lem psw eid)
